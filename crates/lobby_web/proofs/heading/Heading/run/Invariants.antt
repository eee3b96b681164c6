-- What the rest of them make of it, all of them make of it.
use Rattle.std.proofs.Common.{◌≡◌, ◌||◌, drop}
use Rattle.lobby_web.specs.Heading.{heading_after, has_end}
use Rattle.lobby_web.proofs.heading.Heading.run.Given as goal

abbrev pub invariant-loop-byte : goal.invariant-loop-byte
invariant-loop-byte l =
    (heading_after l.fn.self l.bytes ≡ heading_after l.self (drop l.byte-index l.bytes))
    × (has_end l.fn.self l.bytes ≡ (l.has_end || has_end l.self (drop l.byte-index l.bytes)))
