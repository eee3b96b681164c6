use Rattle.std.proofs.Common.{◌≡◌, ◌++◌, drop, false}
use Rattle.text_parts.specs.Strings.{unescaped_from}
use Rattle.text_parts.proofs.escaping.unescaped.Given as goal

abbrev pub invariant-loop-byte : goal.invariant-loop-byte
invariant-loop-byte l =
    l.plain.items ++ unescaped_from l.is_behind (drop l.byte-index l.text) ≡ unescaped_from false l.text
