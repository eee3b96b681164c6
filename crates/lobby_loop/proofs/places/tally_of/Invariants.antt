-- All are told but those who come.
use Rattle.std.proofs.Common.{ℕ, ◌≤◌, ◌+◌, Some, drop}
use Rattle.std.specs.Prelude.{min}
use Rattle.std.specs.BTreeMap.{get}
use Rattle.std.specs.Map.{count_at}
use Rattle.std.specs.Ordering.{nat_cmp}
use Rattle.lobby_loop.specs.declared.places.Class.TheVariants.{Nameless}
use Rattle.lobby_loop.specs.Places.{count_of}
use Rattle.lobby_loop.proofs.places.tally_of.Given as goal

abbrev pub invariant-loop-place : goal.invariant-loop-place
invariant-loop-place l =
    (a : ℕ) → min 33 (count_of (Some a) Nameless l.places)
    ≤ count_at (get nat_cmp l.tally) a + count_of (Some a) Nameless (drop l.place-index l.places)
