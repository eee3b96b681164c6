-- All are told but those who come.
use Rattle.std.proofs.Common.{ℕ, ◌≤◌, ◌+◌, List, None, drop}
use Rattle.std.specs.Prelude.{min}
use Rattle.std.specs.BTreeMap.{get}
use Rattle.std.specs.Map.{count_at}
use Rattle.std.specs.Ordering.{nat_cmp}
use Rattle.lobby_loop.specs.declared.places.Class.TheVariants.{Own}
use Rattle.lobby_loop.specs.Places.{count_of, number_of}
use Rattle.lobby_loop.proofs.places.tally_of_own.Given as goal

abbrev pub invariant-loop-place : goal.invariant-loop-place
invariant-loop-place l =
    (name : List ℕ) → min 17 (count_of None (Own name) l.places)
    ≤ count_at (get nat_cmp l.tally) (number_of name) + count_of None (Own name) (drop l.place-index l.places)
