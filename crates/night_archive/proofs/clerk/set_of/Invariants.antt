use Rattle.std.proofs.Common.{ℕ, ◌≡◌, take}
use Rattle.std.specs.BTreeSet as set
use Rattle.std.specs.Ordering.{nat_cmp}
use Rattle.night_archive.specs.Files.{contains}
use Rattle.night_archive.proofs.clerk.set_of.Given as goal

abbrev pub invariant-loop-game : goal.invariant-loop-game
invariant-loop-game l = (g : ℕ) → set.contains nat_cmp l.kept g ≡ contains g (take l.game-index l.archive)
