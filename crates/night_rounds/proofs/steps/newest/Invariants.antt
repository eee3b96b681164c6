use Rattle.std.proofs.Common.{ℕ, ◌≡◌, ◌&&◌, drop}
use Rattle.night_rounds.specs.Newer.{is_newer, is_newest}
use Rattle.night_rounds.specs.Steps.{numbers_of}
use Rattle.night_rounds.proofs.steps.newest.Given as goal

abbrev pub invariant-loop-row : goal.invariant-loop-row
invariant-loop-row l =
    (n : ℕ) → (is_newer l.newest n && is_newest (numbers_of (drop l.row-index l.rows)) n) ≡ is_newest (numbers_of l.rows) n
