use Rattle.std.proofs.Common.{◌≡◌, ◌<◌, ℕ, None, length, get_or}
use Rattle.chess_fen.proofs.squares.by_number.Given as goal

-- the squares so far have their men
abbrev pub invariant-loop-number : goal.invariant-loop-number
invariant-loop-number l = record {
  whole : length l.squares ≡ 64;
  placed : (k : ℕ) → k < l.number → get_or l.squares k None ≡ get_or l.men k None;
}
