use Rattle.std.proofs.Common.{ℕ, ◌≡◌, ◌<◌, length, get_or, None}
use Rattle.chess_san.proofs.threat.rewound.Given as goal

-- the squares so far have their men
abbrev pub invariant-loop-number : goal.invariant-loop-number
invariant-loop-number l = record {
  whole : length l.men ≡ 64;
  placed : (k : ℕ) → k < l.number → get_or l.men k None ≡ get_or l.board.placement k None;
}
