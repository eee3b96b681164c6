-- The counters do not matter to the legal lines.
use Rattle.std.specs.Prelude.{ℕ, List, [], ◌∷◌}
use Rattle.std.proofs.Common.{sym, subst, refl}
use Rattle.chess_board.specs.declared.moves.Move.{Move}
use Rattle.chess_board.specs.Position.{Position}
use Rattle.chess_board.specs.Next.{next}
use Rattle.chess_board.specs.Legal.{IsLegal}
use Rattle.chess_board.specs.Line.{IsLegalLine}
use Rattle.chess_san.specs.Boards.{DiffersInCounters, rewound}
use Rattle.chess_san.proofs.Counters.{recounted-is, next-recounted, IsLegal-recounted}
use Rattle.perft.specs.Lines.{IsNumberOfLines, IsCount}

next_like : (a b : Position) (m : Move) → DiffersInCounters a b → DiffersInCounters (next a m) (next b m)
next_like a b m d =
    subst (λ (q : Position). DiffersInCounters (next a m) (next q m)) (sym (recounted-is a b d))
    (next-recounted a m b.halfmove b.fullmove)

legal_like : (a b : Position) (m : Move) → DiffersInCounters a b → IsLegal a m → IsLegal b m
legal_like a b m d legal =
    subst (λ (q : Position). IsLegal q m) (sym (recounted-is a b d)) (IsLegal-recounted a m b.halfmove b.fullmove legal)

line_like : (a b : Position) (line : List Move) → DiffersInCounters a b → IsLegalLine a line → IsLegalLine b line
line_like a b [] d legal = tt
line_like a b (m ∷ line) d legal =
    (legal_like a b m d legal.0, line_like (next a m) (next b m) line (next_like a b m d) legal.1)

from_rewound : (p : Position) → DiffersInCounters (rewound p) p
from_rewound p = record { placement = refl; side = refl; rights = refl; target = refl }

to_rewound : (p : Position) → DiffersInCounters p (rewound p)
to_rewound p = record { placement = refl; side = refl; rights = refl; target = refl }

number_like : (p : Position) (depth n : ℕ) → IsNumberOfLines (rewound p) depth n → IsNumberOfLines p depth n
number_like p depth n h = record {
  lines = h.lines;
  are = record {
    exact = λ line. (
      λ here.
          let good = (h.are.exact line).0 here in
          (line_like (rewound p) p line (from_rewound p) good.0, good.1),
      λ good. (h.are.exact line).1 (line_like p (rewound p) line (to_rewound p) good.0, good.1),
    );
    distinct = h.are.distinct;
  };
  number = h.number;
}

pub count_like : (p : Position) (depth count : ℕ) → IsCount (rewound p) depth count → IsCount p depth count
count_like p depth count h = (h.0, number_like p depth h.0 h.1, h.2)
