-- What legal moves keep, and what is no mate, tells that a side never mates.
use Rattle.std.specs.Prelude.{◌≡◌, List, [], ◌∷◌}
use Rattle.std.proofs.Common.{sym, subst, lit≤, lit<}
use Rattle.chess_bits.specs.declared.men.Colour.{Colour}
use Rattle.chess_board.specs.declared.moves.Move.{Move}
use Rattle.chess_board.specs.Position.{Position, Placement, IsValid}
use Rattle.chess_board.specs.Next.{next, placement_after}
use Rattle.chess_board.specs.Legal.{IsLegal}
use Rattle.chess_board.specs.Line.{position_after, IsLegalLine}
use Rattle.chess_board.proofs.ValidNext.{IsValid-next}
use Rattle.chess_san.specs.Boards.{DiffersInCounters, rewound}
use Rattle.chess_san.proofs.Counters.{next-recounted, IsLegal-recounted, IsValid-recounted, IsValid-like}
use Rattle.chess_mates.specs.Mates.{IsMatedBy, CanMate}

-- legal moves keep it
abbrev pub IsKept : (Position → Type 0) → Type 0
IsKept P = (p : Position) (m : Move) → P p → IsLegal p m → P (next p m)

never_along : (side : Colour) (P : Position → Type 0) → IsKept P → ((p : Position) → P p → ¬ IsMatedBy side p) →
    (p : Position) (moves : List Move) → P p → IsLegalLine p moves → ¬ IsMatedBy side (position_after p moves)
never_along side P kept none p [] here line = none p here
never_along side P kept none p (m ∷ moves) here line =
    never_along side P kept none (next p m) moves (kept p m here line.0) line.1

pub never : (side : Colour) (P : Position → Type 0) → IsKept P → ((p : Position) → P p → ¬ IsMatedBy side p) →
    (p : Position) → P p → ¬ CanMate side p
never side P kept none p here can = never_along side P kept none p can.moves here can.line.legal can.line.mated

-- valid, but for counters that may be too high
abbrev pub IsSound : Position → Type 0
IsSound p = IsValid (rewound p)

pub IsSound-valid : (p : Position) → IsValid p → IsSound p
IsSound-valid p valid = IsValid-recounted p 0 1 valid (lit≤ tt, lit≤ tt, lit≤ tt)

next_rewound : (p : Position) (m : Move) → DiffersInCounters (next (rewound p) m) (rewound (next p m))
next_rewound p m =
    let d = next-recounted p m 0 1 in
    record { placement = sym d.placement; side = sym d.side; rights = sym d.rights; target = sym d.target }

pub IsSound-next : (p : Position) (m : Move) → IsSound p → IsLegal p m → IsSound (next p m)
IsSound-next p m sound legal =
    IsValid-like (next (rewound p) m) (rewound (next p m)) (next_rewound p m)
    (IsValid-next (rewound p) m sound (IsLegal-recounted p m 0 1 legal) (lit< tt) (lit< tt))
    (lit≤ tt, lit≤ tt, lit≤ tt)

-- what the moves of valid positions keep of the men
abbrev pub IsKeptOfMen : (Placement → Type 0) → Type 0
IsKeptOfMen Q = (p : Position) (m : Move) → IsValid p → IsLegal p m → Q p.placement → Q (placement_after p m)

pub kept_men : (Q : Placement → Type 0) → IsKeptOfMen Q → IsKept (λ p. IsSound p × Q p.placement)
kept_men Q kept p m here legal = (
  IsSound-next p m here.0 legal,
  subst Q (next-recounted p m 0 1).placement
      (kept (rewound p) m here.0 (IsLegal-recounted p m 0 1 legal) here.1),
)
