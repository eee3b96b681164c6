-- A move by the rules of a kind is the way that the man goes, and what it becomes.
use Rattle.std.specs.Prelude.{◌≡◌, ◌⊎◌, ◌↔◌, Bool, true, List, Option, Some, None}
use Rattle.std.proofs.Common.{inl, inr, refl}
use Rattle.chess_bits.specs.declared.men.Kind.{Kind}
use Rattle.chess_bits.specs.declared.men.Kind.TheVariants.{Pawn, Knight, Bishop, Rook, Queen, King}
use Rattle.chess_bits.specs.Square.{Square, IsOnBoard}
use Rattle.chess_bits.specs.Table.{has, IsSetOf}
use Rattle.chess_bits.proofs.ManLemmas.{same_kind}
use Rattle.chess_board.specs.declared.castling.Wing.{Wing}
use Rattle.chess_board.specs.declared.castling.Wing.TheVariants as wing
use Rattle.chess_board.specs.declared.moves.Move.{Move}
use Rattle.chess_board.specs.Position.{Position, man_at}
use Rattle.chess_board.specs.Legal.{Advances, AdvancesTwo, PawnTakes, TakesEnPassant, IsPieceMove, Castles, IsMoveOf, IsCandidate}
use Rattle.chess_moves.specs.Targets.{plain, GoesTo, Becomes}

piece_of : (p : Position) (m : Move) (kind : Kind) → IsPieceMove p (plain m.from m.to) kind → m.promotion ≡ None →
    IsPieceMove p m kind
piece_of p m kind goes none = record { attacked = goes.attacked; free = goes.free; no_promotion = none }

plain_piece : (p : Position) (m : Move) (kind : Kind) → IsPieceMove p m kind → IsPieceMove p (plain m.from m.to) kind
plain_piece p m kind move = record { attacked = move.attacked; free = move.free; no_promotion = refl }

castles_of : (p : Position) (m : Move) (w : Wing) → Castles p (plain m.from m.to) w → m.promotion ≡ None → Castles p m w
castles_of p m w goes none = record {
  right = goes.right;
  from = goes.from;
  to = goes.to;
  empty = goes.empty;
  unattacked = goes.unattacked;
  no_promotion = none;
}

plain_castles : (p : Position) (m : Move) (w : Wing) → Castles p m w → Castles p (plain m.from m.to) w
plain_castles p m w castles = record {
  right = castles.right;
  from = castles.from;
  to = castles.to;
  empty = castles.empty;
  unattacked = castles.unattacked;
  no_promotion = refl;
}

-- what a pawn becomes does not matter to its way
abbrev PawnWay : Position → Move → Type 0
PawnWay p m = Advances p m ⊎ AdvancesTwo p m ⊎ PawnTakes p m ⊎ TakesEnPassant p m

same_way : (p : Position) (from to : Square) (a b : Option Kind) →
    PawnWay p (record { from = from; to = to; promotion = a }) →
    PawnWay p (record { from = from; to = to; promotion = b })
same_way p from to a b way = elim way [
  | inl one ↦ inl (record { there = one.there; empty = one.empty })
  | inr (inl two) ↦ inr (inl (record {
    first = two.first;
    there = two.there;
    crossed_empty = two.crossed_empty;
    empty = two.empty;
  }))
  | inr (inr (inl takes)) ↦ inr (inr (inl (record { attacked = takes.attacked; taken = takes.taken })))
  | inr (inr (inr passes)) ↦ inr (inr (inr (record { attacked = passes.attacked; crossed = passes.crossed })))
]

pub move_of_parts : (p : Position) (m : Move) (kind : Kind) → GoesTo p kind m.from m.to →
    Becomes p.side kind m.to m.promotion → IsMoveOf p m kind
move_of_parts p m Pawn goes becomes = record {
  way = same_way p m.from m.to None m.promotion goes;
  promotion = becomes;
}
move_of_parts p m Knight goes becomes = piece_of p m Knight goes becomes
move_of_parts p m Bishop goes becomes = piece_of p m Bishop goes becomes
move_of_parts p m Rook goes becomes = piece_of p m Rook goes becomes
move_of_parts p m Queen goes becomes = piece_of p m Queen goes becomes
move_of_parts p m King goes becomes = elim goes [
  | inl piece ↦ inl (piece_of p m King piece becomes)
  | inr (inl castles) ↦ inr (inl (castles_of p m wing.King castles becomes))
  | inr (inr castles) ↦ inr (inr (castles_of p m wing.Queen castles becomes))
]

pub goes_of_move : (p : Position) (m : Move) (kind : Kind) → IsMoveOf p m kind → GoesTo p kind m.from m.to
goes_of_move p m Pawn move = same_way p m.from m.to m.promotion None move.way
goes_of_move p m Knight move = plain_piece p m Knight move
goes_of_move p m Bishop move = plain_piece p m Bishop move
goes_of_move p m Rook move = plain_piece p m Rook move
goes_of_move p m Queen move = plain_piece p m Queen move
goes_of_move p m King (inl piece) = inl (plain_piece p m King piece)
goes_of_move p m King (inr (inl castles)) = inr (inl (plain_castles p m wing.King castles))
goes_of_move p m King (inr (inr castles)) = inr (inr (plain_castles p m wing.Queen castles))

pub becomes_of_move : (p : Position) (m : Move) (kind : Kind) → IsMoveOf p m kind →
    Becomes p.side kind m.to m.promotion
becomes_of_move p m Pawn move = move.promotion
becomes_of_move p m Knight move = move.no_promotion
becomes_of_move p m Bishop move = move.no_promotion
becomes_of_move p m Rook move = move.no_promotion
becomes_of_move p m Queen move = move.no_promotion
becomes_of_move p m King (inl piece) = piece.no_promotion
becomes_of_move p m King (inr (inl castles)) = castles.no_promotion
becomes_of_move p m King (inr (inr castles)) = castles.no_promotion

-- the move where the square reached is among the targets
pub told_move : (p : Position) (m : Move) (kind : Kind) (set : List Bool) (b : Bool) →
    IsSetOf set (GoesTo p kind m.from) → IsOnBoard m.to → has set m.to ≡ true →
    (b ≡ true) ↔ Becomes p.side kind m.to m.promotion → (b ≡ true) ↔ IsMoveOf p m kind
told_move p m kind set b of on here is = (
  λ yes. move_of_parts p m kind ((of.exact m.to on).0 here) (is.0 yes),
  λ move. is.1 (becomes_of_move p m kind move),
)

-- a candidate by the kind that stands on the square left
pub candidate_kind : (p : Position) (m : Move) (kind : Kind) → man_at p.placement m.from ≡ Some (p.side, kind) →
    IsCandidate p m → IsMoveOf p m kind
candidate_kind p m kind own candidate =
    let same : candidate.kind ≡ kind =
    same_kind (man_at p.placement m.from) (p.side, candidate.kind) (p.side, kind) candidate.own own in
    rw same at candidate.rule
