-- The moves of a game can be kept in records.
use Rattle.std.specs.Prelude.{List, [], ◌∷◌, ◌++◌, Option, Some, None}
use Rattle.std.specs.List.{AllByRecursion}
use Rattle.std.proofs.Common.{subst, sym, inl, inr}
use Rattle.chess_bits.specs.declared.men.Kind.{Kind}
use Rattle.chess_board.specs.declared.moves.Move.{Move}
use Rattle.chess_board.specs.Position.{Position}
use Rattle.chess_board.specs.Next.{next}
use Rattle.chess_board.specs.Line.{IsLegalLine}
use Rattle.chess_board.specs.Legal.{IsPromotionKind, IsLegal}
use Rattle.chess_board.proofs.LegalMoves.{CanBecome as MayBecome, becomes}
use Rattle.rec_codec.specs.Moves.{CanBecome}

piece_becomes : (kind : Kind) → IsPromotionKind kind → CanBecome (Some kind)
piece_becomes _ (inl e) = subst (λ (k : Kind). CanBecome (Some k)) (sym e) tt
piece_becomes _ (inr (inl e)) = subst (λ (k : Kind). CanBecome (Some k)) (sym e) tt
piece_becomes _ (inr (inr (inl e))) = subst (λ (k : Kind). CanBecome (Some k)) (sym e) tt
piece_becomes _ (inr (inr (inr e))) = subst (λ (k : Kind). CanBecome (Some k)) (sym e) tt

kept_becomes : (promotion : Option Kind) → MayBecome promotion → CanBecome promotion
kept_becomes None h = tt
kept_becomes (Some kind) h = piece_becomes kind h

pub CanBecome-legal : (p : Position) (m : Move) → IsLegal p m → CanBecome m.promotion
CanBecome-legal p m legal =
    kept_becomes m.promotion (becomes p m legal.candidate.kind legal.candidate.rule)

abbrev pub AllBecome : List Move → Type 0
AllBecome moves = AllByRecursion (λ m. CanBecome m.promotion) moves

pub AllBecome-legal : (start : Position) (moves : List Move) → IsLegalLine start moves → AllBecome moves
AllBecome-legal start [] legal = tt
AllBecome-legal start (m ∷ moves) legal =
    (CanBecome-legal start m legal.0, AllBecome-legal (next start m) moves legal.1)

pub AllBecome-first : (front rest : List Move) → AllBecome (front ++ rest) → AllBecome front
AllBecome-first [] rest all = tt
AllBecome-first (m ∷ front) rest all = (all.0, AllBecome-first front rest all.1)

pub AllBecome-rest : (front rest : List Move) → AllBecome (front ++ rest) → AllBecome rest
AllBecome-rest [] rest all = all
AllBecome-rest (m ∷ front) rest all = AllBecome-rest front rest all.1
