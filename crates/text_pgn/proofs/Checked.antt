-- The check of the position that a FEN tells.
use Rattle.std.proofs.Common.{◌≡◌, ◌↔◌, ℕ, List, Bool, IsTrue, Result, Ok, Err, sym, ap, ◌∙◌, subst}
use Rattle.chess_board.specs.Position.{Position, IsValid, IsInCheck}
use Rattle.chess_notation.specs.Fen.{IsFenOf}
use Rattle.chess_fen.specs.declared.fields.FenError.{FenError}
use Rattle.text_pgn.specs.Spectators.{IsCheckAt}

-- what a FEN is read as, where it is that of a valid position
abbrev pub IsRead : Result Position FenError → List ℕ → Type 0
IsRead result fen = (p : Position) → IsValid p → IsFenOf fen p → result ≡ Ok p

position_or : Position → Result Position FenError → Position
position_or other (Ok p) = p
position_or other (Err fault) = other

IsFault : Result Position FenError → Type 0
IsFault (Ok p) = ⊥
IsFault (Err fault) = Unit {0}

pub check_read : (result : Result Position FenError) (fen : List ℕ) (board : Position) (check : Bool) →
    IsRead result fen → result ≡ Ok board →
    (IsTrue check ↔ IsInCheck board.placement board.side) → IsCheckAt check fen
unfolding position_or
check_read result fen board check read is seen = λ p valid of.
    subst (λ (q : Position). IsTrue check ↔ IsInCheck q.placement q.side)
    (ap (position_or board) (sym is ∙ read p valid of)) seen

pub check_of_none : (result : Result Position FenError) (fen : List ℕ) (fault : FenError) (check : Bool) →
    IsRead result fen → result ≡ Err fault →
    IsCheckAt check fen
unfolding IsFault
check_of_none result fen fault check read is = λ p valid of. absurd (subst IsFault (sym is ∙ read p valid of) tt)
