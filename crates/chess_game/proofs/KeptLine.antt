-- A line that goes on until its last move, with one move more.
use Rattle.std.proofs.Common.{◌≡◌, List, [], ◌∷◌, ◌++◌, None, refl, sym, ap, ◌∙◌, append_assoc}
use Rattle.std.proofs.lemmas.List.{same_from_push}
use Rattle.chess_board.specs.declared.moves.Move.{Move}
use Rattle.chess_board.specs.Position.{Position}
use Rattle.chess_entry.specs.Outcome.{ending_after}
use Rattle.chess_entry.specs.Bounds.{GoesOnUntilLast, ending_by_last}

-- a list with a member, by its last one
pub last_split : (x : Move) (xs : List Move) → (before : List Move) × (last : Move) × (x ∷ xs ≡ before ++ last ∷ [])
last_split x [] = ([], x, refl)
last_split x (y ∷ xs) =
    let rest = last_split y xs in
    (x ∷ rest.0, rest.1, ap (λ (ms : List Move). x ∷ ms) rest.2)

-- the ending that the last of some moves gives
pub ending_by_last-push : (start : Position) (before : List Move) (m : Move)
    → ending_by_last start (before ++ m ∷ []) ≡ ending_after start (before ++ m ∷ [])
ending_by_last-push start [] m = refl
ending_by_last-push start (n ∷ before) m = refl

pub GoesOnUntilLast-push : (start : Position) (moves : List Move) (m : Move) → GoesOnUntilLast start moves
    → ending_by_last start moves ≡ None → GoesOnUntilLast start (moves ++ m ∷ [])
GoesOnUntilLast-push start moves m goes_on none before n last [] same =
    let same_moves : moves ++ m ∷ [] ≡ (before ++ n ∷ []) ++ last ∷ [] = same ∙ sym (append_assoc before (n ∷ []) (last ∷ [])) in
    let parts = same_from_push moves (before ++ n ∷ []) m last same_moves in
    sym (ending_by_last-push start before n) ∙ ap (ending_by_last start) (sym parts.0) ∙ none
GoesOnUntilLast-push start moves m goes_on none before n last (r ∷ rest) same =
    let split = last_split r rest in
    let tail : List Move = n ∷ last ∷ split.0 in
    let whole : before ++ n ∷ last ∷ r ∷ rest ≡ before ++ (tail ++ split.1 ∷ []) =
    ap (λ (ms : List Move). before ++ n ∷ last ∷ ms) split.2 in
    let same_moves : moves ++ m ∷ [] ≡ (before ++ tail) ++ split.1 ∷ [] =
    same ∙ whole ∙ sym (append_assoc before tail (split.1 ∷ [])) in
    goes_on before n last split.0 (same_from_push moves (before ++ tail) m split.1 same_moves).0
