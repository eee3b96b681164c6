-- What holds of each of a list, and of one more.
use Rattle.std.specs.Prelude.{List, [], ◌∷◌, ◌++◌}
use Rattle.chess_board.specs.Legal.{EachOf}

pub EachOf-push : {A : Type 0} (P : A → Type 0) (xs : List A) (x : A) → EachOf P xs → P x → EachOf P (xs ++ x ∷ [])
EachOf-push P [] x each last = (last, tt)
EachOf-push P (y ∷ xs) x each last = (each.0, EachOf-push P xs x each.1 last)
