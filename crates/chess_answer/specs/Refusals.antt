-- The answers to what is refused.
use Rattle.std.specs.Prelude.{ℕ, List, [], ◌∷◌, codes, decimal}
use Rattle.chess_entry.specs.declared.refusals.Refusal.{Refusal}
use Rattle.chess_entry.specs.declared.refusals.Refusal.TheVariants.{BadLine, NoName, NoGame, NotSeated, NotStarted}
use Rattle.chess_entry.specs.declared.refusals.Refusal.TheVariants.{Over, WrongPly, NotYourMove, BadMove, OfferStands}
use Rattle.chess_entry.specs.declared.refusals.Refusal.TheVariants.{NoOffer, TooEarly, AlreadyClaimed, FlagUp, Taken}
use Rattle.chess_entry.specs.declared.refusals.Refusal.TheVariants.{SamePlayer, BadFen, BadTime, TooManyGames, TooLong}
use Rattle.chess_entry.specs.declared.refusals.Refusal.TheVariants.{NotOver, NoMemory, BadMoment, Finished}
use Rattle.chess_answer.specs.Fields.{with_fields}

-- the number and the name of a refusal
pub record Row : Type 0 where
  pub number : ℕ
  pub name : List ℕ

abbrev pub row : ℕ → List ℕ → Row
row number name = record { number = number; name = name }

-- the table of refusals
abbrev pub row_of : Refusal → Row
row_of BadLine = row 1 (codes "BadLine")
row_of NoName = row 2 (codes "NoName")
row_of NoGame = row 3 (codes "NoGame")
row_of NotSeated = row 4 (codes "NotSeated")
row_of NotStarted = row 5 (codes "NotStarted")
row_of Over = row 6 (codes "Over")
row_of (WrongPly ply) = row 7 (codes "WrongPly")
row_of NotYourMove = row 8 (codes "NotYourMove")
row_of BadMove = row 9 (codes "BadMove")
row_of OfferStands = row 10 (codes "OfferStands")
row_of NoOffer = row 11 (codes "NoOffer")
row_of TooEarly = row 12 (codes "TooEarly")
row_of AlreadyClaimed = row 13 (codes "AlreadyClaimed")
row_of FlagUp = row 14 (codes "FlagUp")
row_of Taken = row 15 (codes "Taken")
row_of SamePlayer = row 16 (codes "SamePlayer")
row_of BadFen = row 17 (codes "BadFen")
row_of BadTime = row 18 (codes "BadTime")
row_of TooManyGames = row 19 (codes "TooManyGames")
row_of TooLong = row 20 (codes "TooLong")
row_of NotOver = row 21 (codes "NotOver")
row_of NoMemory = row 22 (codes "NoMemory")
row_of BadMoment = row 23 (codes "BadMoment")
row_of Finished = row 24 (codes "Finished")

-- Only a wrong PLY tells more: the present one.
abbrev pub ply_fields : Refusal → List (List ℕ)
ply_fields (WrongPly ply) = decimal ply ∷ []
ply_fields _ = []

-- `no NUMBER NAME`
abbrev pub refusal_text : Refusal → List ℕ
refusal_text refusal =
    with_fields (codes "no") (decimal (row_of refusal).number ∷ (row_of refusal).name ∷ ply_fields refusal)
