-- What the server refuses.
use Rattle.std.specs.Prelude.{ℕ, ◌^◌, ◌<◌, ◌&&◌, List, [], ◌∷◌, codes, decimal, Option, None, Some, if◌then◌else◌}
use Rattle.std.specs.Str.{bytes_eq}
use Rattle.server_answers.specs.declared.refusals.Refusal.{Refusal}
use Rattle.server_answers.specs.declared.refusals.Refusal.TheVariants as refusals
use Rattle.server_answers.specs.Fields.{first_fields, has_fields, line_of}
use Rattle.server_answers.specs.Values.{u32_in}

-- `no NUMBER NAME`; a wrong PLY tells the present one
abbrev pub refusal_line : Refusal → List ℕ
refusal_line (refusals.WrongPly ply) = line_of (codes "no" ∷ codes "7" ∷ codes "WrongPly" ∷ decimal ply ∷ [])
refusal_line refusals.BadLine = codes "no 1 BadLine"
refusal_line refusals.NoName = codes "no 2 NoName"
refusal_line refusals.NoGame = codes "no 3 NoGame"
refusal_line refusals.NotSeated = codes "no 4 NotSeated"
refusal_line refusals.NotStarted = codes "no 5 NotStarted"
refusal_line refusals.Over = codes "no 6 Over"
refusal_line refusals.NotYourMove = codes "no 8 NotYourMove"
refusal_line refusals.BadMove = codes "no 9 BadMove"
refusal_line refusals.OfferStands = codes "no 10 OfferStands"
refusal_line refusals.NoOffer = codes "no 11 NoOffer"
refusal_line refusals.TooEarly = codes "no 12 TooEarly"
refusal_line refusals.AlreadyClaimed = codes "no 13 AlreadyClaimed"
refusal_line refusals.FlagUp = codes "no 14 FlagUp"
refusal_line refusals.Taken = codes "no 15 Taken"
refusal_line refusals.SamePlayer = codes "no 16 SamePlayer"
refusal_line refusals.BadFen = codes "no 17 BadFen"
refusal_line refusals.BadTime = codes "no 18 BadTime"
refusal_line refusals.TooManyGames = codes "no 19 TooManyGames"
refusal_line refusals.TooLong = codes "no 20 TooLong"
refusal_line refusals.NotOver = codes "no 21 NotOver"
refusal_line refusals.NoMemory = codes "no 22 NoMemory"
refusal_line refusals.BadMoment = codes "no 23 BadMoment"
refusal_line refusals.Finished = codes "no 24 Finished"

abbrev pub IsRefusal : Refusal → Type 0
IsRefusal (refusals.WrongPly ply) = ply < 2 ^ 32
IsRefusal _ = Unit {0}

-- ---- as they are read

abbrev pub fixed_in : List ℕ → Option Refusal
fixed_in line =
    if bytes_eq line (codes "no 1 BadLine") then Some refusals.BadLine
    else (if bytes_eq line (codes "no 2 NoName") then Some refusals.NoName
    else (if bytes_eq line (codes "no 3 NoGame") then Some refusals.NoGame
    else (if bytes_eq line (codes "no 4 NotSeated") then Some refusals.NotSeated
    else (if bytes_eq line (codes "no 5 NotStarted") then Some refusals.NotStarted
    else (if bytes_eq line (codes "no 6 Over") then Some refusals.Over
    else (if bytes_eq line (codes "no 8 NotYourMove") then Some refusals.NotYourMove
    else (if bytes_eq line (codes "no 9 BadMove") then Some refusals.BadMove
    else (if bytes_eq line (codes "no 10 OfferStands") then Some refusals.OfferStands
    else (if bytes_eq line (codes "no 11 NoOffer") then Some refusals.NoOffer
    else (if bytes_eq line (codes "no 12 TooEarly") then Some refusals.TooEarly
    else (if bytes_eq line (codes "no 13 AlreadyClaimed") then Some refusals.AlreadyClaimed
    else (if bytes_eq line (codes "no 14 FlagUp") then Some refusals.FlagUp
    else (if bytes_eq line (codes "no 15 Taken") then Some refusals.Taken
    else (if bytes_eq line (codes "no 16 SamePlayer") then Some refusals.SamePlayer
    else (if bytes_eq line (codes "no 17 BadFen") then Some refusals.BadFen
    else (if bytes_eq line (codes "no 18 BadTime") then Some refusals.BadTime
    else (if bytes_eq line (codes "no 19 TooManyGames") then Some refusals.TooManyGames
    else (if bytes_eq line (codes "no 20 TooLong") then Some refusals.TooLong
    else (if bytes_eq line (codes "no 21 NotOver") then Some refusals.NotOver
    else (if bytes_eq line (codes "no 22 NoMemory") then Some refusals.NoMemory
    else (if bytes_eq line (codes "no 23 BadMoment") then Some refusals.BadMoment
    else (if bytes_eq line (codes "no 24 Finished") then Some refusals.Finished
    else None))))))))))))))))))))))

abbrev pub wrong_ply : Option ℕ → Option Refusal
wrong_ply None = None
wrong_ply (Some ply) = Some (refusals.WrongPly ply)

abbrev pub wrong_ply_by : List (List ℕ) → Option Refusal
wrong_ply_by (first ∷ number ∷ name ∷ ply ∷ []) =
    if bytes_eq first (codes "no") && bytes_eq number (codes "7") && bytes_eq name (codes "WrongPly")
    then wrong_ply (u32_in ply) else None
wrong_ply_by _ = None

-- what a line refuses: that with a PLY has four fields
unfoldable pub refusal_in : List ℕ → Option Refusal
refusal_in line = if has_fields 4 line then wrong_ply_by (first_fields 4 line) else fixed_in line
