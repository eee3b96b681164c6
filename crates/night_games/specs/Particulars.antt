-- What a row of a file of particulars tells of a player.
use Rattle.std.specs.Prelude.{ℕ, suc, ◌==◌, Bool, true, not, ◌&&◌, ◌||◌, nat_le, nat_lt, List, [], ◌∷◌}
use Rattle.std.specs.Prelude.{length, codes, Option, None, Some, if◌then◌else◌}
use Rattle.std.specs.List.{list_all}
use Rattle.std.specs.Str.{bytes_eq}
use Rattle.night_report.specs.declared.particulars.Particulars.{Particulars}
use Rattle.night_report.specs.Particulars.{cell, is_empty}
use Rattle.night_report.specs.Order.{title_place}
use Rattle.night_games.specs.declared.roster_faults.RowFault.{RowFault}
use Rattle.night_games.specs.declared.roster_faults.RowFault.TheVariants as faults

-- how many columns stand before that of this name; all of them, where there is none
abbrev pub place_of : List ℕ → List (List ℕ) → ℕ
place_of word [] = 0
place_of word (column ∷ columns) = if bytes_eq column word then 0 else suc (place_of word columns)

-- what a row tells in the column of this name
abbrev pub told : List (List ℕ) → List (List ℕ) → List ℕ → List ℕ
told columns fields word = cell fields (place_of word columns)

-- the same of a number, where `0` tells nothing, as spreadsheets have it for who has none
abbrev pub number_told : List (List ℕ) → List (List ℕ) → List ℕ → List ℕ
number_told columns fields word =
    if bytes_eq (told columns fields word) (codes "0") then [] else told columns fields word

-- what is told of a player, and what a row tells, in one order
unfoldable pub texts_of : Particulars → List (List ℕ)
texts_of p =
    p.name.now ∷ p.full_name.now ∷ p.sex.now ∷ p.title.now ∷ p.rating.now ∷ p.federation.now ∷ p.fide_number.now
    ∷ p.born.now ∷ p.team.now ∷ p.board.now ∷ []

unfoldable pub texts_in : List (List ℕ) → List (List ℕ) → List (List ℕ)
texts_in columns fields =
    told columns fields (codes "name") ∷ told columns fields (codes "full_name") ∷ told columns fields (codes "sex")
    ∷ told columns fields (codes "title") ∷ number_told columns fields (codes "rating")
    ∷ told columns fields (codes "federation") ∷ number_told columns fields (codes "fide_number")
    ∷ told columns fields (codes "born") ∷ told columns fields (codes "team") ∷ told columns fields (codes "board") ∷ []

abbrev pub is_title : List ℕ → Bool
is_title text = is_empty text || nat_lt (title_place text) 8

abbrev pub is_sex : List ℕ → Bool
is_sex text = is_empty text || (bytes_eq text (codes "m") || bytes_eq text (codes "w"))

-- a sign of a form: `0` stands for a digit, `A` for a capital letter, each other byte for itself
abbrev pub is_as : ℕ → ℕ → Bool
is_as b sign =
    if sign == 48 then nat_le 48 b && nat_le b 57
    else (if sign == 65 then nat_le 65 b && nat_le b 90 else b == sign)

-- each byte of a text as a form's sign in its place has it, as far as both go
abbrev pub are_as : List ℕ → List ℕ → Bool
are_as [] form = true
are_as (b ∷ bs) [] = true
are_as (b ∷ bs) (sign ∷ form) = is_as b sign && are_as bs form

abbrev pub has_form : List ℕ → List ℕ → Bool
has_form text form = (length text == length form) && are_as text form

abbrev pub may_be : List ℕ → List ℕ → Bool
may_be text form = is_empty text || has_form text form

abbrev pub are_digits : List ℕ → Bool
are_digits [] = true
are_digits (b ∷ bs) = is_as b 48 && are_digits bs

-- a number of at most so many digits, without a zero before them, or nothing
abbrev pub is_number : ℕ → List ℕ → Bool
is_number most [] = true
is_number most (b ∷ bs) = not (b == 48) && (nat_le (length (b ∷ bs)) most && are_digits (b ∷ bs))

-- whether no byte is a control character of ASCII, as a tab or a line break, which a string of a PGN cannot have
abbrev pub is_shown_byte : ℕ → Bool
is_shown_byte b = nat_le 32 b && not (b == 127)

abbrev pub is_shown : List ℕ → Bool
is_shown text = list_all is_shown_byte text

-- the first thing that is wrong with what a row tells
unfoldable pub fault_in : List (List ℕ) → List (List ℕ) → Option RowFault
fault_in columns fields =
    if is_empty (told columns fields (codes "name")) then Some faults.NoName
    else (if not (is_shown (told columns fields (codes "full_name"))) then Some faults.BadFullName
    else (if not (is_sex (told columns fields (codes "sex"))) then Some faults.BadSex
    else (if not (is_title (told columns fields (codes "title"))) then Some faults.BadTitle
    else (if not (is_number 4 (number_told columns fields (codes "rating"))) then Some faults.BadRating
    else (if not (may_be (told columns fields (codes "federation")) (codes "AAA")) then Some faults.BadFederation
    else (if not (is_number 11 (number_told columns fields (codes "fide_number"))) then Some faults.BadNumber
    else (if not (may_be (told columns fields (codes "born")) (codes "0000/00/00")) then Some faults.BadBirth
    else (if not (is_shown (told columns fields (codes "team"))) then Some faults.BadTeam
    else (if not (is_number 4 (told columns fields (codes "board"))) then Some faults.BadBoard else None)))))))))
