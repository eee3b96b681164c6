-- A note that was written is read as it was.
use Rattle.std.proofs.Common.{ℕ, ◌≡◌, ◌<◌, ◌^◌, ◌==◌, ◌&&◌, Bool, true, false, List, [], ◌∷◌, ◌++◌, length, codes, decimal, Option, Some, None, refl, sym, ap, ◌∙◌, arith, if◌then◌else◌}
use Rattle.std.specs.Prelude.{nat_le}
use Rattle.std.specs.List.{list_all, list_any}
use Rattle.std.specs.Str.{bytes_eq}
use Rattle.std.proofs.lemmas.Bool.{false≢true, and_parts, or_from, or_parts}
use Rattle.std.proofs.lemmas.Bool.Decides.{Decides-eqb}
use Rattle.std.proofs.lemmas.Slice.Eq.{bytes_eq-Decides}
use Rattle.text_parts.proofs.Cuts.{Lacks, lacks_more, lacks_both, before_at, after_at}
use Rattle.player_name.specs.Name.{is_name_byte}
use Rattle.lobby_words.specs.Words.{number_or_0}
use Rattle.lobby_words.specs.Waiting.{is_name}
use Rattle.night_rounds.specs.Times.{front_of}
use Rattle.night_rounds.specs.Rows.{name_in}
use Rattle.night_rounds.specs.Notes.{NoteState, Reached, Opening, Opened, Joined, IsNote, IsReached, stage_word, value_text, older_text, older_in, quoted, member_text, note_text, value_of, unquoted, member_in, behind_one, behind_two, behind_three, board_in, white_in, black_in, last_value, stage_in, reached_in, likely_of, likely_note, where_spelled, note_in}
use Rattle.night_rounds.proofs.Spelled.{lacks_below, lacks_above, number_back}

-- a byte that stands in no name stands in none of these names
not_one : (c d : ℕ) (t : Bool) → (d == c) ≡ t → is_name_byte c ≡ false → is_name_byte d ≡ true → (d == c) ≡ false
not_one c d true e out inside = absurd (false≢true (sym out ∙ (ap is_name_byte (sym ((Decides-eqb d c).0 e)) ∙ inside)))
not_one c d false e out inside = e

name_lacks : (c : ℕ) (text : List ℕ) → is_name_byte c ≡ false → list_all is_name_byte text ≡ true → Lacks c text
name_lacks c [] out all = refl
name_lacks c (d ∷ text) out all =
    or_from (d == c) _ (not_one c d (d == c) refl out (and_parts (is_name_byte d) (list_all is_name_byte text) all).0)
    (name_lacks c text out (and_parts (is_name_byte d) (list_all is_name_byte text) all).1)

all_of : (a b c : Bool) → (a && b && c) ≡ true → c ≡ true
all_of true true c h = h
all_of true false c h = absurd (false≢true h)
all_of false b c h = absurd (false≢true h)

bytes_of : (name : List ℕ) → is_name name ≡ true → list_all is_name_byte name ≡ true
bytes_of name is = all_of (nat_le 1 (length name)) (nat_le (length name) 16) (list_all is_name_byte name) is

named : (name : List ℕ) → is_name name ≡ true → name_in name ≡ Some name
named name is = ap (λ (b : Bool). if b then Some name else None) is

-- a member with a name's value
quoted_back : (front name : List ℕ) → Lacks 58 front → is_name name ≡ true → name_in (unquoted (value_of (front ++ (58 ∷ quoted name)))) ≡ Some name
quoted_back front name low is =
    let bytes = bytes_of name is in
    ap (λ (t : List ℕ). name_in (unquoted t)) (after_at 58 front (quoted name) low)
    ∙ (ap (λ (t : List ℕ). name_in (front_of 34 t)) (after_at 34 [] (name ++ (34 ∷ [])) refl)
    ∙ (ap name_in (before_at 34 name [] (name_lacks 34 name refl bytes)) ∙ named name is))

lacks_comma : (front name : List ℕ) → Lacks 44 front → is_name name ≡ true → Lacks 44 (front ++ (58 ∷ quoted name))
lacks_comma front name low is =
    let bytes = bytes_of name is in
    lacks_both 44 front (58 ∷ quoted name) low
    (lacks_more 44 58 (quoted name) (λ e. omega (arith, e)) (lacks_more 44 34 (name ++ (34 ∷ [])) (λ e. omega (arith, e))
    (lacks_both 44 name (34 ∷ []) (name_lacks 44 name refl bytes) refl)))

-- the game that is older: its number ends before the note's end, and is not `[]`
lacks_brace : (older : Option ℕ) → IsReached (Opening older) → Lacks 125 (older_text older)
lacks_brace None is = refl
lacks_brace (Some game) is = lacks_above 125 game (omega arith) is

no_brackets : (text : List ℕ) → Lacks 91 text → bytes_eq text (codes "[]") ≡ false
no_brackets [] low = refl
no_brackets (b ∷ text) low = rw (or_parts (b == 91) (list_any (λ x. x == 91) text) low).0 refl

older_back : (older : Option ℕ) → IsReached (Opening older) → older_in (older_text older) ≡ older
older_back None is = refl
older_back (Some game) is =
    ap (λ (b : Bool). if b then None else Some (number_or_0 (decimal game))) (no_brackets (decimal game) (lacks_above 91 game (omega arith) is))
    ∙ ap (λ (n : ℕ). Some n) (number_back game is)

abbrev board_front : List ℕ
board_front = 123 ∷ quoted (codes "board")

abbrev end_of : Reached → List ℕ
end_of stage = member_text (stage_word stage) (value_text stage) ++ (125 ∷ [])

abbrev from_black : List ℕ → Reached → List ℕ
from_black black stage = member_text (codes "black") (quoted black) ++ (44 ∷ end_of stage)

abbrev from_white : List ℕ → List ℕ → Reached → List ℕ
from_white white black stage = member_text (codes "white") (quoted white) ++ (44 ∷ from_black black stage)

abbrev whole : ℕ → List ℕ → List ℕ → Reached → List ℕ
whole board white black stage = (board_front ++ (58 ∷ decimal board)) ++ (44 ∷ from_white white black stage)

lacks_board : (board : ℕ) → board < 2 ^ 32 → Lacks 44 (board_front ++ (58 ∷ decimal board))
lacks_board board small =
    lacks_both 44 board_front (58 ∷ decimal board) refl (lacks_more 44 58 (decimal board) (λ e. omega (arith, e)) (lacks_below 44 board (omega arith) small))

behind_board : (board : ℕ) (rest : List ℕ) → board < 2 ^ 32 → behind_one ((board_front ++ (58 ∷ decimal board)) ++ (44 ∷ rest)) ≡ rest
behind_board board rest small = after_at 44 (board_front ++ (58 ∷ decimal board)) rest (lacks_board board small)

board_back : (board : ℕ) (rest : List ℕ) → board < 2 ^ 32 → board_in ((board_front ++ (58 ∷ decimal board)) ++ (44 ∷ rest)) ≡ board
board_back board rest small =
    ap (λ (t : List ℕ). number_or_0 (value_of t)) (before_at 44 (board_front ++ (58 ∷ decimal board)) rest (lacks_board board small))
    ∙ (ap number_or_0 (after_at 58 board_front (decimal board) refl) ∙ number_back board small)

-- a member with a name's value, and what stands behind it
behind_name : (word name rest : List ℕ) → Lacks 44 (quoted word) → is_name name ≡ true → behind_one (member_text word (quoted name) ++ (44 ∷ rest)) ≡ rest
behind_name word name rest low is = after_at 44 (member_text word (quoted name)) rest (lacks_comma (quoted word) name low is)

name_back : (word name rest : List ℕ) → Lacks 44 (quoted word) → Lacks 58 (quoted word) → is_name name ≡ true →
    name_in (unquoted (value_of (member_in (member_text word (quoted name) ++ (44 ∷ rest))))) ≡ Some name
name_back word name rest low one is =
    ap (λ (t : List ℕ). name_in (unquoted (value_of t)))
    (before_at 44 (member_text word (quoted name)) rest (lacks_comma (quoted word) name low is))
    ∙ quoted_back (quoted word) name one is

word_by : (word rest : List ℕ) → Lacks 34 word → unquoted (34 ∷ (word ++ (34 ∷ rest))) ≡ word
word_by word rest low = ap (front_of 34) (after_at 34 [] (word ++ (34 ∷ rest)) refl) ∙ before_at 34 word rest low

word_back : (stage : Reached) → unquoted (end_of stage) ≡ stage_word stage
word_back (Opening older) = word_by (codes "opening") (58 ∷ (older_text older ++ (125 ∷ []))) refl
word_back (Opened game) = word_by (codes "opened") (58 ∷ (decimal game ++ (125 ∷ []))) refl
word_back (Joined game) = word_by (codes "joined") (58 ∷ (decimal game ++ (125 ∷ []))) refl

end_by : (front value : List ℕ) → Lacks 125 value → Lacks 58 front → front_of 125 (value_of (front ++ (58 ∷ (value ++ (125 ∷ []))))) ≡ value
end_by front value high low =
    ap (front_of 125) (after_at 58 front (value ++ (125 ∷ [])) low) ∙ before_at 125 value [] high

value_back : (stage : Reached) → IsReached stage → front_of 125 (value_of (end_of stage)) ≡ value_text stage
value_back (Opening older) is = end_by (quoted (codes "opening")) (older_text older) (lacks_brace older is) refl
value_back (Opened game) is = end_by (quoted (codes "opened")) (decimal game) (lacks_above 125 game (omega arith) is) refl
value_back (Joined game) is = end_by (quoted (codes "joined")) (decimal game) (lacks_above 125 game (omega arith) is) refl

reached_back : (stage : Reached) → IsReached stage → reached_in (stage_word stage) (value_text stage) ≡ Some stage
reached_back (Opening older) is = ap (λ (o : Option ℕ). Some (Opening o)) (older_back older is)
reached_back (Opened game) is = ap (λ (n : ℕ). Some (Opened n)) (number_back game is)
reached_back (Joined game) is = ap (λ (n : ℕ). Some (Joined n)) (number_back game is)

-- where the members of a whole line are
two_behind : (n : NoteState) → IsNote n → behind_two (whole n.board n.white n.black n.stage) ≡ from_black n.black n.stage
two_behind n is =
    ap behind_one (behind_board n.board (from_white n.white n.black n.stage) is.board) ∙ behind_name (codes "white") n.white (from_black n.black n.stage) refl is.white

three_behind : (n : NoteState) → IsNote n → behind_three (whole n.board n.white n.black n.stage) ≡ end_of n.stage
three_behind n is = ap behind_one (two_behind n is) ∙ behind_name (codes "black") n.black (end_of n.stage) refl is.black

stage_back : (n : NoteState) → IsNote n → stage_in (whole n.board n.white n.black n.stage) ≡ Some n.stage
stage_back n is =
    let line = whole n.board n.white n.black n.stage in
    ap (λ (t : List ℕ). reached_in (unquoted t) (last_value line)) (three_behind n is)
    ∙ (ap (λ (w : List ℕ). reached_in w (last_value line)) (word_back n.stage)
    ∙ (ap (λ (t : List ℕ). reached_in (stage_word n.stage) (front_of 125 (value_of t))) (three_behind n is)
    ∙ (ap (reached_in (stage_word n.stage)) (value_back n.stage is.stage) ∙ reached_back n.stage is.stage)))

likely_by : (board : ℕ) (white black : Option (List ℕ)) (stage : Option Reached) (n : NoteState) → board ≡ n.board →
    white ≡ Some n.white → black ≡ Some n.black → stage ≡ Some n.stage → likely_of board white black stage ≡ Some n
likely_by board white black stage n b w k s =
    ap (λ (x : ℕ). likely_of x white black stage) b
    ∙ (ap (λ (x : Option (List ℕ)). likely_of n.board x black stage) w
    ∙ (ap (λ (x : Option (List ℕ)). likely_of n.board (Some n.white) x stage) k
    ∙ ap (λ (x : Option Reached). likely_of n.board (Some n.white) (Some n.black) x) s))

likely_back : (n : NoteState) → IsNote n → likely_note (note_text n) ≡ Some n
unfolding likely_note note_text
likely_back n is =
    let rest = from_white n.white n.black n.stage in
    let line = whole n.board n.white n.black n.stage in
    likely_by (board_in line) (white_in line) (black_in line) (stage_in line) n
    (board_back n.board rest is.board)
    (ap (λ (t : List ℕ). name_in (unquoted (value_of (member_in t)))) (behind_board n.board rest is.board)
    ∙ name_back (codes "white") n.white (from_black n.black n.stage) refl refl is.white)
    (ap (λ (t : List ℕ). name_in (unquoted (value_of (member_in t)))) (two_behind n is)
    ∙ name_back (codes "black") n.black (end_of n.stage) refl refl is.black)
    (stage_back n is)

pub note_back : (n : NoteState) → IsNote n → note_in (note_text n) ≡ Some n
note_back n is =
    ap (where_spelled (note_text n)) (likely_back n is)
    ∙ ap (λ (b : Bool). if b then Some n else None) ((bytes_eq-Decides (note_text n) (note_text n)).1 refl)
