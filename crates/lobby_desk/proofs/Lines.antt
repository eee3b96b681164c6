-- The desk's own lines.
use Rattle.std.proofs.Common.{ℕ, ◌≡◌, ◌<◌, ◌≤◌, ◌^◌, true, ◌&&◌, List, [], ◌∷◌, length, length-append, codes, decimal, false, ◌||◌, Bool, refl, ap, ◌∙◌, arith}
use Rattle.std.specs.Prelude.{if◌then◌else◌}
use Rattle.std.specs.Int.{IsInRange}
use Rattle.std.specs.List.{list_all}
use Rattle.std.specs.Str.Parse.{AllDigits}
use Rattle.std.proofs.lemmas.Bool.{false≢true, and_from, and_parts}
use Rattle.std.proofs.lemmas.Bool.Decides.{nat_tests}
use Rattle.std.proofs.lemmas.Fmt.{digits_decimal, decimal_nonempty, length-decimal-le}
use Rattle.std.proofs.lemmas.List.Folds.{list_all-append}
use Rattle.std.proofs.lemmas.Str.Parse.{digit_at}
use Rattle.player_name.specs.Name.{IsName, is_name_byte}
use Rattle.lobby_words.specs.declared.words.Sort.TheVariants as sorts
use Rattle.lobby_words.specs.Words.{is_message, is_message_byte, is_digit, are_digits, is_show_word, is_read, sort_of, is_act_word, is_play_word}
use Rattle.lobby_table.specs.Sending.{name_line, game_line, join_line}
use Rattle.lobby_words.proofs.Numbers.{own}

byte_shown : (c : ℕ) → 32 ≤ c → c ≤ 126 → is_message_byte c ≡ true
byte_shown c low high = grind (arith, nat_tests)

digits_shown : (ds : List ℕ) → AllDigits 10 ds → list_all is_message_byte ds ≡ true
digits_shown [] h = refl
digits_shown (c ∷ cs) h =
    let here : IsInRange 48 57 c = digit_at (c ∷ cs) 0 h (omega arith) in
    and_from (is_message_byte c) (list_all is_message_byte cs) (byte_shown c (omega arith) (omega arith)) (digits_shown cs h.1)

-- a text of at most 255 bytes that may stand in a message
pub message : (text : List ℕ) → 1 ≤ length text → length text ≤ 255 → list_all is_message_byte text ≡ true → is_message text ≡ true
message text some short bytes = grind (arith, nat_tests)

decimal_short : (n : ℕ) → n < 2 ^ 32 → length (decimal n) ≤ 10
decimal_short n small = length-decimal-le 10 n (omega arith) (omega arith) (omega arith)

game_shown : (word : List ℕ) (n : ℕ) → n < 2 ^ 32 → list_all is_message_byte word ≡ true → list_all is_message_byte (game_line word n) ≡ true
game_shown word n small shown =
    list_all-append is_message_byte word (decimal n)
    ∙ (ap (λ b. b && list_all is_message_byte (decimal n)) shown ∙ digits_shown (decimal n) (digits_decimal own n (omega arith)))

pub show_whole : (n : ℕ) → n < 2 ^ 32 → is_message (game_line (codes "show ") n) ≡ true
show_whole n small =
    let short = decimal_short n small in
    let len = length-append (codes "show ") (decimal n) in
    message (game_line (codes "show ") n) (omega arith) (omega arith) (game_shown (codes "show ") n small refl)

pub fen_whole : (n : ℕ) → n < 2 ^ 32 → is_message (game_line (codes "fen ") n) ≡ true
fen_whole n small =
    let short = decimal_short n small in
    let len = length-append (codes "fen ") (decimal n) in
    message (game_line (codes "fen ") n) (omega arith) (omega arith) (game_shown (codes "fen ") n small refl)

pub pgn_whole : (n : ℕ) → n < 2 ^ 32 → is_message (game_line (codes "pgn ") n) ≡ true
pgn_whole n small =
    let short = decimal_short n small in
    let len = length-append (codes "pgn ") (decimal n) in
    message (game_line (codes "pgn ") n) (omega arith) (omega arith) (game_shown (codes "pgn ") n small refl)

pub join_whole : (n : ℕ) → n < 2 ^ 32 → is_message (join_line n) ≡ true
join_whole n small =
    let short = decimal_short n small in
    let len = length-append (codes "join ") (decimal n) in
    message (join_line n) (omega arith) (omega arith) (game_shown (codes "join ") n small refl)

pub list_whole : is_message (codes "list") ≡ true
list_whole = refl

name_byte_shown : (c : ℕ) → is_name_byte c ≡ true → is_message_byte c ≡ true
name_byte_shown c h = grind (arith, nat_tests)

name_shown : (name : List ℕ) → list_all is_name_byte name ≡ true → list_all is_message_byte name ≡ true
name_shown [] h = refl
name_shown (c ∷ cs) h =
    let parts = and_parts (is_name_byte c) (list_all is_name_byte cs) h in
    and_from (is_message_byte c) (list_all is_message_byte cs) (name_byte_shown c parts.0) (name_shown cs parts.1)

pub name_whole : (name : List ℕ) → IsName name → is_message (name_line name) ≡ true
name_whole name is =
    let len = length-append (codes "name ") name in
    let some = is.some in
    let short = is.short in
    message (name_line name) (omega arith) (omega arith)
    (list_all-append is_message_byte (codes "name ") name ∙ name_shown name is.bytes)

-- what the desk's own lines are
digit_tested : (c : ℕ) → 48 ≤ c → c ≤ 57 → is_digit c ≡ true
digit_tested c low high = grind (arith, nat_tests)

digits_tested : (ds : List ℕ) → AllDigits 10 ds → list_all is_digit ds ≡ true
digits_tested [] h = refl
digits_tested (c ∷ cs) h =
    let here : IsInRange 48 57 c = digit_at (c ∷ cs) 0 h (omega arith) in
    and_from (is_digit c) (list_all is_digit cs) (digit_tested c (omega arith) (omega arith)) (digits_tested cs h.1)

some_digits : (ds : List ℕ) → 1 ≤ length ds → list_all is_digit ds ≡ true → are_digits ds ≡ true
some_digits ds some h = grind (arith, nat_tests)

number_digits : (n : ℕ) → n < 2 ^ 32 → are_digits (decimal n) ≡ true
number_digits n small =
    some_digits (decimal n) (omega (arith, decimal_nonempty n (omega arith))) (digits_tested (decimal n) (digits_decimal own n (omega arith)))

-- a question about a game with such a text behind its word
asked_reads : (d : Bool) → d ≡ true → (if d || false then sorts.Read else sorts.Nothing) ≡ sorts.Read
asked_reads true h = refl
asked_reads false h = absurd (false≢true h)

pub show_reads : (n : ℕ) → n < 2 ^ 32 → sort_of (game_line (codes "show ") n) ≡ sorts.Read
unfolding sort_of is_read is_show_word is_act_word is_play_word
show_reads n small = asked_reads (are_digits (decimal n)) (number_digits n small)

pub fen_reads : (n : ℕ) → n < 2 ^ 32 → sort_of (game_line (codes "fen ") n) ≡ sorts.Read
unfolding sort_of is_read is_show_word is_act_word is_play_word
fen_reads n small = asked_reads (are_digits (decimal n)) (number_digits n small)

pub pgn_reads : (n : ℕ) → n < 2 ^ 32 → sort_of (game_line (codes "pgn ") n) ≡ sorts.Read
unfolding sort_of is_read is_show_word is_act_word is_play_word
pgn_reads n small = asked_reads (are_digits (decimal n)) (number_digits n small)

pub join_line_acts : (n : ℕ) → sort_of (join_line n) ≡ sorts.Act
unfolding sort_of is_read is_show_word is_act_word is_play_word
join_line_acts n = refl

pub list_reads : sort_of (codes "list") ≡ sorts.Read
unfolding sort_of is_read is_show_word
list_reads = refl

pub name_names : (name : List ℕ) → sort_of (name_line name) ≡ sorts.Name
unfolding sort_of
name_names name = refl
