-- A line is of ASCII.
use Rattle.std.proofs.Common.{◌≡◌, ℕ, ◌<◌, ◌≤◌, ◌&&◌, List, [], ◌∷◌, decimal, Option, Some, None, refl, arith}
use Rattle.std.specs.Prelude.{codes, Bool, true, false, nat_lt, IfSome}
use Rattle.std.specs.List.{join_with_byte}
use Rattle.std.specs.Str.{IsAscii}
use Rattle.std.proofs.lemmas.Bool.{and_parts, ltb-true}
use Rattle.std.proofs.lemmas.Fmt.{IsAscii-decimal}
use Rattle.std.proofs.lemmas.List.Elements.{All-weaker}
use Rattle.std.proofs.lemmas.Str.{IsAscii-append}
use Rattle.std.proofs.lemmas.Str.Ascii.{IsAscii-from_all, IsAscii-nil, IsAscii-cons}
use Rattle.player_name.proofs.NameLemmas.{IsAscii-name_bytes}
use Rattle.chess_bits.specs.declared.men.Colour.{Colour}
use Rattle.chess_bits.specs.declared.men.Colour.TheVariants.{White, Black}
use Rattle.arrayvec.specs.ArrayString.{ArrayString}
use Rattle.chess_entry.specs.declared.commands.Act.{Act}
use Rattle.chess_entry.specs.declared.commands.Act.TheVariants as acts
use Rattle.chess_entry.specs.Words.{colour_word}
use Rattle.chess_line.specs.declared.lines.Line.{Line}
use Rattle.chess_line.specs.declared.lines.Line.TheVariants as lines
use Rattle.chess_line.specs.Fields.{IsNumber, IsField, IsRest, claim_word, times_text, AreTimes, optional}
use Rattle.chess_line.specs.Line.{act_fields, line_fields, IsSayable, IsSayableLine, HasForm}

abbrev AreAscii : List (List ℕ) → Type 0
AreAscii [] = Unit {0}
AreAscii (field ∷ fields) = IsAscii field × AreAscii fields

joined_ascii : (fields : List (List ℕ)) → AreAscii fields → IsAscii (join_with_byte 32 fields)
joined_ascii [] h = IsAscii-nil
joined_ascii (field ∷ []) h = h.0
joined_ascii (field ∷ next ∷ fields) h =
    IsAscii-append field (32 ∷ join_with_byte 32 (next ∷ fields)) h.0
    (IsAscii-cons 32 _ (omega arith) (joined_ascii (next ∷ fields) h.1))

-- a test for the words
abbrev is_plain : List ℕ → Bool
is_plain [] = true
is_plain (c ∷ text) = nat_lt c 128 && is_plain text

plain : (text : List ℕ) → is_plain text ≡ true → IsAscii text
plain [] e = IsAscii-nil
plain (c ∷ text) e =
    let here = and_parts (nat_lt c 128) (is_plain text) e in
    IsAscii-cons c text (ltb-true c 128 here.0) (plain text here.1)

number_ascii : (n : ℕ) → IsNumber n → IsAscii (decimal n)
number_ascii n small = IsAscii-decimal n (omega arith)

field_ascii : (text : List ℕ) → IsField text → IsAscii text
field_ascii text h =
    IsAscii-from_all _ (All-weaker (λ b. (33 ≤ b) × (b ≤ 126)) (λ b. b < 128) (λ b h. omega (arith, h.1)) _ h.visible)

rest_ascii : (text : List ℕ) → IsRest text → IsAscii text
rest_ascii text h =
    IsAscii-from_all _ (All-weaker (λ b. (32 ≤ b) × (b ≤ 126)) (λ b. b < 128) (λ b h. omega (arith, h.1)) _ h.printable)

colour_ascii : (colour : Colour) → IsAscii (colour_word colour)
colour_ascii White = plain (codes "white") refl
colour_ascii Black = plain (codes "black") refl

claim_ascii : (fifty : Bool) → IsAscii (claim_word fifty)
claim_ascii true = plain (codes "fifty") refl
claim_ascii false = plain (codes "three") refl

times_ascii : (initial : ℕ) (period : Option (ℕ × ℕ)) → AreTimes initial period → IsAscii (times_text initial period)
times_ascii initial None h = number_ascii initial h
times_ascii initial (Some p) h =
    IsAscii-append (decimal p.0) _ (number_ascii p.0 h.0) (IsAscii-cons 47 _ (omega arith)
    (IsAscii-append (decimal initial) _ (number_ascii initial h.1)
    (IsAscii-cons 58 _ (omega arith) (number_ascii p.1 h.2))))

rest_fields : (fen : Option ArrayString) → IfSome fen (λ text. IsRest text.bytes) → AreAscii (optional fen)
rest_fields None h = tt
rest_fields (Some text) h = (rest_ascii text.bytes h, tt)

text_fields : (text : Option ArrayString) → IfSome text (λ text. IsField text.bytes) → AreAscii (optional text)
text_fields None h = tt
text_fields (Some text) h = (field_ascii text.bytes h, tt)

act_ascii : (act : Act) → IsSayable act → AreAscii (act_fields act)
act_ascii (acts.NewGame colour initial increment fen period) h =
    (plain (codes "open") refl, (colour_ascii colour, (times_ascii initial period h.0, (number_ascii increment h.1, rest_fields fen h.2))))
act_ascii (acts.Play game ply text) h =
    (plain (codes "move") refl, (number_ascii game h.0, (number_ascii ply h.1, (field_ascii text.bytes h.2, tt))))
act_ascii (acts.Claim game ply fifty text) h =
    (plain (codes "claim") refl, (number_ascii game h.0, (number_ascii ply h.1, (claim_ascii fifty, text_fields text h.2))))
act_ascii acts.List h = (plain (codes "list") refl, tt)
act_ascii (acts.Join game) h = (plain (codes "join") refl, (number_ascii game h, tt))
act_ascii (acts.Offer game) h = (plain (codes "offer") refl, (number_ascii game h, tt))
act_ascii (acts.Accept game) h = (plain (codes "accept") refl, (number_ascii game h, tt))
act_ascii (acts.Decline game) h = (plain (codes "decline") refl, (number_ascii game h, tt))
act_ascii (acts.Resign game) h = (plain (codes "resign") refl, (number_ascii game h, tt))
act_ascii (acts.Flag game) h = (plain (codes "flag") refl, (number_ascii game h, tt))
act_ascii (acts.Remove game) h = (plain (codes "drop") refl, (number_ascii game h, tt))
act_ascii (acts.Show game) h = (plain (codes "show") refl, (number_ascii game h, tt))
act_ascii (acts.Fen game) h = (plain (codes "fen") refl, (number_ascii game h, tt))
act_ascii (acts.Pgn game) h = (plain (codes "pgn") refl, (number_ascii game h, tt))

fields_ascii : (line : Line) → IsSayableLine line → AreAscii (line_fields line)
fields_ascii (lines.Called name) h = (plain (codes "name") refl, (IsAscii-name_bytes name h.bytes, tt))
fields_ascii (lines.Act act) h = act_ascii act h

pub line_ascii : (text : List ℕ) (line : Line) → HasForm text line → IsAscii text
line_ascii text line h = rw (h.spelled) (joined_ascii (line_fields line) (fields_ascii line h.sayable))
