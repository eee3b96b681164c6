-- Which act a line's fields tell.
use Rattle.std.proofs.Common.{◌≡◌, ◌≢◌, ℕ, List, [], ◌∷◌, ◌++◌, length, take, decimal, Option, Some, None, refl, ap, ◌∙◌, sym, arith}
use Rattle.std.specs.Prelude.{codes, Bool, true, false, IfSome, if◌then◌else◌}
use Rattle.std.specs.List.{join_with_byte}
use Rattle.std.specs.Str.{bytes_eq}
use Rattle.std.proofs.lemmas.Bool.{false≢true}
use Rattle.chess_bits.specs.declared.men.Colour.{Colour}
use Rattle.chess_bits.specs.declared.men.Colour.TheVariants.{White, Black}
use Rattle.arrayvec.specs.ArrayString.{ArrayString}
use Rattle.chess_entry.specs.Parsed.{bytes_of}
use Rattle.chess_entry.specs.declared.commands.Act.{Act}
use Rattle.chess_entry.specs.declared.commands.Act.TheVariants as acts
use Rattle.chess_entry.specs.Words.{colour_word}
use Rattle.chess_line.specs.declared.lines.Line.{Line}
use Rattle.chess_line.specs.declared.lines.Line.TheVariants as lines
use Rattle.chess_line.specs.Fields.{IsNumber, IsField, IsRest, claim_word, times_text, AreTimes, optional}
use Rattle.chess_line.specs.Cut.{Unspaced, joined}
use Rattle.chess_line.specs.Line.{act_fields, IsSayable, IsLineAfter, HasForm}
use Rattle.chess_line.proofs.Cuts.{same_parts, no_parts, clear, clear_without, same_number, Without, without_append, without_cons, decimal_without}

abbrev begins : List ℕ → List ℕ → Bool
begins text word = bytes_eq (take (length word) text) word

-- the act that a word and a game's number tell
abbrev pub act_told : List ℕ → ℕ → Option Act
act_told word game =
    if bytes_eq word (codes "join") then Some (acts.Join game)
    else if bytes_eq word (codes "offer") then Some (acts.Offer game)
    else if bytes_eq word (codes "accept") then Some (acts.Accept game)
    else if bytes_eq word (codes "decline") then Some (acts.Decline game)
    else if bytes_eq word (codes "resign") then Some (acts.Resign game)
    else if bytes_eq word (codes "flag") then Some (acts.Flag game)
    else if bytes_eq word (codes "drop") then Some (acts.Remove game)
    else if bytes_eq word (codes "show") then Some (acts.Show game)
    else if bytes_eq word (codes "fen") then Some (acts.Fen game)
    else if bytes_eq word (codes "pgn") then Some (acts.Pgn game)
    else None

told_by : (name : List ℕ) (named : ℕ → Act) (word : List ℕ) (game g : ℕ) → act_told name game ≡ Some (named game) →
    IsNumber g → IsNumber game → name ∷ decimal g ∷ [] ≡ word ∷ decimal game ∷ [] → act_told word game ≡ Some (named g)
told_by name named word game g is s small e =
    let word_is : word ≡ name = cc in
    let same : decimal game ≡ decimal g = cc in
    ap (λ w. act_told w game) word_is ∙ is ∙ ap (λ n. Some (named n)) (same_number game g small s same)

-- An act of a game's number alone is that of its word.
pub is_told : (act : Act) (word : List ℕ) (game : ℕ) → IsSayable act → IsNumber game →
    act_fields act ≡ word ∷ decimal game ∷ [] → act_told word game ≡ Some act
is_told (acts.Join g) word game s small e = told_by (codes "join") acts.Join word game g refl s small e
is_told (acts.Offer g) word game s small e = told_by (codes "offer") acts.Offer word game g refl s small e
is_told (acts.Accept g) word game s small e = told_by (codes "accept") acts.Accept word game g refl s small e
is_told (acts.Decline g) word game s small e = told_by (codes "decline") acts.Decline word game g refl s small e
is_told (acts.Resign g) word game s small e = told_by (codes "resign") acts.Resign word game g refl s small e
is_told (acts.Flag g) word game s small e = told_by (codes "flag") acts.Flag word game g refl s small e
is_told (acts.Remove g) word game s small e = told_by (codes "drop") acts.Remove word game g refl s small e
is_told (acts.Show g) word game s small e = told_by (codes "show") acts.Show word game g refl s small e
is_told (acts.Fen g) word game s small e = told_by (codes "fen") acts.Fen word game g refl s small e
is_told (acts.Pgn g) word game s small e = told_by (codes "pgn") acts.Pgn word game g refl s small e
is_told act word game s small e = absurd cc

-- What follows `open`.
pub record Opening (rest : List ℕ) (act : Act) : Type 0 where
  pub colour : Colour
  pub initial : ℕ
  pub increment : ℕ
  pub fen : Option ArrayString
  pub period : Option (ℕ × ℕ)
  pub is : act ≡ acts.NewGame colour initial increment fen period
  pub times : AreTimes initial period
  pub number : IsNumber increment
  pub text : IfSome fen (λ text. IsRest text.bytes)
  pub spelled : rest ≡ join_with_byte 32 (colour_word colour ∷ times_text initial period ∷ decimal increment ∷ optional fen)

pub opening_after : (rest : List ℕ) (act : Act) → IsLineAfter (codes "open") rest (lines.Act act) → Opening rest act
opening_after rest (acts.NewGame colour initial increment fen period) h =
    let e = h.spelled in
    record {
      colour = colour;
      initial = initial;
      increment = increment;
      fen = fen;
      period = period;
      is = refl;
      times = h.sayable.0;
      number = h.sayable.1;
      text = h.sayable.2;
      spelled = cc;
    }
opening_after rest act h = absurd (false≢true (sym (ap (λ text. begins text (codes "open")) h.spelled)))

-- What follows `claim`.
pub record Claiming (rest : List ℕ) (act : Act) : Type 0 where
  pub game : ℕ
  pub ply : ℕ
  pub fifty : Bool
  pub text : Option ArrayString
  pub is : act ≡ acts.Claim game ply fifty text
  pub game_number : IsNumber game
  pub ply_number : IsNumber ply
  pub field : IfSome text (λ text. IsField text.bytes)
  pub spelled : rest ≡ join_with_byte 32 (decimal game ∷ decimal ply ∷ claim_word fifty ∷ optional text)

pub claim_after : (rest : List ℕ) (act : Act) → IsLineAfter (codes "claim") rest (lines.Act act) → Claiming rest act
claim_after rest (acts.Claim game ply fifty text) h =
    let e = h.spelled in
    record {
      game = game;
      ply = ply;
      fifty = fifty;
      text = text;
      is = refl;
      game_number = h.sayable.0;
      ply_number = h.sayable.1;
      field = h.sayable.2;
      spelled = cc;
    }
claim_after rest act h = absurd (false≢true (sym (ap (λ text. begins text (codes "clai")) h.spelled)))

-- An act of a game's number alone, by what its line says.
pub record OfGame (word rest : List ℕ) (act : Act) : Type 0 where
  pub game : ℕ
  pub number : IsNumber game
  pub sayable : IsSayable act
  pub fields : act_fields act ≡ word ∷ decimal game ∷ []
  pub is : rest ≡ decimal game

of_game : (word rest name : List ℕ) (game : ℕ) (act : Act) → Unspaced word → Unspaced name → IsNumber game → IsSayable act →
    act_fields act ≡ name ∷ decimal game ∷ [] → word ++ (32 ∷ rest) ≡ name ++ (32 ∷ decimal game) → OfGame word rest act
of_game word rest name game act ha hb small s fields e =
    let parts = same_parts 32 word name rest (decimal game) ha hb e in
    record {
      game = game;
      number = small;
      sayable = s;
      fields = fields ∙ ap (λ w. w ∷ decimal game ∷ []) (sym parts.front);
      is = parts.rest;
    }

unspaced : (text : List ℕ) → clear 32 text ≡ true → Unspaced text
unspaced text e = clear_without 32 text e

pub game_after : (word rest : List ℕ) (act : Act) → Unspaced word → word ≢ codes "open" → word ≢ codes "move" → word ≢ codes "claim" →
    IsLineAfter word rest (lines.Act act) → OfGame word rest act
game_after word rest (acts.NewGame colour initial increment fen period) h o m k is =
    absurd (o (same_parts 32 word (codes "open") rest _ h (unspaced (codes "open") refl) is.spelled).front)
game_after word rest (acts.Play game ply text) h o m k is =
    absurd (m (same_parts 32 word (codes "move") rest _ h (unspaced (codes "move") refl) is.spelled).front)
game_after word rest (acts.Claim game ply fifty text) h o m k is =
    absurd (k (same_parts 32 word (codes "claim") rest _ h (unspaced (codes "claim") refl) is.spelled).front)
game_after word rest acts.List h o m k is =
    absurd (no_parts 32 (codes "list") word rest (unspaced (codes "list") refl) (sym is.spelled))
game_after word rest (acts.Join g) h o m k is =
    of_game word rest (codes "join") g (acts.Join g) h (unspaced (codes "join") refl) is.sayable is.sayable refl is.spelled
game_after word rest (acts.Offer g) h o m k is =
    of_game word rest (codes "offer") g (acts.Offer g) h (unspaced (codes "offer") refl) is.sayable is.sayable refl is.spelled
game_after word rest (acts.Accept g) h o m k is =
    of_game word rest (codes "accept") g (acts.Accept g) h (unspaced (codes "accept") refl) is.sayable is.sayable refl is.spelled
game_after word rest (acts.Decline g) h o m k is =
    of_game word rest (codes "decline") g (acts.Decline g) h (unspaced (codes "decline") refl) is.sayable is.sayable refl is.spelled
game_after word rest (acts.Resign g) h o m k is =
    of_game word rest (codes "resign") g (acts.Resign g) h (unspaced (codes "resign") refl) is.sayable is.sayable refl is.spelled
game_after word rest (acts.Flag g) h o m k is =
    of_game word rest (codes "flag") g (acts.Flag g) h (unspaced (codes "flag") refl) is.sayable is.sayable refl is.spelled
game_after word rest (acts.Remove g) h o m k is =
    of_game word rest (codes "drop") g (acts.Remove g) h (unspaced (codes "drop") refl) is.sayable is.sayable refl is.spelled
game_after word rest (acts.Show g) h o m k is =
    of_game word rest (codes "show") g (acts.Show g) h (unspaced (codes "show") refl) is.sayable is.sayable refl is.spelled
game_after word rest (acts.Fen g) h o m k is =
    of_game word rest (codes "fen") g (acts.Fen g) h (unspaced (codes "fen") refl) is.sayable is.sayable refl is.spelled
game_after word rest (acts.Pgn g) h o m k is =
    of_game word rest (codes "pgn") g (acts.Pgn g) h (unspaced (codes "pgn") refl) is.sayable is.sayable refl is.spelled

-- A line without a space is `list`.
pub is_list : (word : List ℕ) (line : Line) → Unspaced word → HasForm word line → word ≡ codes "list"
is_list word (lines.Called name) h is = absurd (no_parts 32 word (codes "name") name h is.spelled)
is_list word (lines.Act acts.List) h is = is.spelled
is_list word (lines.Act (acts.NewGame colour initial increment fen period)) h is = absurd (no_parts 32 word (codes "open") _ h is.spelled)
is_list word (lines.Act (acts.Join g)) h is = absurd (no_parts 32 word (codes "join") _ h is.spelled)
is_list word (lines.Act (acts.Play g p t)) h is = absurd (no_parts 32 word (codes "move") _ h is.spelled)
is_list word (lines.Act (acts.Offer g)) h is = absurd (no_parts 32 word (codes "offer") _ h is.spelled)
is_list word (lines.Act (acts.Accept g)) h is = absurd (no_parts 32 word (codes "accept") _ h is.spelled)
is_list word (lines.Act (acts.Decline g)) h is = absurd (no_parts 32 word (codes "decline") _ h is.spelled)
is_list word (lines.Act (acts.Resign g)) h is = absurd (no_parts 32 word (codes "resign") _ h is.spelled)
is_list word (lines.Act (acts.Claim g p f t)) h is = absurd (no_parts 32 word (codes "claim") _ h is.spelled)
is_list word (lines.Act (acts.Flag g)) h is = absurd (no_parts 32 word (codes "flag") _ h is.spelled)
is_list word (lines.Act (acts.Remove g)) h is = absurd (no_parts 32 word (codes "drop") _ h is.spelled)
is_list word (lines.Act (acts.Show g)) h is = absurd (no_parts 32 word (codes "show") _ h is.spelled)
is_list word (lines.Act (acts.Fen g)) h is = absurd (no_parts 32 word (codes "fen") _ h is.spelled)
is_list word (lines.Act (acts.Pgn g)) h is = absurd (no_parts 32 word (codes "pgn") _ h is.spelled)

-- a line after a word that is not `name`
pub record ActAfter (word rest : List ℕ) (line : Line) : Type 0 where
  pub act : Act
  pub is : line ≡ lines.Act act
  pub after : IsLineAfter word rest (lines.Act act)

pub act_after : (text word rest : List ℕ) (line : Line) → Unspaced word → word ≢ codes "name" → text ≡ word ++ (32 ∷ rest) →
    HasForm text line → ActAfter word rest line
act_after text word rest (lines.Called name) h n e is =
    absurd (n (same_parts 32 word (codes "name") rest name h (unspaced (codes "name") refl) (sym e ∙ is.spelled)).front)
act_after text word rest (lines.Act act) h n e is = record {
  act = act;
  is = refl;
  after = record { spelled = sym e ∙ is.spelled; sayable = is.sayable };
}

-- Words and times have no space.
pub colour_without : (colour : Colour) → Without 32 (colour_word colour)
colour_without White = unspaced (codes "white") refl
colour_without Black = unspaced (codes "black") refl

pub claim_without : (fifty : Bool) → Without 32 (claim_word fifty)
claim_without true = unspaced (codes "fifty") refl
claim_without false = unspaced (codes "three") refl

pub times_without : (initial : ℕ) (period : Option (ℕ × ℕ)) → AreTimes initial period → Without 32 (times_text initial period)
times_without initial None h = decimal_without 32 initial (omega arith) h
times_without initial (Some p) h =
    without_append 32 (decimal p.0) _ (decimal_without 32 p.0 (omega arith) h.0)
    (without_cons 32 47 _ (λ e. absurd (omega arith))
    (without_append 32 (decimal initial) _ (decimal_without 32 initial (omega arith) h.1)
    (without_cons 32 58 _ (λ e. absurd (omega arith)) (decimal_without 32 p.1 (omega arith) h.2))))

-- a field and one that may be left out
pub optional_joined : (field : List ℕ) (text : Option ArrayString) →
    join_with_byte 32 (field ∷ optional text) ≡ joined field (bytes_of text)
optional_joined field None = refl
optional_joined field (Some text) = refl

-- what a second period says
pub record Period (moves rest : List ℕ) (initial : ℕ) (period : Option (ℕ × ℕ)) : Type 0 where
  pub pair : ℕ × ℕ
  pub is : period ≡ Some pair
  pub moves_number : IsNumber pair.0
  pub initial_number : IsNumber initial
  pub second_number : IsNumber pair.1
  pub moves_is : moves ≡ decimal pair.0
  pub rest_is : rest ≡ decimal initial ++ (58 ∷ decimal pair.1)

pub period_cut : (text moves rest : List ℕ) (initial : ℕ) (period : Option (ℕ × ℕ)) → Without 47 moves → text ≡ moves ++ (47 ∷ rest) →
    AreTimes initial period → text ≡ times_text initial period → Period moves rest initial period
period_cut text moves rest initial None h e are is =
    absurd (no_parts 47 (decimal initial) moves rest (decimal_without 47 initial (omega arith) are) (sym is ∙ e))
period_cut text moves rest initial (Some p) h e are is =
    let parts = same_parts 47 moves (decimal p.0) rest (decimal initial ++ (58 ∷ decimal p.1)) h
    (decimal_without 47 p.0 (omega arith) are.0) (sym e ∙ is) in
    record {
      pair = p;
      is = refl;
      moves_number = are.0;
      initial_number = are.1;
      second_number = are.2;
      moves_is = parts.front;
      rest_is = parts.rest;
    }
