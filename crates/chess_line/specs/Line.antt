-- The forms of the lines that a client sends.
use Rattle.std.specs.Prelude.{ℕ, ◌≡◌, ◌≤◌, length, List, [], ◌∷◌, ◌++◌, codes, decimal, IfSome, option_map}
use Rattle.std.specs.List.{join_with_byte}
use Rattle.player_name.specs.Name.{IsName}
use Rattle.chess_entry.specs.declared.commands.Act.{Act}
use Rattle.chess_entry.specs.declared.commands.Act.TheVariants as acts
use Rattle.chess_entry.specs.Words.{colour_word}
use Rattle.chess_line.specs.declared.lines.Line.{Line}
use Rattle.chess_line.specs.declared.lines.Line.TheVariants as lines
use Rattle.chess_line.specs.Text.{shown}
use Rattle.chess_line.specs.Fields.{IsNumber, IsField, IsRest, claim_word, times_text, AreTimes, optional}

-- the fields of an act's line; only a FEN, which stands last, may have spaces
abbrev pub act_fields : Act → List (List ℕ)
act_fields (acts.NewGame colour initial increment fen period) =
    codes "open" ∷ colour_word colour ∷ times_text initial period ∷ decimal increment ∷ optional fen
act_fields (acts.Join game) = codes "join" ∷ decimal game ∷ []
act_fields (acts.Play game ply text) = codes "move" ∷ decimal game ∷ decimal ply ∷ text.bytes ∷ []
act_fields (acts.Offer game) = codes "offer" ∷ decimal game ∷ []
act_fields (acts.Accept game) = codes "accept" ∷ decimal game ∷ []
act_fields (acts.Decline game) = codes "decline" ∷ decimal game ∷ []
act_fields (acts.Resign game) = codes "resign" ∷ decimal game ∷ []
act_fields (acts.Claim game ply fifty text) =
    codes "claim" ∷ decimal game ∷ decimal ply ∷ claim_word fifty ∷ optional text
act_fields (acts.Flag game) = codes "flag" ∷ decimal game ∷ []
act_fields (acts.Remove game) = codes "drop" ∷ decimal game ∷ []
act_fields (acts.Show game) = codes "show" ∷ decimal game ∷ []
act_fields (acts.Fen game) = codes "fen" ∷ decimal game ∷ []
act_fields (acts.Pgn game) = codes "pgn" ∷ decimal game ∷ []
act_fields acts.List = codes "list" ∷ []

abbrev pub line_fields : Line → List (List ℕ)
line_fields (lines.Called name) = codes "name" ∷ name ∷ []
line_fields (lines.Act act) = act_fields act

-- its numbers and texts are such as a line can have
abbrev pub IsSayable : Act → Type 0
IsSayable (acts.NewGame colour initial increment fen period) =
    AreTimes initial period × IsNumber increment × IfSome fen (λ text. IsRest text.bytes)
IsSayable (acts.Join game) = IsNumber game
IsSayable (acts.Play game ply text) = IsNumber game × IsNumber ply × IsField text.bytes
IsSayable (acts.Offer game) = IsNumber game
IsSayable (acts.Accept game) = IsNumber game
IsSayable (acts.Decline game) = IsNumber game
IsSayable (acts.Resign game) = IsNumber game
IsSayable (acts.Claim game ply fifty text) =
    IsNumber game × IsNumber ply × IfSome text (λ text. IsField text.bytes)
IsSayable (acts.Flag game) = IsNumber game
IsSayable (acts.Remove game) = IsNumber game
IsSayable (acts.Show game) = IsNumber game
IsSayable (acts.Fen game) = IsNumber game
IsSayable (acts.Pgn game) = IsNumber game
IsSayable acts.List = Unit {0}

abbrev pub IsSayableLine : Line → Type 0
IsSayableLine (lines.Called name) = IsName name
IsSayableLine (lines.Act act) = IsSayable act

-- The text is the line's fields with one space between each two.
pub record HasForm (text : List ℕ) (line : Line) : Type 0 where
  pub spelled : text ≡ join_with_byte 32 (line_fields line)
  pub sayable : IsSayableLine line

-- The text, without the line feed and the carriage return at its end, is this line of the protocol, which has at most
-- 255 bytes.
pub record IsLineOf (text : List ℕ) (line : Line) : Type 0 where
  pub short : length text ≤ 255
  pub form : HasForm text line

-- an act and a line without the room that their texts leave unused
abbrev pub shown_act : Act → Act
shown_act (acts.NewGame colour initial increment fen period) =
    acts.NewGame colour initial increment (option_map shown fen) period
shown_act (acts.Play game ply text) = acts.Play game ply (shown text)
shown_act (acts.Claim game ply fifty text) = acts.Claim game ply fifty (option_map shown text)
shown_act act = act

abbrev pub shown_line : Line → Line
shown_line (lines.Called name) = lines.Called name
shown_line (lines.Act act) = lines.Act (shown_act act)

-- two acts, and two lines, that differ at most in the unused room of their texts
abbrev pub SameAct : Act → Act → Type 0
SameAct a b = shown_act a ≡ shown_act b

abbrev pub SameLine : Line → Line → Type 0
SameLine a b = shown_line a ≡ shown_line b

-- The word, one space and the rest are a line.
pub record IsLineAfter (word rest : List ℕ) (line : Line) : Type 0 where
  pub spelled : word ++ (32 ∷ rest) ≡ join_with_byte 32 (line_fields line)
  pub sayable : IsSayableLine line
