-- What spectators are told of a game, as values of JSON (docs/client/LOBBY.md).
use Rattle.std.specs.Prelude.{ℕ, ◌-◌, ◌↔◌, Bool, true, false, ◌==◌, IsTrue, List, [], ◌∷◌, ◌++◌, length, map, drop}
use Rattle.std.specs.Prelude.{codes, decimal, nat_le, Option, Some, None, filter, if◌then◌else◌}
use Rattle.std.specs.List.{after_first, find}
use Rattle.std.specs.Str.{bytes_eq}
use Rattle.std.specs.String.{string_bytes}
use Rattle.text_parts.specs.Parts.{parts_of}
use Rattle.text_parts.specs.Strings.{unescaped_from}
use Rattle.server_answers.specs.declared.values.Side.{Side}
use Rattle.server_answers.specs.declared.values.Side.TheVariants as sides
use Rattle.server_answers.specs.declared.values.Clocks.{Clocks}
use Rattle.server_answers.specs.declared.values.Ending.{Ending}
use Rattle.chess_board.specs.declared.moves.Move.{Move}
use Rattle.chess_board.specs.Position.{Position, IsValid, IsInCheck}
use Rattle.chess_notation.specs.Fen.{IsFenOf}
use Rattle.text_pgn.specs.declared.spectated.Stand.{Stand}
use Rattle.text_pgn.specs.declared.spectated.Notices.{Notices}
use Rattle.text_pgn.specs.declared.spectated.Spectated.{Spectated}
use Rattle.text_pgn.specs.declared.spectated.PlayedGame.{PlayedGame}
use Rattle.text_pgn.specs.declared.spectated.GameTold.{GameTold}
use Rattle.text_pgn.specs.Answer.{IsLineAnswer}
use Rattle.text_pgn.specs.Json.{string, number_or_null, truth, listed}
use Rattle.text_pgn.specs.Moves.{first_clock, next_clocks}
use Rattle.text_pgn.specs.Pgn.{is_tag}
use Rattle.text_pgn.specs.Rows.{first_field, next_fields, san_in, move_in, position_in, rows_in, start_row, move_rows}
use Rattle.text_pgn.specs.Rows.{last_row}
use Rattle.text_pgn.specs.Tags.{head_of}

-- ---- what an arbiter has everybody told

-- `,"stopped":REASON,"announced":TEXT`, each empty where it is nothing
unfoldable pub notices_json : Notices → List ℕ
notices_json n = codes ",\"stopped\":" ++ (string n.stopped.now ++ (codes ",\"announced\":" ++ string n.announced.now))

-- All clocks are stopped where there is a reason for it.
abbrev pub is_stopped : List ℕ → Bool
is_stopped reason = nat_le 1 (length reason)

-- ---- the tags, and the players

-- the name of a tag, and its value without the backslashes before its quotes and backslashes
abbrev pub tag_name : List ℕ → List ℕ
tag_name line = drop 1 (head_of line)

abbrev pub tag_value : List ℕ → List ℕ
tag_value line = unescaped_from false (after_first (λ b. b == 34) line)

-- `[NAME,VALUE]`
abbrev pub tag_json : List ℕ → List ℕ
tag_json line = codes "[" ++ (string (tag_name line) ++ (codes "," ++ (string (tag_value line) ++ codes "]")))

-- the tags of a text, in their order
abbrev pub tags_in : List ℕ → List (List ℕ)
tags_in text = filter is_tag (parts_of 10 text)

unfoldable pub tags_json : List (List ℕ) → List ℕ
tags_json tags = codes "[" ++ (listed (map tag_json tags) ++ codes "]")

-- the value of the first of tags that has this name, empty where none has it
abbrev pub value_if : Option (List ℕ) → List ℕ
value_if None = []
value_if (Some line) = tag_value line

abbrev pub value_named : List ℕ → List (List ℕ) → List ℕ
value_named name tags = value_if (find (λ line. bytes_eq (tag_name line) name) tags)

-- `[VALUE,VALUE]`, those of two names
abbrev pub values_json : List ℕ → List ℕ → List (List ℕ) → List ℕ
values_json white black tags =
    codes "[" ++ (string (value_named white tags) ++ (codes "," ++ (string (value_named black tags) ++ codes "]")))

-- `,"titles":[TITLE,TITLE],"ratings":[RATING,RATING]`, as the tags tell them, White's first
unfoldable pub particulars_json : List (List ℕ) → List ℕ
particulars_json tags =
    codes ",\"titles\":" ++ (values_json (codes "WhiteTitle") (codes "BlackTitle") tags
    ++ (codes ",\"ratings\":" ++ values_json (codes "WhiteElo") (codes "BlackElo") tags))

-- `"game":G,"white":NAME,"black":NAME,"names":[FULL NAME,FULL NAME]`: names in the protocol, and full names; behind
-- them titles and ratings
unfoldable pub players_json : Spectated → List ℕ
players_json g =
    codes "\"game\":" ++ (decimal g.game ++ (codes ",\"white\":" ++ (string g.white.now
    ++ (codes ",\"black\":" ++ (string g.black.now ++ (codes ",\"names\":[" ++ (string g.white_name.now
    ++ (codes "," ++ (string g.black_name.now ++ (codes "]" ++ particulars_json (tags_in g.tags.now)))))))))))

-- ---- the moves

-- `[SAN,MOVE,FEN,CLOCK]`: a move, the position that it brings, and what its player's clock showed then, or null
abbrev pub move_json : List ℕ → Option ℕ → List ℕ
move_json row clock =
    codes "[" ++ (string (san_in row) ++ (codes "," ++ (string (move_in row) ++ (codes "," ++ (string (position_in row)
    ++ (codes "," ++ (number_or_null clock ++ codes "]")))))))

-- the moves of rows, and the clocks after them
abbrev pub moves_from : List (List ℕ) → List (Option ℕ) → List (List ℕ)
moves_from [] clocks = []
moves_from (row ∷ rows) clocks = move_json row (first_clock clocks) ∷ moves_from rows (next_clocks clocks)

unfoldable pub moves_json : List (List ℕ) → List (Option ℕ) → List ℕ
moves_json rows clocks = codes "[" ++ (listed (moves_from rows clocks) ++ codes "]")

-- ---- how it stands

abbrev pub side_word : Side → List ℕ
side_word sides.White = codes "white"
side_word sides.Black = codes "black"

abbrev pub running_word : Option Side → List ℕ
running_word None = codes "-"
running_word (Some side) = side_word side

abbrev pub offer_by : (white black : Bool) → List ℕ
offer_by true true = codes "both"
offer_by true false = codes "white"
offer_by false true = codes "black"
offer_by false false = codes "-"

-- the side to move of a FEN
abbrev pub turn_in : List ℕ → List ℕ
turn_in fen = if bytes_eq (first_field (next_fields fen)) (codes "b") then codes "black" else codes "white"

-- what a clock shows so much later: the one that runs has that much less, and at least nothing
abbrev pub ms_later : Bool → ℕ → ℕ → ℕ
ms_later true later ms = ms - later
ms_later false later ms = ms

abbrev pub runs_white : Option Side → Bool
runs_white (Some sides.White) = true
runs_white _ = false

abbrev pub runs_black : Option Side → Bool
runs_black (Some sides.Black) = true
runs_black _ = false

-- `[WHITE,BLACK]` so many milliseconds later, or of no known clocks null
abbrev pub clocks_json : ℕ → Option Side → Option Clocks → List ℕ
clocks_json later running None = codes "[null,null]"
clocks_json later running (Some clocks) =
    codes "[" ++ (decimal (ms_later (runs_white running) later clocks.white_ms) ++ (codes ","
    ++ (decimal (ms_later (runs_black running) later clocks.black_ms) ++ codes "]")))

-- how a game stands in the position of a FEN, with its clocks as they are at this moment
unfoldable pub stand_json : ℕ → Stand → List ℕ → Bool → List ℕ
stand_json at s fen check =
    codes "\"check\":" ++ (truth check ++ (codes ",\"toMove\":" ++ (string (turn_in fen)
    ++ (codes ",\"running\":" ++ (string (running_word s.running)
    ++ (codes ",\"clocks\":" ++ (clocks_json (at - s.at) s.running s.clocks
    ++ (codes ",\"offer\":" ++ (string (offer_by s.offers.white s.offers.black)
    ++ (codes ",\"result\":" ++ (string s.result.now ++ (codes ",\"article\":" ++ string s.article.now))))))))))))

-- ---- the two texts

-- what stands in front of its moves, with the row of the start
unfoldable pub front_json : Spectated → List ℕ → List ℕ
front_json g start =
    codes "{\"at\":" ++ (decimal g.stand.at ++ (notices_json g.notices ++ (codes "," ++ (players_json g
    ++ (codes ",\"tags\":" ++ (tags_json (tags_in g.tags.now) ++ (codes ",\"times\":" ++ (string g.times.now
    ++ (codes ",\"start\":" ++ string (position_in start))))))))))

-- a game's own file, with the rows of its answer to `line G`, and whether the side to move is in check
abbrev pub game_json : Spectated → List (List ℕ) → Bool → List (Option ℕ) → List ℕ
game_json g rows check clocks =
    front_json g (start_row rows) ++ (codes ",\"moves\":" ++ (moves_json (move_rows rows) clocks ++ (codes ","
    ++ (stand_json g.stand.at g.stand (position_in (last_row rows)) check ++ codes "}\n"))))

-- how many moves there were, and the last of rows
unfoldable pub last_json : ℕ → List ℕ → List ℕ
last_json count row =
    codes ",\"plies\":" ++ (decimal count ++ (codes ",\"last\":" ++ (string (san_in row)
    ++ (codes ",\"lastMove\":" ++ (string (move_in row) ++ (codes ",\"fen\":" ++ string (position_in row)))))))

-- its part of the file of all games, at this moment
abbrev pub entry_json : ℕ → Spectated → List (List ℕ) → Bool → List ℕ
entry_json at g rows check =
    codes "{" ++ (players_json g ++ (last_json (length (move_rows rows)) (last_row rows)
    ++ (codes "," ++ (stand_json at g.stand (position_in (last_row rows)) check ++ codes "}"))))

abbrev pub entry_of : ℕ → GameTold → List ℕ
entry_of at g = entry_json at g.game (rows_in (string_bytes g.played.now.answer)) g.played.now.is_check

-- the file of all games, as they are at this moment
abbrev pub games_json : ℕ → Notices → List GameTold → List ℕ
games_json at notices games =
    codes "{\"at\":" ++ (decimal at ++ (notices_json notices
    ++ (codes ",\"games\":[" ++ (listed (map (entry_of at) games) ++ codes "]}\n"))))

-- ---- what the Laws say of it

-- The check is that of the position which this FEN tells.
abbrev pub IsCheckAt : Bool → List ℕ → Type 0
IsCheckAt check fen = (p : Position) → IsValid p → IsFenOf fen p → IsTrue check ↔ IsInCheck p.placement p.side

-- A game was replayed: what is kept of it is the answer to `line G` of the game that the PGN tells, each move by the
-- Laws, and the check of its last position.
pub record IsPlayed (game : ℕ) (start : Position) (moves : List Move) (played : PlayedGame) : Type 0 where
  pub answer : IsLineAnswer game start moves (string_bytes played.answer)
  pub check : IsCheckAt played.is_check (position_in (last_row (rows_in (string_bytes played.answer))))

-- the side whose clock runs: the one to move, while the game goes on and clocks are not stopped
abbrev pub running_side : Option Ending → Bool → Side → Option Side
running_side (Some ending) is_stopped side = None
running_side None true side = None
running_side None false side = Some side
