-- The answers to reads: a line, and a body of more lines behind it for `pgn` and `list`.
use Rattle.std.specs.Prelude.{ℕ, ◌≡◌, ◌==◌, ◌*◌, if◌then◌else◌, List, [], ◌∷◌, ◌++◌, length, count_by, Option, Some}
use Rattle.std.specs.Prelude.{None, IsSomeAnd, codes, decimal}
use Rattle.std.specs.List.{flat_map}
use Rattle.chess_bits.specs.declared.men.Colour.{Colour}
use Rattle.chess_bits.specs.declared.men.Colour.TheVariants.{White, Black}
use Rattle.chess_end.specs.declared.ending.Ending.{Ending}
use Rattle.chess_notation.specs.Fen.{IsFenOf, side_letter, letter_if, or_dash}
use Rattle.chess_text.specs.Game.{IsGameText}
use Rattle.chess_text.specs.Pgn.{heading, result_text, article_text}
use Rattle.chess_entry.specs.declared.commands.Act.{Act}
use Rattle.chess_entry.specs.declared.commands.Act.TheVariants as act
use Rattle.chess_entry.specs.declared.commands.Command.{Command}
use Rattle.chess_entry.specs.State.{GameState, TableState, position_of, ply_of, is_joined, find_game}
use Rattle.chess_entry.specs.Verdict.{effective}
use Rattle.chess_game.specs.Turn.{left_in}
use Rattle.chess_answer.specs.Fields.{with_fields, ok_text, seat_text}

-- ---- `show`

-- the milliseconds that a side has left; before the join the initial time
abbrev pub time_shown : GameState → Colour → ℕ → ℕ
time_shown game side at = if is_joined game then left_in game side at else 1000 * game.control.initial

-- `w`, `b` or `wb` for the offers that stand, or `-`
abbrev pub offer_text : GameState → List ℕ
offer_text game = or_dash (letter_if game.white.offers 119 ++ letter_if game.black.offers 98)

-- the article by which a game is over, or `-`
abbrev pub article_or_dash : Option Ending → List ℕ
article_or_dash None = codes "-"
article_or_dash (Some ending) = article_text ending.article

-- `ok show G WHITE BLACK PLY SIDE WLEFT BLEFT OFFER RESULT ARTICLE`
abbrev pub show_text : GameState → ℕ → List ℕ
show_text game at = ok_text (codes "show") game.number
    (seat_text game.white.name ∷ seat_text game.black.name ∷ decimal (ply_of game) ∷
    (side_letter (position_of game).side ∷ []) ∷
    decimal (time_shown game White at) ∷ decimal (time_shown game Black at) ∷
    offer_text game ∷ result_text game.ending ∷ article_or_dash game.ending ∷ [])

-- ---- `fen`

-- `ok fen G FEN`
pub record IsFenLine (game : GameState) (text : List ℕ) : Type 0 where
  pub fen : List ℕ
  pub is_fen : IsFenOf fen (position_of game)
  pub told : text ≡ ok_text (codes "fen") game.number (fen ∷ [])

-- ---- `pgn`

-- how many lines a text has, each of which ends with a line feed
abbrev pub line_count : List ℕ → ℕ
line_count text = count_by (λ byte. byte == 10) text

-- the text is the game's PGN
abbrev pub IsPgnOfGame : GameState → List ℕ → Type 0
IsPgnOfGame game text = IsGameText text
    (heading game.white.name game.black.name game.start game.ending
    game.control.initial game.control.increment game.control.period) game.moves

-- `ok pgn G K`, and then the K lines of the PGN
pub record IsPgnReply (game : GameState) (line body : List ℕ) : Type 0 where
  pub pgn : IsPgnOfGame game body
  pub told : line ≡ ok_text (codes "pgn") game.number (decimal (line_count body) ∷ [])

-- ---- `list`

-- `ok list K`
abbrev pub list_line_text : ℕ → List ℕ
list_line_text count = ok_text (codes "list") count []

-- the line `G WHITE BLACK PLY RESULT` of a game
abbrev pub list_row : GameState → List ℕ
list_row game = with_fields (decimal game.number)
    (seat_text game.white.name ∷ seat_text game.black.name ∷ decimal (ply_of game) ∷ result_text game.ending ∷ [])
    ++ 10 ∷ []

-- one line for each game
abbrev pub list_text : List GameState → List ℕ
list_text games = flat_map list_row games

-- ---- all reads

-- the answer to a read at an effective moment; there is none to other acts
abbrev pub IsReadReply : TableState → ℕ → Act → List ℕ → List ℕ → Type 0
IsReadReply table at (act.Show number) line body =
    IsSomeAnd (find_game number table.games) (λ game. (line ≡ show_text game at) × (body ≡ []))
IsReadReply table at (act.Fen number) line body =
    IsSomeAnd (find_game number table.games) (λ game. IsFenLine game line × (body ≡ []))
IsReadReply table at (act.Pgn number) line body =
    IsSomeAnd (find_game number table.games) (λ game. IsPgnReply game line body)
IsReadReply table at act.List line body =
    (line ≡ list_line_text (length table.games)) × (body ≡ list_text table.games)
IsReadReply table at _ line body = ⊥

-- the answer to a command that is a read
abbrev pub IsReply : TableState → Command → List ℕ → List ℕ → Type 0
IsReply table command line body = IsReadReply table (effective table command.at) command.act line body
