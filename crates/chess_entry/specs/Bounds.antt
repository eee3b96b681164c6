-- What holds of every game on a table, also of one that a snapshot names, whoever wrote it.
use Rattle.std.specs.Prelude.{ℕ, ◌≡◌, ◌≢◌, ◌≤◌, ◌<◌, ◌+◌, ◌*◌, ◌^◌, ◌&&◌, ◌||◌, true, false, if◌then◌else◌, List, []}
use Rattle.std.specs.Prelude.{◌∷◌, ◌++◌, Option, Some, None, IfSome}
use Rattle.chess_bits.specs.declared.men.Colour.{Colour}
use Rattle.chess_bits.specs.declared.men.Colour.TheVariants.{White, Black}
use Rattle.chess_bits.specs.Man.{other, is_colour}
use Rattle.chess_board.specs.declared.moves.Move.{Move}
use Rattle.chess_board.specs.Position.{Position, IsValid}
use Rattle.chess_board.specs.Line.{IsLegalLine}
use Rattle.chess_end.specs.declared.ending.GameResult.TheVariants as results
use Rattle.chess_end.specs.declared.ending.Article.{Article}
use Rattle.chess_end.specs.declared.ending.Article.TheVariants as articles
use Rattle.chess_end.specs.declared.ending.GameResult.{GameResult}
use Rattle.chess_end.specs.declared.ending.Ending.{Ending}
use Rattle.chess_clock.specs.TimeControl.{TimeControl, IsTimeControl}
use Rattle.chess_clock.specs.Held.{given_for}
use Rattle.player_name.specs.Name.{IsName}
use Rattle.chess_entry.specs.State.{GameState, ply_of, position_of, seat_of, is_joined, is_over}
use Rattle.chess_entry.specs.Outcome.{ending_after}
use Rattle.chess_entry.specs.Verdict.{is_finished_at}
use Rattle.chess_entry.specs.Follow.{completed}

-- a position that a game may start from
pub record IsStart (p : Position) : Type 0 where
  pub valid : IsValid p
  pub number : p.fullmove ≤ 9999
  pub goes_on : is_finished_at p ≡ false

-- No move but the last ends the game.
abbrev pub GoesOnUntilLast : Position → List Move → Type 0
GoesOnUntilLast start moves =
    (before : List Move) (m last : Move) (rest : List Move) → moves ≡ before ++ m ∷ last ∷ rest
    → ending_after start (before ++ m ∷ []) ≡ None

-- The moves are legal, one after the other, and none but the last ends the game.
pub record IsScoresheet (start : Position) (moves : List Move) : Type 0 where
  pub legal : IsLegalLine start moves
  pub goes_on : GoesOnUntilLast start moves

-- the ending that the last move gives
abbrev pub ending_by_last : Position → List Move → Option Ending
ending_by_last start [] = None
ending_by_last start (m ∷ moves) = ending_after start (m ∷ moves)

-- an ending that an act of a player or a fallen flag may give
abbrev pub IsByAct : Article → GameResult → Type 0
IsByAct articles.A512 result = result ≢ results.Draw
IsByAct articles.A523 result = result ≡ results.Draw
IsByAct articles.A69 result = Unit {0}
IsByAct articles.A92 result = result ≡ results.Draw
IsByAct articles.A93 result = result ≡ results.Draw
IsByAct _ result = ⊥

-- What ends a line is the ending; a line that goes on may have been ended by an act or a flag.
abbrev pub Agrees : Option Ending → Option Ending → Type 0
Agrees (Some by_line) ending = ending ≡ Some by_line
Agrees None None = Unit {0}
Agrees None (Some ending) = IsByAct ending.article ending.result

-- The wrong claims that a side can have made: one in each of its finished turns, and one in the running turn.
abbrev pub claims_most : GameState → Colour → ℕ
claims_most game side =
    completed game.start.side side (ply_of game)
    + (if is_colour side (position_of game).side && (game.claimed || is_over game) then 1 else 0)

-- A side holds at most the initial time, the increments of its moves, the second period if it has begun, and 120,000 ms
-- for each wrong claim that its opponent can have made.
abbrev pub IsHeldWithin : GameState → Colour → Type 0
IsHeldWithin game side =
    (seat_of side game).held
    ≤ given_for game.control (completed game.start.side side (ply_of game)) (claims_most game (other side))

-- No offer stands, and nobody has claimed.
pub record IsQuiet (game : GameState) : Type 0 where
  pub white : game.white.offers ≡ false
  pub black : game.black.offers ≡ false
  pub claimed : game.claimed ≡ false

-- A game of which one seat is empty has not begun.
pub record IsWaiting (game : GameState) : Type 0 where
  pub unmoved : game.moves ≡ []
  pub goes_on : game.ending ≡ None
  pub unstarted : game.moment ≡ 0
  pub quiet : IsQuiet game
  pub white : game.white.held ≡ 1000 * game.control.initial
  pub black : game.black.held ≡ 1000 * game.control.initial

pub record IsPlayed (game : GameState) : Type 0 where
  pub line : IsScoresheet game.start game.moves
  pub ending : Agrees (ending_by_last game.start game.moves) game.ending
  pub quiet_at_end : is_over game ≡ true → IsQuiet game
  pub white : IsHeldWithin game White
  pub black : IsHeldWithin game Black

-- One seat at least is taken, and the two have different players.
abbrev pub AreDifferent : Option (List ℕ) → Option (List ℕ) → Type 0
AreDifferent (Some white) (Some black) = white ≢ black
AreDifferent None None = ⊥
AreDifferent _ _ = Unit {0}

-- Such times, start and players as a game may have: times in range, a start that is not over, names of the form, and
-- players in one seat at least, two that differ.
pub record IsOpenedWith (times : TimeControl) (first : Position) (white black : Option (List ℕ)) : Type 0 where
  pub control : IsTimeControl times
  pub start : IsStart first
  pub white_name : IfSome white IsName
  pub black_name : IfSome black IsName
  pub players : AreDifferent white black

-- a game of at most so many moves
pub record IsGame (plies : ℕ) (game : GameState) : Type 0 where
  pub numbered : 1 ≤ game.number
  pub number : game.number < 2 ^ 32
  pub opened : IsOpenedWith game.control game.start game.white.name game.black.name
  pub short : ply_of game ≤ plies
  pub waiting : is_joined game ≡ false → IsWaiting game
  pub played : IsPlayed game
