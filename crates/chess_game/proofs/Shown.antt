-- A game's parts are those of the game that the players see.
use Rattle.std.proofs.Common.{ℕ, ◌≡◌, refl, sym, ap, ◌∙◌, subst}
use Rattle.chess_bits.specs.declared.men.Colour.TheVariants.{White, Black}
use Rattle.chess_clock.specs.TimeControl.{TimeControl, time_control}
use Rattle.chess_clock.specs.ClockState.{ClockState}
use Rattle.chess_entry.specs.State.{GameState}
use Rattle.chess_entry.specs.Bounds.{IsGame}
use Rattle.chess_game.specs.declared.games.Game.TheInside.{Inside}
use Rattle.chess_game.specs.declared.sides.Sides.{Sides}
use Rattle.chess_game.specs.Scoresheet.{ScoresheetState}
use Rattle.chess_game.specs.ClockFor.{clock_for, sides_for, line_for}
use Rattle.chess_game.specs.GameInside.{seat_state, state_of, IsSound}

-- The parts show the game.
pub record Shows (g : Inside) (game : GameState) : Type 0 where
  pub number : g.number ≡ game.number
  pub control : time_control g.times.initial g.times.increment g.times.period ≡ game.control
  pub line : g.line ≡ line_for game
  pub sides : g.sides ≡ sides_for game

-- what parts show
abbrev built : ℕ → TimeControl → ScoresheetState → Sides → GameState
built number control line sides = record {
  number = number;
  start = line.start;
  control = control;
  white = seat_state sides White;
  black = seat_state sides Black;
  moves = line.moves;
  moment = sides.clock.since;
  claimed = sides.claimed;
  ending = sides.ending;
}

pub state_of-shown : (g : Inside) (game : GameState) → Shows g game → state_of g ≡ game
state_of-shown g game shows =
    ap (λ (n : ℕ). built n (time_control g.times.initial g.times.increment g.times.period) g.line g.sides) shows.number
    ∙ ap (λ (control : TimeControl). built game.number control g.line g.sides) shows.control
    ∙ ap (λ (line : ScoresheetState). built game.number game.control line g.sides) shows.line
    ∙ ap (λ (sides : Sides). built game.number game.control (line_for game) sides) shows.sides

pub IsSound-shown : (g : Inside) (game : GameState) → Shows g game → IsGame 20000 game → IsSound g
IsSound-shown g game shows is_game =
    let same = state_of-shown g game shows in
    let P : GameState → Type 0 = λ s. IsGame 20000 s in
    record {
      clock = ap (λ (s : Sides). s.clock) shows.sides ∙ ap clock_for (sym same);
      game = subst P (sym same) is_game;
    }

shows_itself : (g : Inside) → IsSound g → Shows g (state_of g)
shows_itself g sound = record {
  number = refl;
  control = refl;
  line = refl;
  sides = ap (λ (clock : ClockState). let s : Sides = record g.sides { clock = clock } in s) sound.clock;
}

-- what every game keeps
pub Shows-kept : (g : Inside) (game : GameState) → state_of g ≡ game → IsSound g → Shows g game
Shows-kept g game same sound =
    let P : GameState → Type 0 = λ s. Shows g s in
    subst P same (shows_itself g sound)

pub IsGame-kept : (g : Inside) (game : GameState) → state_of g ≡ game → IsSound g → IsGame 20000 game
IsGame-kept g game same sound =
    let P : GameState → Type 0 = λ s. IsGame 20000 s in
    subst P same sound.game
