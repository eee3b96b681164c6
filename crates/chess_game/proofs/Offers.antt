-- An offer and its decline, and what the calls of the clock and the sides ask for.
use Rattle.std.proofs.Common.{ℕ, ◌≡◌, ◌≤◌, Bool, true, false, refl, sym, ap, ◌∙◌, subst}
use Rattle.std.proofs.lemmas.Bool.{false≢true}
use Rattle.chess_bits.specs.declared.men.Colour.{Colour}
use Rattle.chess_bits.specs.declared.men.Colour.TheVariants.{White, Black}
use Rattle.chess_end.specs.declared.ending.Ending.{Ending}
use Rattle.chess_entry.specs.State.{GameState, is_joined, is_over}
use Rattle.chess_entry.specs.Outcome.{claimed_draw, resigned}
use Rattle.chess_entry.specs.Follow.{with_offer}
use Rattle.chess_entry.specs.Bounds.{IsQuiet, IsWaiting, IsByAct, IsGame}
use Rattle.chess_game.specs.declared.games.Game.TheInside.{Inside}
use Rattle.chess_game.specs.declared.sides.Sides.{Sides}
use Rattle.chess_game.specs.Sides.{offering}
use Rattle.chess_game.specs.ClockFor.{sides_for}
use Rattle.chess_game.proofs.Shown.{Shows}
use Rattle.chess_game.proofs.Acts.{Shows-sides}

-- ---- a clock that runs

pub runs_on : (game : GameState) (sides : Sides) → sides ≡ sides_for game → is_over game ≡ false
    → sides.clock.is_stopped ≡ false
runs_on game sides same goes_on = ap (λ (s : Sides). s.clock.is_stopped) same ∙ goes_on

pub runs_from : (game : GameState) (at : ℕ) (sides : Sides) → sides ≡ sides_for game → game.moment ≤ at
    → sides.clock.since ≤ at
runs_from game at sides same from =
    let P : Sides → Type 0 = λ s. s.clock.since ≤ at in
    subst P (sym same) from

-- ---- an ending by an act

pub IsByAct-claimed : (fifty : Bool) (e : Ending) → e ≡ claimed_draw fifty → IsByAct e.article e.result
IsByAct-claimed fifty e is =
    let P : Ending → Type 0 = λ x. IsByAct x.article x.result in
    subst P (sym is) (draw fifty) where
      draw : (fifty : Bool) → IsByAct (claimed_draw fifty).article (claimed_draw fifty).result
      draw true = refl
      draw false = refl

pub IsByAct-resigned : (by : Colour) (e : Ending) → e ≡ resigned by → IsByAct e.article e.result
IsByAct-resigned by e is =
    let P : Ending → Type 0 = λ x. IsByAct x.article x.result in
    subst P (sym is) (decided by) where
      decided : (by : Colour) → IsByAct (resigned by).article (resigned by).result
      decided White = λ same. cc
      decided Black = λ same. cc

-- ---- offers

quiet_declined : (game : GameState) (of : Colour) → IsQuiet game → IsQuiet (with_offer game of false)
quiet_declined game White is = record { white = refl; black = is.black; claimed = is.claimed }
quiet_declined game Black is = record { white = is.white; black = refl; claimed = is.claimed }

-- an offer changes nothing else
IsGame-with_offer : (plies : ℕ) (game : GameState) (of : Colour) (offers : Bool) → IsGame plies game
    → (is_joined game ≡ false → IsWaiting (with_offer game of offers))
    → (is_over game ≡ true → IsQuiet (with_offer game of offers)) → IsGame plies (with_offer game of offers)
IsGame-with_offer plies game of offers is waiting quiet = record {
  numbered = is.numbered;
  number = is.number;
  opened = is.opened;
  short = is.short;
  waiting = waiting;
  played = record {
    line = is.played.line;
    ending = is.played.ending;
    quiet_at_end = quiet;
    white = is.played.white;
    black = is.played.black;
  };
}

-- an offer that does not stand any more
pub IsGame-declined : (game : GameState) (of : Colour) → IsGame 20000 game → IsGame 20000 (with_offer game of false)
IsGame-declined game of is =
    IsGame-with_offer 20000 game of false is
    (λ not_so.
    let waits = is.waiting not_so in
    record {
      unmoved = waits.unmoved;
      goes_on = waits.goes_on;
      unstarted = waits.unstarted;
      quiet = quiet_declined game of waits.quiet;
      white = waits.white;
      black = waits.black;
    })
    (λ over. quiet_declined game of (is.played.quiet_at_end over))

-- an offer, or none any more, in a game that goes on
pub IsGame-offered : (plies : ℕ) (game : GameState) (of : Colour) (offers : Bool) → IsGame plies game
    → is_joined game ≡ true → is_over game ≡ false → IsGame plies (with_offer game of offers)
IsGame-offered plies game of offers is joined running =
    IsGame-with_offer plies game of offers is (λ not_so. absurd (false≢true (sym not_so ∙ joined)))
    (λ over. absurd (false≢true (sym running ∙ over)))

offering-shown : (game : GameState) (of : Colour) (offers : Bool)
    → offering of offers (sides_for game) ≡ sides_for (with_offer game of offers)
offering-shown game White offers = refl
offering-shown game Black offers = refl

pub Shows-offering : (g : Inside) (game : GameState) (of : Colour) (offers : Bool) (sides : Sides) → Shows g game
    → sides ≡ offering of offers g.sides → Shows (record g { sides = sides }) (with_offer game of offers)
Shows-offering g game of offers sides shows is =
    Shows-sides g game (with_offer game of offers) sides shows
    (is ∙ ap (λ (s : Sides). offering of offers s) shows.sides ∙ offering-shown game of offers) refl refl refl
