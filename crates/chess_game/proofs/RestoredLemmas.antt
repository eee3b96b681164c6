-- The game that a head and moves name.
use Rattle.std.proofs.Common.{◌≡◌, ◌≢◌, ◌<◌, ◌≤◌, ◌^◌, List, Option, Some, None, refl, sym, ap, ◌∙◌, subst}
use Rattle.std.specs.Prelude.{IfNone}
use Rattle.chess_board.specs.declared.moves.Move.{Move}
use Rattle.chess_board.specs.Position.{Position}
use Rattle.chess_clock.specs.TimeControl.{time_control}
use Rattle.chess_end.specs.declared.ending.Ending.{Ending}
use Rattle.rec_codec.specs.declared.record.Seat.{Seat as StoredSeat}
use Rattle.rec_codec.specs.declared.record.Head.{Head}
use Rattle.chess_entry.specs.State.{SeatState, GameState}
use Rattle.chess_entry.specs.Bounds.{IsScoresheet, IsGame}
use Rattle.chess_entry.specs.Snapshot.{IsSeatOf, IsHeadOf}
use Rattle.chess_entry.proofs.OneMeaning.{same_parts_of_seat, same_parts_of_game}
use Rattle.chess_game.specs.declared.games.Game.TheInside.{Inside}
use Rattle.chess_game.specs.Scoresheet.{ScoresheetState}
use Rattle.chess_game.specs.ClockFor.{sides_for}
use Rattle.chess_game.specs.GameInside.{state_of}
use Rattle.chess_game.specs.Restored.{seat_named, game_named, MayBeOpened, IsReplayed, MayStand, IsRestored, NamesNoGame}
use Rattle.chess_game.proofs.Shown.{Shows, state_of-shown}

-- ---- no other game has the head and the moves

seat_named-only : (seat : SeatState) (stored : StoredSeat) → IsSeatOf seat stored → seat_named stored ≡ seat
seat_named-only seat stored is =
    same_parts_of_seat {n = stored.name} {m = seat.name} {h = stored.held} {k = seat.held} {o = stored.offers}
    {p = seat.offers} is.name is.held is.offers

game_named-only : (game : GameState) (head : Head) (moves : List Move) → IsHeadOf game head → game.moves ≡ moves
    → game_named head moves ≡ game
game_named-only game head moves is same =
    let named = game_named head moves in
    same_parts_of_game
    {n = named.number} {n' = game.number}
    {s = named.start} {s' = game.start}
    {c = named.control} {c' = game.control}
    {w = named.white} {w' = game.white}
    {b = named.black} {b' = game.black}
    {ms = moves} {ms' = game.moves}
    {t = named.moment} {t' = game.moment}
    {d = named.claimed} {d' = game.claimed}
    {e = named.ending} {e' = game.ending}
    is.number is.start is.control (seat_named-only game.white head.white is.white)
    (seat_named-only game.black head.black is.black) (sym same) is.moment is.claimed is.ending

pub NamesNoGame-unsound : (head : Head) (moves : List Move) → ¬ IsGame 20000 (game_named head moves)
    → NamesNoGame head moves
NamesNoGame-unsound head moves unsound game is same is_game =
    let P : GameState → Type 0 = λ g. IsGame 20000 g in
    unsound (subst P (sym (game_named-only game head moves is same)) is_game)

-- ---- what holds of every game, in the order in which it is asked

pub MayStand-game : (game : GameState) → IsGame 20000 game → MayStand game
MayStand-game game is = record {
  waiting = is.waiting;
  ends = record { ending = is.played.ending; quiet = is.played.quiet_at_end };
  held = (is.played.white, is.played.black);
}

pub IsGame-asked : (game : GameState) → 1 ≤ game.number → game.number < 2 ^ 32 → MayBeOpened game
    → IsScoresheet game.start game.moves → MayStand game → IsGame 20000 game
IsGame-asked game numbered number may line stand = record {
  numbered = numbered;
  number = number;
  opened = may.opened;
  short = may.short;
  waiting = stand.waiting;
  played = record {
    line = line;
    ending = stand.ends.ending;
    quiet_at_end = stand.ends.quiet;
    white = stand.held.0;
    black = stand.held.1;
  };
}

-- ---- the parts

pub Shows-named : (g : Inside) (head : Head) (moves : List Move) (by_line : Option Ending) → g.number ≡ head.game
    → time_control g.times.initial g.times.increment g.times.period
    ≡ time_control head.initial head.increment head.period
    → IsReplayed head.start moves g.line by_line → g.sides ≡ sides_for (game_named head moves)
    → Shows g (game_named head moves)
Shows-named g head moves by_line number control replayed sides = record {
  number = number;
  control = control;
  line = ap (λ (p : Position). let l : ScoresheetState = record { start = p; moves = g.line.moves } in l) replayed.start
      ∙ ap (λ (ms : List Move). let l : ScoresheetState = record { start = head.start; moves = ms } in l) replayed.moves;
  sides = sides;
}

pub IsRestored-shown : (g : Inside) (head : Head) (moves : List Move) → Shows g (game_named head moves)
    → IsHeadOf (game_named head moves) head → IsGame 20000 (game_named head moves) → IsRestored head moves (state_of g)
IsRestored-shown g head moves shows is is_game =
    let P : GameState → Type 0 = λ game. IsRestored head moves game in
    let here : P (game_named head moves) = record { head = is; moves = refl; is_game = is_game } in
    subst P (sym (state_of-shown g (game_named head moves) shows)) here

pub none_made : {A : Type 0} (o : Option A) {P : Type 0} → ((x : A) → o ≢ Some x) → IfNone o P → P
none_made None not_some holds = holds
none_made (Some x) not_some holds = absurd (not_some x refl)
