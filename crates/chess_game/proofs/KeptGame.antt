-- What holds of every game is kept by all that can happen to it.
use Rattle.std.proofs.Common.{ℕ, ◌≡◌, ◌+◌, ◌-◌, ◌*◌, ◌^◌, ◌<◌, ◌≤◌, Bool, true, false, List, [], ◌∷◌, ◌++◌, length, Option, Some, None, refl, sym, ap, ◌∙◌, subst, arith, length-append}
use Rattle.std.specs.Prelude.{◌&&◌, ◌||◌, if◌then◌else◌, is_some, IfSome, nat_le}
use Rattle.std.proofs.Math.Nat.{le_refl, le_trans}
use Rattle.std.proofs.lemmas.Bool.{both_ways, le-leb}
use Rattle.chess_bits.specs.declared.men.Colour.{Colour}
use Rattle.chess_bits.specs.declared.men.Colour.TheVariants.{White, Black}
use Rattle.chess_bits.specs.Man.{other, is_colour}
use Rattle.chess_board.specs.declared.moves.Move.{Move}
use Rattle.chess_clock.specs.TimeControl.{TimeControl, IsTimeControl}
use Rattle.chess_clock.specs.Held.{given_for}
use Rattle.chess_clock.specs.ClockState.{on_move_after, TimesFit, HasFallen, time_of}
use Rattle.chess_clock.proofs.Bounds.{given_for-at_most}
use Rattle.chess_end.specs.declared.ending.Ending.{Ending}
use Rattle.player_name.specs.Name.{IsName}
use Rattle.rec_codec.specs.declared.record.Opening.{Opening}
use Rattle.chess_entry.specs.State.{SeatState, GameState, position_of, ply_of, seat_of, is_joined, is_over}
use Rattle.chess_entry.specs.Outcome.{ending_after}
use Rattle.chess_entry.specs.GameTimes.{left_at}
use Rattle.chess_entry.specs.Games.{control_of}
use Rattle.chess_entry.specs.Verdict.{has_fallen}
use Rattle.chess_entry.specs.Follow.{new_game, joined, ended, ended_if, completed, held_after_turn, turn_ended, moved, claimed_wrongly}
use Rattle.chess_entry.specs.Bounds.{IsStart, IsScoresheet, ending_by_last, Agrees, IsByAct, claims_most, IsHeldWithin, IsQuiet, AreDifferent, IsOpenedWith, IsGame}
use Rattle.chess_entry.proofs.HeldLemmas.{completed-next, side-after}
use Rattle.chess_game.specs.ClockFor.{clock_for}
use Rattle.chess_game.specs.Turn.{IsRunningAt, IsInTime, IsPlayable}
use Rattle.chess_game.proofs.LineLemmas.{IsLegalLine-push}
use Rattle.chess_game.proofs.KeptLine.{GoesOnUntilLast-push, ending_by_last-push}
use Rattle.chess_game.proofs.TimeLemmas.{given_for-claims, held_after_turn-at_most, with_penalty-at_most, completed-other, completed-at_most}
use Rattle.chess_game.proofs.SidesLemmas.{seat_turned}
use Rattle.chess_game.proofs.ReplayLemmas.{GoesOnUntilLast-none}

-- ---- a game on its way: both play, and no act or flag has ended it before its last move

pub record IsOnWay (game : GameState) : Type 0 where
  pub numbered : 1 ≤ game.number
  pub number : game.number < 2 ^ 32
  pub opened : IsOpenedWith game.control game.start game.white.name game.black.name
  pub short : ply_of game ≤ 20000
  pub joined : is_joined game ≡ true
  pub running : is_over game ≡ false
  pub line : IsScoresheet game.start game.moves
  pub white_held : IsHeldWithin game White
  pub black_held : IsHeldWithin game Black

pub IsOnWay-of : (game : GameState) → IsGame 20000 game → is_joined game ≡ true → is_over game ≡ false → IsOnWay game
IsOnWay-of game is joined running = record {
  numbered = is.numbered;
  number = is.number;
  opened = is.opened;
  short = is.short;
  joined = joined;
  running = running;
  line = is.played.line;
  white_held = is.played.white;
  black_held = is.played.black;
}

running_by_line : (by_line ending : Option Ending) → Agrees by_line ending → is_some ending ≡ false → by_line ≡ None
running_by_line None None agrees running = refl
running_by_line None (Some e) agrees running = absurd cc
running_by_line (Some f) None agrees running = absurd cc
running_by_line (Some f) (Some e) agrees running = absurd cc

-- the line of a game that goes on has not ended it
pub line_goes_on : (game : GameState) → IsGame 20000 game → is_over game ≡ false
    → ending_by_last game.start game.moves ≡ None
line_goes_on game is running =
    running_by_line (ending_by_last game.start game.moves) game.ending is.played.ending running

agrees_none : (by_line ending : Option Ending) → by_line ≡ None → is_some ending ≡ false → Agrees by_line ending
agrees_none None None none running = tt
agrees_none None (Some e) none running = absurd cc
agrees_none (Some f) ending none running = absurd cc

agrees_some : (by_line : Option Ending) (e : Ending) → by_line ≡ Some e → Agrees by_line (Some e)
agrees_some None e some = absurd cc
agrees_some (Some f) e some = sym some

agrees_act : (by_line : Option Ending) (e : Ending) → by_line ≡ None → IsByAct e.article e.result
    → Agrees by_line (Some e)
agrees_act None e none act = act
agrees_act (Some f) e none act = absurd cc

-- a game on its way goes on where its last move does not end it
pub IsGame-going : (game : GameState) → IsOnWay game → ending_by_last game.start game.moves ≡ None
    → IsGame 20000 game
IsGame-going game way none = record {
  numbered = way.numbered;
  number = way.number;
  opened = way.opened;
  short = way.short;
  waiting = λ not_so. absurd (both_ways (is_joined game) not_so way.joined);
  played = record {
    line = way.line;
    ending = agrees_none (ending_by_last game.start game.moves) game.ending none way.running;
    quiet_at_end = λ over. absurd (both_ways (is_over game) way.running over);
    white = way.white_held;
    black = way.black_held;
  };
}

-- ---- the end

more_of : (n : ℕ) {a b : ℕ} → a ≤ b → n + a ≤ n + b
more_of n more = omega arith

none_most : (n : ℕ) → 0 ≤ n
none_most n = omega arith

left_at-at_most : (on_move : Bool) (held turn : ℕ) → left_at on_move held turn ≤ held
left_at-at_most true held turn = omega arith
left_at-at_most false held turn = omega arith

one_more : (on claimed over : Bool) →
    let before : ℕ = if on && (claimed || over) then 1 else 0 in
    let after : ℕ = if on && (false || true) then 1 else 0 in before ≤ after
one_more true true over = omega arith
one_more true false true = omega arith
one_more true false false = omega arith
one_more false claimed over = omega arith

claims-ended : (game : GameState) (at : ℕ) (e : Ending) (side : Colour)
    → claims_most game side ≤ claims_most (ended game at e) side
claims-ended game at e side =
    more_of (completed game.start.side side (ply_of game))
    (one_more (is_colour side (position_of game).side) game.claimed (is_over game))

less_held : (control : TimeControl) (held held' n a b : ℕ) → held ≤ given_for control n a → held' ≤ held → a ≤ b
    → held' ≤ given_for control n b
less_held control held held' n a b most less more =
    le_trans less (le_trans most (given_for-claims control n a b more))

pub IsGame-ended : (game : GameState) (at : ℕ) (e : Ending) → IsOnWay game
    → Agrees (ending_by_last game.start game.moves) (Some e) → IsGame 20000 (ended game at e)
IsGame-ended game at e way agrees = record {
  numbered = way.numbered;
  number = way.number;
  opened = way.opened;
  short = way.short;
  waiting = λ not_so. absurd (both_ways (is_joined game) not_so way.joined);
  played = record {
    line = way.line;
    ending = agrees;
    quiet_at_end = λ over. record { white = refl; black = refl; claimed = refl };
    white = less_held game.control game.white.held (seat_of White (ended game at e)).held
        (completed game.start.side White (ply_of game)) (claims_most game Black) (claims_most (ended game at e) Black)
        way.white_held
        (left_at-at_most (is_colour White (position_of game).side) game.white.held (at - game.moment))
        (claims-ended game at e Black);
    black = less_held game.control game.black.held (seat_of Black (ended game at e)).held
        (completed game.start.side Black (ply_of game)) (claims_most game White) (claims_most (ended game at e) White)
        way.black_held
        (left_at-at_most (is_colour Black (position_of game).side) game.black.held (at - game.moment))
        (claims-ended game at e White);
  };
}

-- an act or a flag ends a game that goes on
pub IsGame-by_act : (game : GameState) (at : ℕ) (e : Ending) → IsGame 20000 game → IsRunningAt game at
    → IsByAct e.article e.result → IsGame 20000 (ended game at e)
IsGame-by_act game at e is running act =
    IsGame-ended game at e (IsOnWay-of game is running.joined running.goes_on)
    (agrees_act (ending_by_last game.start game.moves) e (line_goes_on game is running.goes_on) act)

-- ---- a turn

at_most_one : (b : Bool) → let n : ℕ = if b then 1 else 0 in n ≤ 1
at_most_one true = omega arith
at_most_one false = omega arith

one_among : (k one further : ℕ) → one ≤ 1 → k + one ≤ k + 1 + further
one_among k one further few = omega arith

-- a side's time after a turn of the mover, with any number of further claims
abbrev WithinAfter : GameState → ℕ → Colour → Colour → ℕ → ℕ → Type 0
WithinAfter game at mover side n further =
    (seat_turned game at mover side (seat_of side game)).held
    ≤ given_for game.control (completed game.start.side side n) (completed game.start.side (other side) n + further)

-- what a side holds at most in the mover's turn
abbrev WithinBefore : GameState → Colour → Colour → Type 0
WithinBefore game mover side =
    (seat_of side game).held
    ≤ given_for game.control (completed game.start.side side (ply_of game))
    (completed game.start.side (other side) (ply_of game)
    + (if is_colour (other side) mover && (game.claimed || is_over game) then 1 else 0))

-- the mover has one move more, and its time is what the turn leaves
mover_within : (game : GameState) (at : ℕ) (side : Colour) (further : ℕ)
    → on_move_after game.start.side (ply_of game) ≡ side → on_move_after game.start.side (ply_of game) ≡ other (other side)
    → (seat_of side game).held ≤ given_for game.control (completed game.start.side side (ply_of game))
    (completed game.start.side (other side) (ply_of game) + 0)
    → held_after_turn game.control (seat_of side game).held (completed game.start.side side (ply_of game + 1))
    (at - game.moment)
    ≤ given_for game.control (completed game.start.side side (ply_of game + 1))
    (completed game.start.side (other side) (ply_of game + 1) + further)
mover_within game at side further on still_on most =
    let n = completed game.start.side side (ply_of game) in
    let k = completed game.start.side (other side) (ply_of game) in
    let mine : completed game.start.side side (ply_of game + 1) ≡ n + 1 =
    completed-next game.start.side side (ply_of game) (sym on) in
    let theirs : completed game.start.side (other side) (ply_of game + 1) ≡ k = completed-other game.start.side (other side) (ply_of game) still_on in
    rw (mine, theirs) (less_held game.control _ _ (n + 1) (k + 0) (k + further)
    (held_after_turn-at_most game.control (seat_of side game).held n (k + 0) (at - game.moment) most) (le_refl _)
    (more_of k (none_most further)))

-- the opponent has one move more, and the other side holds what it held
waiting_within : (game : GameState) (side : Colour) (further : ℕ)
    → on_move_after game.start.side (ply_of game) ≡ other side
    → (seat_of side game).held ≤ given_for game.control (completed game.start.side side (ply_of game))
    (completed game.start.side (other side) (ply_of game) + (if game.claimed || is_over game then 1 else 0))
    → (seat_of side game).held ≤ given_for game.control (completed game.start.side side (ply_of game + 1))
    (completed game.start.side (other side) (ply_of game + 1) + further)
waiting_within game side further on most =
    let n = completed game.start.side side (ply_of game) in
    let k = completed game.start.side (other side) (ply_of game) in
    let one : ℕ = if game.claimed || is_over game then 1 else 0 in
    let few : one ≤ 1 = at_most_one (game.claimed || is_over game) in
    let mine : completed game.start.side side (ply_of game + 1) ≡ n = completed-other game.start.side side (ply_of game) on in
    let theirs : completed game.start.side (other side) (ply_of game + 1) ≡ k + 1 =
    completed-next game.start.side (other side) (ply_of game) (sym on) in
    rw (mine, theirs) (less_held game.control (seat_of side game).held (seat_of side game).held n (k + one)
    (k + 1 + further) most (le_refl _) (one_among k one further few))

within_turn : (game : GameState) (at : ℕ) (mover side : Colour) (further : ℕ)
    → on_move_after game.start.side (ply_of game) ≡ mover → WithinBefore game mover side
    → WithinAfter game at mover side (ply_of game + 1) further
within_turn game at White White further on most = mover_within game at White further on on most
within_turn game at Black Black further on most = mover_within game at Black further on on most
within_turn game at White Black further on most = waiting_within game Black further on most
within_turn game at Black White further on most = waiting_within game White further on most

further_after : GameState → ℕ → Move → Colour → ℕ
further_after game at m side =
    if is_colour side (position_of (turn_ended game at m)).side && (false || is_over game) then 1 else 0

held_turned : (game : GameState) (at : ℕ) (m : Move) (side : Colour) → IsHeldWithin game side
    → WithinAfter game at (position_of game).side side (length (game.moves ++ m ∷ [])) (further_after game at m (other side))
held_turned game at m side most =
    let mover = (position_of game).side in
    let on = sym (side-after game.start game.moves) in
    let longer : ply_of game + 1 ≡ length (game.moves ++ m ∷ []) = sym (length-append game.moves (m ∷ [])) in
    let P : ℕ → Type 0 = λ n. WithinAfter game at mover side n (further_after game at m (other side)) in
    subst P longer (within_turn game at mover side (further_after game at m (other side)) on most)

white_turned : (game : GameState) (at : ℕ) (m : Move) → IsHeldWithin game White
    → IsHeldWithin (turn_ended game at m) White
unfolding further_after
white_turned game at m most = held_turned game at m White most

black_turned : (game : GameState) (at : ℕ) (m : Move) → IsHeldWithin game Black
    → IsHeldWithin (turn_ended game at m) Black
unfolding further_after
black_turned game at m most = held_turned game at m Black most

-- the names at the table stay after a turn
same_name : (on : Bool) (seat : SeatState) (held : ℕ) →
    let after : SeatState = if on then record seat { held = held } else record seat { offers = false } in
    after.name ≡ seat.name
same_name true seat held = refl
same_name false seat held = refl

white_name : (game : GameState) (at : ℕ) (m : Move) → (turn_ended game at m).white.name ≡ game.white.name
white_name game at m =
    same_name (is_colour White (position_of game).side) game.white
    (held_after_turn game.control game.white.held (completed game.start.side White (ply_of game + 1)) (at - game.moment))

black_name : (game : GameState) (at : ℕ) (m : Move) → (turn_ended game at m).black.name ≡ game.black.name
black_name game at m =
    same_name (is_colour Black (position_of game).side) game.black
    (held_after_turn game.control game.black.held (completed game.start.side Black (ply_of game + 1)) (at - game.moment))

one_longer : {n long : ℕ} → long ≡ n + 1 → n < 20000 → long ≤ 20000
one_longer longer room = omega arith

pub IsOnWay-turn : (game : GameState) (at : ℕ) (m : Move) → IsOnWay game
    → ending_by_last game.start game.moves ≡ None → IsPlayable game m → IsOnWay (turn_ended game at m)
IsOnWay-turn game at m way none playable =
    let white = white_name game at m in
    let black = black_name game at m in
    let WithWhite : Option (List ℕ) → Type 0 = λ name. IsOpenedWith game.control game.start name game.black.name in
    let WithBlack : Option (List ℕ) → Type 0 = λ name.
    IsOpenedWith game.control game.start (turn_ended game at m).white.name name in
    let longer : length (game.moves ++ m ∷ []) ≡ ply_of game + 1 = length-append game.moves (m ∷ []) in
    let room = playable.room in
    record {
      numbered = way.numbered;
      number = way.number;
      opened = subst WithBlack (sym black) (subst WithWhite (sym white) way.opened);
      short = one_longer longer room;
      joined = ap (λ (name : Option (List ℕ)). is_some name && is_some (turn_ended game at m).black.name) white
          ∙ ap (λ (name : Option (List ℕ)). is_some game.white.name && is_some name) black ∙ way.joined;
      running = way.running;
      line = record {
        legal = IsLegalLine-push game.start game.moves m way.line.legal playable.legal;
        goes_on = GoesOnUntilLast-push game.start game.moves m way.line.goes_on none;
      };
      white_held = white_turned game at m way.white_held;
      black_held = black_turned game at m way.black_held;
    }

ended_or_not : (game : GameState) (at : ℕ) (m : Move) (by_line : Option Ending)
    → ending_after game.start (game.moves ++ m ∷ []) ≡ by_line → IsOnWay (turn_ended game at m)
    → IsGame 20000 (ended_if (turn_ended game at m) at by_line)
ended_or_not game at m None by_line way =
    IsGame-going (turn_ended game at m) way (ending_by_last-push game.start game.moves m ∙ by_line)
ended_or_not game at m (Some e) by_line way =
    IsGame-ended (turn_ended game at m) at e way
    (agrees_some (ending_by_last game.start (game.moves ++ m ∷ [])) e
    (ending_by_last-push game.start game.moves m ∙ by_line))

-- a move of a game that goes on
pub IsGame-moved : (game : GameState) (at : ℕ) (m : Move) → IsGame 20000 game → IsInTime game at → IsPlayable game m
    → IsGame 20000 (moved game at m)
IsGame-moved game at m is in_time playable =
    let running = in_time.running in
    let way = IsOnWay-of game is running.joined running.goes_on in
    ended_or_not game at m (ending_after game.start (game.moves ++ m ∷ [])) refl
    (IsOnWay-turn game at m way (line_goes_on game is running.goes_on) playable)

-- ---- times fit

few_and_one : {n one : ℕ} → n ≤ 10000 → one ≤ 1 → n + one ≤ 10001
few_and_one few one = omega arith

fits : {held given : ℕ} → held ≤ given → given ≤ 1972920000 → held < 2 ^ 32
fits most given = omega arith

claims-few : (game : GameState) (side : Colour) → ply_of game ≤ 20000 → claims_most game side ≤ 10001
claims-few game side short =
    few_and_one (completed-at_most game.start.side side (ply_of game) short)
    (at_most_one (is_colour side (position_of game).side && (game.claimed || is_over game)))

pub TimesFit-on_way : (game : GameState) → IsOnWay game → TimesFit (clock_for game)
TimesFit-on_way game way =
    let white = given_for-at_most game.control (completed game.start.side White (ply_of game)) (claims_most game Black)
    way.opened.control (completed-at_most game.start.side White (ply_of game) way.short) (claims-few game Black way.short) in
    let black = given_for-at_most game.control (completed game.start.side Black (ply_of game)) (claims_most game White)
    way.opened.control (completed-at_most game.start.side Black (ply_of game) way.short) (claims-few game White way.short) in
    record { white_fits = fits way.white_held white; black_fits = fits way.black_held black }

pub held_for : (game : GameState) (side : Colour) → (time_of side (clock_for game)).held ≡ (seat_of side game).held
held_for game White = refl
held_for game Black = refl

pub not_fallen : (game : GameState) (at : ℕ) → has_fallen game at ≡ false → ¬ HasFallen (clock_for game) at
not_fallen game at up fallen =
    let mover = (position_of game).side in
    let same = held_for game mover in
    let down : (seat_of mover game).held ≤ at - game.moment = subst (λ (n : ℕ). n ≤ at - game.moment) same fallen in
    absurd (both_ways (has_fallen game at) up (le-leb (seat_of mover game).held (at - game.moment) down))

-- ---- a wrong claim

claims-none : (game : GameState) (side : Colour) → game.claimed ≡ false → is_over game ≡ false
    → claims_most game side ≡ completed game.start.side side (ply_of game)
claims-none game side unclaimed running =
    rw (unclaimed, running) (none (is_colour side (position_of game).side))
  where
    none : (on : Bool) → completed game.start.side side (ply_of game) + (if on && (false || false) then 1 else 0)
        ≡ completed game.start.side side (ply_of game)
    none true = omega arith
    none false = omega arith

claims-made : (game : GameState) (by : Colour) → (position_of game).side ≡ by
    → claims_most (claimed_wrongly game by) by ≡ completed game.start.side by (ply_of game) + 1
claims-made game White on = rw on refl
claims-made game Black on = rw on refl

claims-more : (game : GameState) (by side : Colour) → claims_most game side ≤ claims_most (claimed_wrongly game by) side
claims-more game by side =
    more_of (completed game.start.side side (ply_of game))
    (one_claim (is_colour side (position_of game).side) game.claimed (is_over game))
  where
    one_claim : (on claimed over : Bool) →
        let before : ℕ = if on && (claimed || over) then 1 else 0 in
        let after : ℕ = if on && (true || over) then 1 else 0 in before ≤ after
    one_claim true true over = omega arith
    one_claim true false true = omega arith
    one_claim true false false = omega arith
    one_claim false claimed over = omega arith

penalised : (control : TimeControl) (held n a b : ℕ) → held ≤ given_for control n a → b ≡ a + 1
    → held + 120000 ≤ given_for control n b
penalised control held n a b most one = rw one (with_penalty-at_most control held n a most)

-- who claims wrongly holds what it held
kept_within : (game : GameState) (by side : Colour) → IsHeldWithin game side
    → (seat_of side game).held ≤ given_for game.control (completed game.start.side side (ply_of game))
    (claims_most (claimed_wrongly game by) (other side))
kept_within game by side most =
    less_held game.control (seat_of side game).held (seat_of side game).held
    (completed game.start.side side (ply_of game)) (claims_most game (other side))
    (claims_most (claimed_wrongly game by) (other side)) most (le_refl _) (claims-more game by (other side))

-- its opponent holds two minutes more
raised_within : (game : GameState) (side : Colour) → game.claimed ≡ false → is_over game ≡ false
    → (position_of game).side ≡ other side → IsHeldWithin game side
    → (seat_of side game).held + 120000 ≤ given_for game.control (completed game.start.side side (ply_of game))
    (claims_most (claimed_wrongly game (other side)) (other side))
raised_within game side unclaimed running on most =
    penalised game.control (seat_of side game).held (completed game.start.side side (ply_of game))
    (claims_most game (other side)) (claims_most (claimed_wrongly game (other side)) (other side)) most
    (claims-made game (other side) on ∙ ap (λ (n : ℕ). n + 1) (sym (claims-none game (other side) unclaimed running)))

-- the game with these times and offers, in a turn in which a side has claimed
abbrev claimed_with : GameState → ℕ → Bool → ℕ → Bool → GameState
claimed_with game white_held white_offers black_held black_offers = record game {
  white = record game.white { held = white_held; offers = white_offers };
  black = record game.black { held = black_held; offers = black_offers };
  claimed = true;
}

IsOnWay-claimed_with : (game : GameState) (white_held : ℕ) (white_offers : Bool) (black_held : ℕ) (black_offers : Bool)
    → IsOnWay game → IsHeldWithin (claimed_with game white_held white_offers black_held black_offers) White
    → IsHeldWithin (claimed_with game white_held white_offers black_held black_offers) Black
    → IsOnWay (claimed_with game white_held white_offers black_held black_offers)
IsOnWay-claimed_with game white_held white_offers black_held black_offers way white black = record {
  numbered = way.numbered;
  number = way.number;
  opened = way.opened;
  short = way.short;
  joined = way.joined;
  running = way.running;
  line = way.line;
  white_held = white;
  black_held = black;
}

pub IsOnWay-claim : (game : GameState) (by : Colour) → IsOnWay game → game.claimed ≡ false → (position_of game).side ≡ by
    → IsOnWay (claimed_wrongly game by)
IsOnWay-claim game White way unclaimed on =
    IsOnWay-claimed_with game game.white.held true (game.black.held + 120000) game.black.offers way
    (kept_within game White White way.white_held)
    (raised_within game Black unclaimed way.running on way.black_held)
IsOnWay-claim game Black way unclaimed on =
    IsOnWay-claimed_with game (game.white.held + 120000) game.white.offers game.black.held true way
    (raised_within game White unclaimed way.running on way.white_held)
    (kept_within game Black Black way.black_held)

pub IsGame-claim : (game : GameState) (by : Colour) → IsGame 20000 game → IsOnWay (claimed_wrongly game by)
    → is_over game ≡ false → IsGame 20000 (claimed_wrongly game by)
IsGame-claim game by is way running = IsGame-going (claimed_wrongly game by) way (line_goes_on game is running)

pub IsInTime-claim : (game : GameState) (at : ℕ) (by : Colour) → (position_of game).side ≡ by → IsInTime game at
    → IsOnWay (claimed_wrongly game by) → IsInTime (claimed_wrongly game by) at
IsInTime-claim game at by on in_time way = record {
  running = record { joined = way.joined; goes_on = way.running; from_start = in_time.running.from_start };
  in_time = ap (λ (c : Colour). nat_le (seat_of c (claimed_wrongly game by)).held (at - game.moment)) on
      ∙ ap (λ (n : ℕ). nat_le n (at - game.moment)) (same_held by)
      ∙ sym (ap (λ (c : Colour). nat_le (seat_of c game).held (at - game.moment)) on) ∙ in_time.in_time;
}
  where
    same_held : (side : Colour) → (seat_of side (claimed_wrongly game side)).held ≡ (seat_of side game).held
    same_held White = refl
    same_held Black = refl

-- ---- a new game

taken_named : (side colour : Colour) (name : List ℕ) → IsName name
    → let seat : Option (List ℕ) = if is_colour side colour then Some name else None in IfSome seat IsName
taken_named White White name named = named
taken_named White Black name named = tt
taken_named Black White name named = tt
taken_named Black Black name named = named

one_taken : (colour : Colour) (name : List ℕ) →
    let white : Option (List ℕ) = if is_colour White colour then Some name else None in
    let black : Option (List ℕ) = if is_colour Black colour then Some name else None in
    (AreDifferent white black) × ((is_some white && is_some black) ≡ false)
one_taken White name = (tt, refl)
one_taken Black name = (tt, refl)

pub IsGame-new : (number : ℕ) (opening : Opening) → 1 ≤ number → number < 2 ^ 32 → IsTimeControl (control_of opening)
    → IsStart opening.start → IsName opening.name → IsGame 20000 (new_game number opening)
IsGame-new number opening numbered fits control start named =
    let quiet : IsQuiet (new_game number opening) = record { white = refl; black = refl; claimed = refl } in
    record {
      numbered = numbered;
      number = fits;
      opened = record {
        control = control;
        start = start;
        white_name = taken_named White opening.colour opening.name named;
        black_name = taken_named Black opening.colour opening.name named;
        players = (one_taken opening.colour opening.name).0;
      };
      short = omega arith;
      waiting = λ not_so. record {
        unmoved = refl;
        goes_on = refl;
        unstarted = refl;
        quiet = quiet;
        white = refl;
        black = refl;
      };
      played = record {
        line = record { legal = tt; goes_on = GoesOnUntilLast-none opening.start };
        ending = tt;
        quiet_at_end = λ over. quiet;
        white = initial_at_most (completed opening.start.side White 0) (claims_most (new_game number opening) Black);
        black = initial_at_most (completed opening.start.side Black 0) (claims_most (new_game number opening) White);
      };
    }
  where
    initial_at_most : (n a : ℕ) → 1000 * opening.initial ≤ given_for (control_of opening) n a
    initial_at_most n a = omega arith
