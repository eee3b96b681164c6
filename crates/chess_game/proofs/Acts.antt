-- What the calls of a game do to its parts is what happens to the game that the players see.
use Rattle.std.proofs.Common.{ℕ, ◌≡◌, ◌-◌, ◌*◌, ◌<◌, ◌≤◌, Bool, true, false, List, [], ◌∷◌, ◌++◌, length, Option, Some, None, refl, sym, ap, ◌∙◌, subst, inl, inr}
use Rattle.std.specs.Prelude.{◌&&◌, not, if◌then◌else◌, ◌==◌, nat_eq, nat_le, replicate, IsTrue, ◌↔◌}
use Rattle.std.specs.Cmp.Lexicographic.{pointwise, bytes_decides}
use Rattle.std.proofs.lemmas.Bool.{cases_Bool, false≢true, and_parts, and_from}
use Rattle.std.proofs.lemmas.Bool.Decides.{Decides-eqb}
use Rattle.std.proofs.lemmas.List.{append_cancel_right}
use Rattle.player_name.specs.Name.{padded}
use Rattle.chess_bits.specs.declared.men.Colour.{Colour}
use Rattle.chess_bits.specs.declared.men.Colour.TheVariants.{White, Black}
use Rattle.chess_bits.specs.Man.{is_colour}
use Rattle.chess_bits.proofs.ManLemmas.{is_colour-true}
use Rattle.chess_board.specs.declared.moves.Move.{Move}
use Rattle.chess_board.specs.Position.{Position}
use Rattle.chess_clock.specs.declared.events.ClockEvent.TheVariants.{WrongClaim}
use Rattle.chess_clock.specs.TimeControl.{moves_to_go}
use Rattle.chess_clock.specs.ClockState.{ClockState, time_of, left, started, clock_after, turn_ended as turn_event, HasFallen, TimesFit}
use Rattle.chess_end.specs.declared.ending.Ending.{Ending}
use Rattle.rec_codec.specs.declared.record.Opening.{Opening}
use Rattle.chess_entry.specs.State.{GameState, position_of, ply_of, is_joined, is_over}
use Rattle.rec_codec.specs.declared.record.Claim.{Claim}
use Rattle.chess_entry.specs.Story.{stated}
use Rattle.chess_entry.specs.Outcome.{ending_after, is_granted, claimed_draw}
use Rattle.chess_entry.specs.Games.{control_of}
use Rattle.chess_entry.specs.Verdict.{has_fallen}
use Rattle.chess_entry.specs.Follow.{fresh_seat, new_game, ended, ended_if, completed, turn_ended, moved, moved_if, claimed_wrongly, claim_judged}
use Rattle.chess_entry.specs.Bounds.{IsGame}
use Rattle.chess_game.specs.declared.games.Game.TheInside.{Inside}
use Rattle.chess_game.specs.declared.sides.Seat.{Seat}
use Rattle.chess_game.specs.declared.sides.Sides.{Sides}
use Rattle.chess_game.specs.Scoresheet.{ScoresheetState, last_of, HasRoom, with_move}
use Rattle.chess_game.specs.Sides.{turn_over, stopped_if, with_wrong_claim}
use Rattle.chess_game.specs.ClockFor.{clock_for, sides_for, line_for, seat_for}
use Rattle.chess_game.specs.GameInside.{state_of, IsSound}
use Rattle.chess_game.specs.Turn.{IsRunningAt, IsInTime, IsPlayable, IsJudgeable, left_in}
use Rattle.chess_game.proofs.ReplayLemmas.{HasRoom-start}
use Rattle.chess_game.proofs.EndingLemmas.{told_le}
use Rattle.chess_game.proofs.SidesLemmas.{turn_over-shown, stopped_if-shown, with_wrong_claim-shown, completed-none}
use Rattle.chess_game.proofs.KeptGame.{IsOnWay, IsOnWay-of, IsOnWay-turn, IsOnWay-claim, line_goes_on, TimesFit-on_way, held_for, not_fallen, IsInTime-claim, IsGame-claim}
use Rattle.chess_game.proofs.Shown.{Shows, Shows-kept}

-- ---- readers

pub fallen-answered : (g : Inside) (game : GameState) (at : ℕ) (b : Bool) → state_of g ≡ game → IsSound g
    → IsTrue b ↔ HasFallen g.sides.clock at → b ≡ has_fallen game at
fallen-answered g game at b same sound told =
    let mover = (position_of game).side in
    let shows = Shows-kept g game same sound in
    let P : ClockState → Type 0 = λ clock. IsTrue b ↔ HasFallen clock at in
    let shown : P (clock_for game) = subst P (ap (λ (s : Sides). s.clock) shows.sides) told in
    told_le b (time_of mover (clock_for game)).held (at - game.moment) shown
    ∙ ap (λ (n : ℕ). nat_le n (at - game.moment)) (held_for game mover)

left_of_joined : (game : GameState) (side : Colour) (at : ℕ) → is_joined game ≡ true
    → left side (clock_for game) at ≡ left_in game side at
left_of_joined game White at so =
    ap (λ (b : Bool). if b && (is_colour White (position_of game).side && not (is_over game))
    then game.white.held - (at - game.moment) else game.white.held) (sym so)
left_of_joined game Black at so =
    ap (λ (b : Bool). if b && (is_colour Black (position_of game).side && not (is_over game))
    then game.black.held - (at - game.moment) else game.black.held) (sym so)

pub left-answered : (g : Inside) (game : GameState) (side : Colour) (at n : ℕ) → state_of g ≡ game → IsSound g
    → is_joined game ≡ true → n ≡ left side g.sides.clock at → n ≡ left_in game side at
left-answered g game side at n same sound so is =
    let shows = Shows-kept g game same sound in
    is ∙ ap (λ (s : Sides). left side s.clock at) shows.sides ∙ left_of_joined game side at so

-- ---- room for a move

pub HasRoom-playable : (g : Inside) (game : GameState) → Shows g game → IsGame 20000 game → ply_of game < 20000
    → HasRoom g.line
HasRoom-playable g game shows is room =
    let P : ScoresheetState → Type 0 = λ line. HasRoom line in
    subst P (sym shows.line) (HasRoom-start game.start game.moves is.opened.start room)

-- ---- a move

-- the parts with other sides, of a game with the same number, times and line
pub Shows-sides : (g : Inside) (game next : GameState) (sides : Sides) → Shows g game → sides ≡ sides_for next
    → next.number ≡ game.number → next.control ≡ game.control → line_for next ≡ line_for game
    → Shows (record g { sides = sides }) next
Shows-sides g game next sides shows same number control line = record {
  number = shows.number ∙ sym number;
  control = shows.control ∙ sym control;
  line = shows.line ∙ sym line;
  sides = same;
}

-- after a move that may end the game
pub Shows-moved : (g : Inside) (game : GameState) (at : ℕ) (m : Move) (by_line : Option Ending) (line : ScoresheetState) (sides : Sides)
    → Shows g game → game.moment ≤ at → is_over game ≡ false
    → line ≡ with_move g.line m
    → sides ≡ stopped_if (turn_over g.sides (position_of game).side at) at by_line
    → by_line ≡ ending_after game.start (game.moves ++ m ∷ [])
    → Shows (record g { line = line; sides = sides }) (moved game at m)
Shows-moved g game at m by_line line sides shows from running made is ends =
    let sides_shown : sides ≡ sides_for (moved game at m) =
    is ∙ ap (λ (s : Sides). stopped_if (turn_over s (position_of game).side at) at by_line) shows.sides
    ∙ ap (λ (s : Sides). stopped_if s at by_line) (turn_over-shown game at m from)
    ∙ stopped_if-shown (turn_ended game at m) at by_line running
    ∙ ap (λ (e : Option Ending). sides_for (ended_if (turn_ended game at m) at e)) ends in
    let line_shown : line ≡ line_for (turn_ended game at m) =
    made ∙ ap (λ (l : ScoresheetState). with_move l m) shows.line in
    kept (ending_after game.start (game.moves ++ m ∷ [])) sides_shown line_shown
  where
    kept : (by : Option Ending) → sides ≡ sides_for (ended_if (turn_ended game at m) at by)
        → line ≡ line_for (turn_ended game at m)
        → Shows (record g { line = line; sides = sides }) (ended_if (turn_ended game at m) at by)
    kept None same_sides same_line = record {
      number = shows.number;
      control = shows.control;
      line = same_line;
      sides = same_sides;
    }
    kept (Some e) same_sides same_line = record {
      number = shows.number;
      control = shows.control;
      line = same_line;
      sides = same_sides;
    }

-- the ending of the line with the move
line_ending : (g : Inside) (game : GameState) (m : Move) (by_line : Option Ending) (line : ScoresheetState) → Shows g game
    → line ≡ with_move g.line m → by_line ≡ ending_after line.start line.moves
    → by_line ≡ ending_after game.start (game.moves ++ m ∷ [])
line_ending g game m by_line line shows made ends =
    ends ∙ ap (λ (l : ScoresheetState). ending_after l.start l.moves) (made ∙ ap (λ (l : ScoresheetState). with_move l m) shows.line)

-- the calls that make a move
pub play-shows : (g : Inside) (game : GameState) (at : ℕ) (m : Move) (mover : Colour) (board : Position)
    (by_line : Option Ending) (line : ScoresheetState) (sides : Sides) → state_of g ≡ game → IsSound g → IsInTime game at
    → mover ≡ board.side → board ≡ last_of g.line → line ≡ with_move g.line m
    → by_line ≡ ending_after line.start line.moves → sides ≡ stopped_if (turn_over g.sides mover at) at by_line
    → Shows (record g { line = line; sides = sides }) (moved game at m)
play-shows g game at m mover board by_line line sides same sound in_time moves stands made ends is =
    let shows = Shows-kept g game same sound in
    let on_move : mover ≡ (position_of game).side =
    moves ∙ ap (λ (p : Position). p.side) stands ∙ ap (λ (l : ScoresheetState). (last_of l).side) shows.line in
    Shows-moved g game at m by_line line sides shows in_time.running.from_start in_time.running.goes_on made
    (is ∙ ap (λ (c : Colour). stopped_if (turn_over g.sides c at) at by_line) on_move)
    (line_ending g game m by_line line shows made ends)

-- the times held fit at the end of the turn
pub TimesFit-turn : (game : GameState) (at : ℕ) (m : Move) (sides : Sides) → sides ≡ sides_for game
    → IsGame 20000 game → IsRunningAt game at → IsPlayable game m
    → TimesFit (clock_after sides.clock (turn_event sides.clock at))
TimesFit-turn game at m sides same is running playable =
    let way = IsOnWay-turn game at m (IsOnWay-of game is running.joined running.goes_on)
    (line_goes_on game is running.goes_on) playable in
    let shown : clock_after sides.clock (turn_event sides.clock at) ≡ clock_for (turn_ended game at m) =
    ap (λ (s : Sides). clock_after s.clock (turn_event s.clock at)) same
    ∙ clock_turned (turn_over-shown game at m running.from_start) in
    let P : ClockState → Type 0 = λ clock. TimesFit clock in
    subst P (sym shown) (TimesFit-on_way (turn_ended game at m) way)
  where
    same_clock : (mover : Colour) (s : Sides) → (turn_over s mover at).clock ≡ clock_after s.clock (turn_event s.clock at)
    same_clock White s = refl
    same_clock Black s = refl

    clock_turned : turn_over (sides_for game) (position_of game).side at ≡ sides_for (turn_ended game at m)
        → clock_after (clock_for game) (turn_event (clock_for game) at) ≡ clock_for (turn_ended game at m)
    clock_turned e = sym (same_clock (position_of game).side (sides_for game)) ∙ ap (λ (s : Sides). s.clock) e

pub NotFallen-turn : (game : GameState) (at : ℕ) (sides : Sides) → sides ≡ sides_for game → has_fallen game at ≡ false
    → ¬ HasFallen sides.clock at
NotFallen-turn game at sides same up =
    let P : Sides → Type 0 = λ s. ¬ HasFallen s.clock at in
    subst P (sym same) (not_fallen game at up)

-- ---- a wrong claim

pub claimed-shown : (g : Inside) (game : GameState) (by : Colour) → Shows g game
    → with_wrong_claim by g.sides ≡ sides_for (claimed_wrongly game by)
claimed-shown g game by shows =
    ap (with_wrong_claim by) shows.sides ∙ with_wrong_claim-shown game by

pub TimesFit-claim : (g : Inside) (game : GameState) (by : Colour) → Shows g game
    → IsOnWay (claimed_wrongly game by) → TimesFit (clock_after g.sides.clock (WrongClaim by ∷ []))
TimesFit-claim g game by shows way =
    let P : ClockState → Type 0 = λ clock. TimesFit clock in
    subst P (sym (sym (same_clock by) ∙ ap (λ (s : Sides). s.clock) (claimed-shown g game by shows)))
    (TimesFit-on_way (claimed_wrongly game by) way)
  where
    same_clock : (side : Colour) → (with_wrong_claim side g.sides).clock ≡ clock_after g.sides.clock (WrongClaim side ∷ [])
    same_clock White = refl
    same_clock Black = refl

-- the side on move
pub on_move : (game : GameState) (by : Colour) → is_colour by (position_of game).side ≡ true
    → (position_of game).side ≡ by
on_move game by h = sym (is_colour-true by (position_of game).side h)

-- a claim that may be judged, where it is wrong
pub IsOnWay-judged : (game : GameState) (at : ℕ) (claim : Claim) → IsGame 20000 game → IsInTime game at
    → IsJudgeable game claim → IsOnWay (claimed_wrongly game claim.by)
IsOnWay-judged game at claim is in_time judgeable =
    IsOnWay-claim game claim.by (IsOnWay-of game is in_time.running.joined in_time.running.goes_on) judgeable.unclaimed
    (on_move game claim.by judgeable.on_move)

pub Shows-claimed : (g : Inside) (game : GameState) (by : Colour) (sides : Sides) → Shows g game
    → sides ≡ with_wrong_claim by g.sides → Shows (record g { sides = sides }) (claimed_wrongly game by)
Shows-claimed g game by sides shows is =
    Shows-sides g game (claimed_wrongly game by) sides shows (is ∙ claimed-shown g game by shows) refl refl refl

pub IsGame-claimed : (game : GameState) (at : ℕ) (claim : Claim) → IsGame 20000 game → IsInTime game at
    → IsJudgeable game claim → IsGame 20000 (claimed_wrongly game claim.by)
IsGame-claimed game at claim is in_time judgeable =
    IsGame-claim game claim.by is (IsOnWay-judged game at claim is in_time judgeable) in_time.running.goes_on

-- the same with its stated move
pub IsInTime-judged : (game : GameState) (at : ℕ) (claim : Claim) → IsGame 20000 game → IsInTime game at
    → IsJudgeable game claim → IsInTime (claimed_wrongly game claim.by) at
IsInTime-judged game at claim is in_time judgeable =
    IsInTime-claim game at claim.by (on_move game claim.by judgeable.on_move) in_time
    (IsOnWay-judged game at claim is in_time judgeable)

pub IsPlayable-judged : (game : GameState) (claim : Claim) (m : Move) → IsJudgeable game claim → claim.mv ≡ Some m
    → IsPlayable (claimed_wrongly game claim.by) m
IsPlayable-judged game claim m judgeable states = record {
  legal = (judgeable.stated m states).legal;
  room = (judgeable.stated m states).room;
}

pub claim-shows : (g : Inside) (game : GameState) (at : ℕ) (claim : Claim) (m : Move) (claimed : Sides)
    (by_line : Option Ending) (line : ScoresheetState) (sides : Sides) → state_of g ≡ game → IsSound g → IsInTime game at
    → IsJudgeable game claim → claimed ≡ with_wrong_claim claim.by g.sides → line ≡ with_move g.line m
    → by_line ≡ ending_after line.start line.moves → sides ≡ stopped_if (turn_over claimed claim.by at) at by_line
    → Shows (record g { line = line; sides = sides }) (moved (claimed_wrongly game claim.by) at m)
claim-shows g game at claim m claimed by_line line sides same sound in_time judgeable claims made ends is =
    let shows = Shows-kept g game same sound in
    let mover = on_move game claim.by judgeable.on_move in
    Shows-moved (record g { sides = claimed }) (claimed_wrongly game claim.by) at m by_line line sides
    (Shows-claimed g game claim.by claimed shows claims) in_time.running.from_start in_time.running.goes_on made
    (is ∙ ap (λ (c : Colour). stopped_if (turn_over claimed c at) at by_line) (sym mover))
    (line_ending g game m by_line line shows made ends)

-- what is answered of the stated move is answered of the claim's
pub granted-as : (game : GameState) (claim : Claim) (mv : Option Move) (told granted : Bool) → mv ≡ claim.mv
    → told ≡ is_granted claim.fifty game.start (game.moves ++ stated mv) → told ≡ granted
    → is_granted claim.fifty game.start (game.moves ++ stated claim.mv) ≡ granted
granted-as game claim mv told granted same answered is =
    sym (answered ∙ ap (λ (o : Option Move). is_granted claim.fifty game.start (game.moves ++ stated o)) same) ∙ is

pub judged-granted : (game : GameState) (at : ℕ) (claim : Claim)
    → is_granted claim.fifty game.start (game.moves ++ stated claim.mv) ≡ true
    → ended game at (claimed_draw claim.fifty) ≡ claim_judged game at claim
judged-granted game at claim granted =
    ap (λ (b : Bool). if b then ended game at (claimed_draw claim.fifty)
    else moved_if (claimed_wrongly game claim.by) at claim.mv) (sym granted)

judged-wrong : (game : GameState) (at : ℕ) (claim : Claim)
    → is_granted claim.fifty game.start (game.moves ++ stated claim.mv) ≡ false
    → moved_if (claimed_wrongly game claim.by) at claim.mv ≡ claim_judged game at claim
judged-wrong game at claim wrong =
    ap (λ (b : Bool). if b then ended game at (claimed_draw claim.fifty)
    else moved_if (claimed_wrongly game claim.by) at claim.mv) (sym wrong)

pub judged-none : (game : GameState) (at : ℕ) (claim : Claim)
    → is_granted claim.fifty game.start (game.moves ++ stated claim.mv) ≡ false → claim.mv ≡ None
    → claimed_wrongly game claim.by ≡ claim_judged game at claim
judged-none game at claim wrong states =
    sym (ap (moved_if (claimed_wrongly game claim.by) at) states) ∙ judged-wrong game at claim wrong

pub judged-some : (game : GameState) (at : ℕ) (claim : Claim) (m : Move)
    → is_granted claim.fifty game.start (game.moves ++ stated claim.mv) ≡ false → claim.mv ≡ Some m
    → moved (claimed_wrongly game claim.by) at m ≡ claim_judged game at claim
judged-some game at claim m wrong states =
    sym (ap (moved_if (claimed_wrongly game claim.by) at) states) ∙ judged-wrong game at claim wrong

-- ---- a new game

-- the sides of a new game, with the moves to go
new_sides : Opening → ℕ → ℕ → Sides
new_sides opening white_to_go black_to_go = record {
  clock = record {
    control = control_of opening;
    side = opening.start.side;
    since = 0;
    white = record { held = 1000 * opening.initial; to_go = white_to_go };
    black = record { held = 1000 * opening.initial; to_go = black_to_go };
    is_stopped = false;
  };
  white = seat_for (fresh_seat opening White);
  black = seat_for (fresh_seat opening Black);
  claimed = false;
  ending = None;
}

-- the sides of a game without offers, claims and an ending
abbrev pub new_parts : ClockState → Seat → Seat → Sides
new_parts clock white black = record { clock = clock; white = white; black = black; claimed = false; ending = None }

pub new-shown : (number : ℕ) (opening : Opening) (clock : ClockState) (white black : Seat)
    → clock ≡ started (control_of opening) opening.start.side 0 → white ≡ seat_for (fresh_seat opening White)
    → black ≡ seat_for (fresh_seat opening Black)
    → new_parts clock white black ≡ sides_for (new_game number opening)
unfolding new_sides
new-shown number opening clock white black c w b =
    let to_go : (side : Colour) → moves_to_go opening.period 0
    ≡ moves_to_go opening.period (completed opening.start.side side 0) =
    λ side. ap (moves_to_go opening.period) (sym (completed-none opening.start.side side)) in
    ap (λ (k : ClockState). new_parts k white black) c
    ∙ ap (λ (seat : Seat). new_parts (started (control_of opening) opening.start.side 0) seat black) w
    ∙ ap (λ (seat : Seat). new_parts (started (control_of opening) opening.start.side 0) (seat_for (fresh_seat opening White)) seat) b
    ∙ ap (λ (n : ℕ). new_sides opening n (moves_to_go opening.period 0)) (to_go White)
    ∙ ap (λ (n : ℕ). new_sides opening (moves_to_go opening.period (completed opening.start.side White 0)) n) (to_go Black)

-- ---- names

-- two names as they are kept: their lengths, and their texts with zeros after them
abbrev same_kept : List ℕ → List ℕ → Bool
same_kept a b = (length a == length b) && pointwise nat_eq (padded a) (padded b)

same_kept-itself : (a : List ℕ) → same_kept a a ≡ true
same_kept-itself a =
    and_from (length a == length a) (pointwise nat_eq (padded a) (padded a)) ((Decides-eqb (length a) (length a)).1 refl)
    ((bytes_decides (padded a) (padded a)).1 refl)

same_kept-same : (a b : List ℕ) → same_kept a b ≡ true → a ≡ b
same_kept-same a b told =
    let parts = and_parts (length a == length b) (pointwise nat_eq (padded a) (padded b)) told in
    let long : length a ≡ length b = (Decides-eqb (length a) (length b)).0 parts.0 in
    let texts : padded a ≡ padded b = (bytes_decides (padded a) (padded b)).0 parts.1 in
    append_cancel_right a b (replicate (16 - length a) 0)
    (texts ∙ ap (λ (n : ℕ). b ++ replicate (16 - n) 0) (sym long))

pub named-told : (player name : List ℕ) → same_kept player name ≡ pointwise nat_eq player name
named-told player name = elim (cases_Bool (pointwise nat_eq player name)) [
  | inl same ↦
      let e : player ≡ name = (bytes_decides player name).0 same in
      let P : List ℕ → Type 0 = λ text. same_kept player text ≡ true in
      subst P e (same_kept-itself player) ∙ sym same
  | inr other ↦ elim (cases_Bool (same_kept player name)) [
    | inl told ↦
        absurd (false≢true (sym other ∙ (bytes_decides player name).1 (same_kept-same player name told)))
    | inr untold ↦ untold ∙ sym other
  ]
]
