-- What the verdict that enters an entry says of the game it is of.
use Rattle.std.specs.Prelude.{ℕ, ◌≡◌, ◌⊎◌, ◌+◌, ◌==◌, ◌&&◌, not, nat_le, nat_lt, Bool, true, false, if◌then◌else◌, List, [], ◌∷◌, ◌++◌, Option, Some, None, is_some, is_none}
use Rattle.std.proofs.Common.{ap, sym, subst, ◌∙◌, refl, inl, inr}
use Rattle.std.proofs.lemmas.Bool.{leb-false, eqb-true, and_parts, not-false, cases_Bool}
use Rattle.chess_bits.specs.declared.men.Colour.{Colour}
use Rattle.chess_bits.specs.Man.{other}
use Rattle.chess_bits.proofs.ManLemmas.{is_colour-true}
use Rattle.chess_board.specs.declared.moves.Move.{Move}
use Rattle.chess_board.specs.Position.{Position}
use Rattle.rec_codec.specs.declared.record.Event.{Event}
use Rattle.rec_codec.specs.declared.record.Event.TheVariants as event
use Rattle.rec_codec.specs.declared.record.Entry.{Entry}
use Rattle.rec_codec.specs.declared.record.Opening.{Opening}
use Rattle.rec_codec.specs.Records.{entry}
use Rattle.chess_entry.specs.declared.commands.Act.{Act}
use Rattle.chess_entry.specs.declared.commands.Act.TheVariants as act
use Rattle.chess_entry.specs.declared.commands.Command.{Command}
use Rattle.chess_entry.specs.declared.refusals.Refusal.{Refusal}
use Rattle.chess_entry.specs.declared.verdicts.Verdict.{Verdict}
use Rattle.chess_entry.specs.declared.verdicts.Verdict.TheVariants.{Refuse, Enter, Read}
use Rattle.chess_entry.specs.declared.refusals.Refusal.TheVariants.{OfferStands, AlreadyClaimed, FlagUp}
use Rattle.chess_entry.specs.State.{GameState, TableState, position_of, ply_of, seat_of, is_joined, is_over, find_game}
use Rattle.chess_entry.specs.Parsed.{Parsed}
use Rattle.chess_entry.specs.Verdict.{Check, refuse, first_of, is_period, are_times, is_start, is_finished, is_full, is_long, is_on_move, has_offer, has_fallen, in_game, by_side, while_running, in_turn, for_move, for_stated, offered, for_accept, opening_for, opened_from, move_entered, open_verdict, join_verdict, move_verdict, offer_verdict, accept_verdict, decline_verdict, resign_verdict, claim_asked, claim_verdict, flag_verdict, drop_verdict, in_seat, side_of, player_verdict, name_or_none, is_read, effective, verdict}
use Rattle.chess_entry.proofs.Allowed.{IsPlaying, IsInTime, IsAllowed}
use Rattle.chess_entry.proofs.InPlay.{none-not_some}

-- An entry opens a game with the next number.
pub record Opens (table : TableState) (e : Entry) : Type 0 where
  pub opening : Opening
  pub opens : e.event ≡ event.Open opening
  pub number : e.game ≡ table.last + 1
  pub period : is_period opening.period ≡ true

-- An entry is of a game on the table, which allows it.
pub record Acts (table : TableState) (e : Entry) : Type 0 where
  pub game : GameState
  pub found : find_game e.game table.games ≡ Some game
  pub allowed : IsAllowed game e.moment e.event

-- ---- checks

pub passed : (b : Bool) (r : Refusal) (v : Verdict) (e : Entry) →
    (if b then Refuse r else v) ≡ Enter e → (b ≡ false) × (v ≡ Enter e)
passed true r v e h = absurd (cc)
passed false r v e h = (refl, h)

passed_or : (b : Bool) (x : Entry) (v : Verdict) (e : Entry) →
    (if b then Enter x else v) ≡ Enter e → (e ≡ x) ⊎ ((b ≡ false) × (v ≡ Enter e))
passed_or true x v e h = inl (cc)
passed_or false x v e h = inr (refl, h)

pub entered : (x e : Entry) → Enter x ≡ Enter e → e ≡ x
entered x e h = cc

pub in_game-entered : (v : GameState → Verdict) (o : Option GameState) (e : Entry) → in_game v o ≡ Enter e →
    (game : GameState) × (o ≡ Some game) × (v game ≡ Enter e)
in_game-entered v None e h = absurd (cc)
in_game-entered v (Some game) e h = (game, refl, h)

pub by_side-entered : (v : Colour → Verdict) (o : Option Colour) (e : Entry) → by_side v o ≡ Enter e →
    (side : Colour) × (o ≡ Some side) × (v side ≡ Enter e)
by_side-entered v None e h = absurd (cc)
by_side-entered v (Some side) e h = (side, refl, h)

-- An entry where the game runs: the flag has fallen, or it is up and the entry passed the other checks.
pub record RunsFor (game : GameState) (at : ℕ) (rest : Verdict) (e : Entry) : Type 0 where
  pub playing : IsPlaying game
  pub which : (e ≡ entry game.number at event.Fallen) ⊎ (IsInTime game at × (rest ≡ Enter e))

while_running-entered : (game : GameState) (at : ℕ) (checks : List Check) (v : Verdict) (e : Entry) →
    first_of (while_running game at ++ checks) v ≡ Enter e → RunsFor game at (first_of checks v) e
while_running-entered game at checks v e h =
    let joined = passed (not (is_joined game)) _ _ e h in
    let over = passed (is_over game) _ _ e joined.1 in
    let playing : IsPlaying game = record {
      joined = not-false (is_joined game) joined.0;
      goes_on = none-not_some game.ending over.0;
    } in
    elim (passed_or (has_fallen game at) (entry game.number at event.Fallen) (first_of checks v) e over.1) [
      | inl fallen ↦ record { playing = playing; which = inl fallen }
      | inr up ↦ record {
        playing = playing;
        which = inr (record { playing = playing; up = leb-false _ _ up.0 }, up.1);
      }
    ]

-- ---- games on the table

pub find_game-number : (number : ℕ) (games : List GameState) (game : GameState) →
    find_game number games ≡ Some game → game.number ≡ number
find_game-number number [] game h = absurd (cc)
find_game-number number (g ∷ games) game h = elim (cases_Bool (g.number == number)) [
  | inl here ↦
      let is : Some g ≡ Some game = sym (ap (λ (b : Bool). if b then Some g else find_game number games) here) ∙ h in
      let same : g ≡ game = cc in
      ap (λ (x : GameState). x.number) (sym same) ∙ eqb-true g.number number here
  | inr later ↦
      find_game-number number games game
      (sym (ap (λ (b : Bool). if b then Some g else find_game number games) later) ∙ h)
]

-- an entry of a game that was found, which allows it
acts : (table : TableState) (number : ℕ) (game : GameState) (at : ℕ) (ev : Event) (e : Entry) →
    find_game number table.games ≡ Some game → IsAllowed game at ev → e ≡ entry game.number at ev → Acts table e
acts table number game at ev e found allowed is =
    subst (Acts table) (sym is) (record {
      game = game;
      found = ap (λ (n : ℕ). find_game n table.games) (find_game-number number table.games game found) ∙ found;
      allowed = allowed;
    })

-- the same where the game has to run
abbrev Follows : GameState → ℕ → Verdict → Entry → Type 0
Follows game at rest e = (ev : Event) × IsAllowed game at ev × (e ≡ entry game.number at ev)

runs : (table : TableState) (number : ℕ) (game : GameState) (at : ℕ) (rest : Verdict) (e : Entry) →
    find_game number table.games ≡ Some game → RunsFor game at rest e →
    (IsInTime game at → rest ≡ Enter e → Follows game at rest e) → Acts table e
runs table number game at rest e found h follows = elim h.which [
  | inl fallen ↦ acts table number game at event.Fallen e found h.playing fallen
  | inr up ↦
      let next = follows up.0 up.1 in
      acts table number game at next.0 e found next.1 next.2
]

-- ---- the acts

move_entered-follows : (game : GameState) (at : ℕ) (move : Option Move) (e : Entry) → IsInTime game at →
    move_entered game at move ≡ Enter e → Follows game at (move_entered game at move) e
move_entered-follows game at None e up h = absurd (cc)
move_entered-follows game at (Some m) e up h =
    (event.Move (record { mv = m; ply = ply_of game }), (up, refl), entered _ e h)

-- the checks of a move passed
in_turn-passed : (game : GameState) (side : Colour) (ply : ℕ) (checks : List Check) (v : Verdict) (e : Entry) →
    first_of (in_turn game side ply ++ checks) v ≡ Enter e → (side ≡ (position_of game).side) × (first_of checks v ≡ Enter e)
in_turn-passed game side ply checks v e h =
    let told = passed (not (ply == ply_of game)) _ _ e h in
    let on_move = passed (not (is_on_move side game)) _ _ e told.1 in
    (is_colour-true side (position_of game).side (not-false (is_on_move side game) on_move.0), on_move.1)

for_move-passed : (table : TableState) (game : GameState) (move : Option Move) (v : Verdict) (e : Entry) →
    first_of (for_move table game move) v ≡ Enter e → v ≡ Enter e
for_move-passed table game move v e h =
    let short = passed (is_long table game) _ _ e h in
    (passed (is_none move) _ _ e short.1).1

for_stated-passed : (table : TableState) (game : GameState) (states : Bool) (move : Option Move) (v : Verdict) (e : Entry) →
    first_of (for_stated table game states move) v ≡ Enter e → v ≡ Enter e
for_stated-passed table game true move v e h = for_move-passed table game move v e h
for_stated-passed table game false move v e h = h

-- what a verdict in a player's seat enters is of that game
abbrev EntersIn : TableState → (ℕ → GameState → Colour → Verdict) → Type 0
EntersIn table v =
    (number at : ℕ) (game : GameState) (side : Colour) (e : Entry) → find_game number table.games ≡ Some game →
    v at game side ≡ Enter e → Acts table e

in_seat-entered : (table : TableState) (name : List ℕ) (number at : ℕ) (v : ℕ → GameState → Colour → Verdict) (e : Entry) →
    EntersIn table v → in_seat table name number (v at) ≡ Enter e → Acts table e
in_seat-entered table name number at v e enters h =
    let found = in_game-entered (λ game. by_side (v at game) (side_of name game)) (find_game number table.games) e h in
    let seated = by_side-entered (v at found.0) (side_of name found.0) e found.2 in
    enters number at found.0 seated.0 e found.1 seated.2

move-enters : (table : TableState) (ply : ℕ) (move : Option Move) →
    EntersIn table (λ at. move_verdict table at ply move)
move-enters table ply move number at game side e found h =
    runs table number game at _ e found
    (while_running-entered game at (in_turn game side ply ++ for_move table game move) (move_entered game at move) e h)
    (λ up rest. move_entered-follows game at move e up
    (for_move-passed table game move (move_entered game at move) e
    (in_turn-passed game side ply (for_move table game move) (move_entered game at move) e rest).1))

offer-enters : (table : TableState) → EntersIn table offer_verdict
offer-enters table number at game side e found h =
    runs table number game at _ e found
    (while_running-entered game at (refuse (has_offer game) OfferStands ∷ [])
    (Enter (entry game.number at (event.Offer side))) e h)
    (λ up rest. (event.Offer side, up.playing, entered _ e (passed (has_offer game) _ _ e rest).1))

accept-enters : (table : TableState) → EntersIn table accept_verdict
accept-enters table number at game side e found h =
    runs table number game at _ e found
    (while_running-entered game at (for_accept game side) (Enter (entry game.number at (event.Accept side))) e h)
    (λ up rest.
    let standing = passed (not (seat_of (other side) game).offers) _ _ e rest in
    (event.Accept side, up.playing, entered _ e (passed (nat_lt (ply_of game) 2) _ _ e standing.1).1))

decline-enters : (table : TableState) → EntersIn table decline_verdict
decline-enters table number at game side e found h =
    runs table number game at _ e found
    (while_running-entered game at (offered game side) (Enter (entry game.number at (event.Decline side))) e h)
    (λ up rest.
    (event.Decline side, up.playing, entered _ e (passed (not (seat_of (other side) game).offers) _ _ e rest).1))

resign-enters : (table : TableState) → EntersIn table resign_verdict
resign-enters table number at game side e found h =
    runs table number game at _ e found
    (while_running-entered game at [] (Enter (entry game.number at (event.Resign side))) e h)
    (λ up rest. (event.Resign side, up.playing, entered _ e rest))

claim-enters : (table : TableState) (ply : ℕ) (fifty states : Bool) (move : Option Move) →
    EntersIn table (λ at. claim_verdict table at (claim_asked ply fifty states move))
claim-enters table ply fifty states move number at game side e found h =
    let v : Verdict = Enter (entry game.number at
    (event.Claim (record { by = side; fifty = fifty; mv = move; ply = ply_of game }))) in
    let last = for_stated table game states move in
    runs table number game at _ e found
    (while_running-entered game at (in_turn game side ply ++ (refuse game.claimed AlreadyClaimed ∷ last)) v e h)
    (λ up rest.
    let turn = in_turn-passed game side ply (refuse game.claimed AlreadyClaimed ∷ last) v e rest in
    let first = passed game.claimed _ _ e turn.1 in (
      event.Claim (record { by = side; fifty = fifty; mv = move; ply = ply_of game }),
      (up, turn.0),
      entered _ e (for_stated-passed table game states move v e first.1),
    ))

flag-enters : (table : TableState) → EntersIn table flag_verdict
flag-enters table number at game side e found h =
    runs table number game at _ e found (while_running-entered game at [] (Refuse FlagUp) e h)
    (λ up rest. absurd (cc))

drop-enters : (table : TableState) → EntersIn table drop_verdict
drop-enters table number at game side e found h =
    acts table number game at event.Drop e found tt
    (entered _ e (passed (is_joined game && not (is_over game)) _ _ e h).1)

join-enters : (table : TableState) (number at : ℕ) (name : List ℕ) (e : Entry) →
    in_game (join_verdict at name) (find_game number table.games) ≡ Enter e → Acts table e
join-enters table number at name e h =
    let found = in_game-entered (join_verdict at name) (find_game number table.games) e h in
    let untaken = passed (is_joined found.0) _ _ e found.2 in
    let stranger = passed (is_some (side_of name found.0)) _ _ e untaken.1 in
    acts table number found.0 at (event.Join name) e found.1 untaken.0 (entered _ e stranger.1)

no_read : (o : Option GameState) (e : Entry) → in_game (λ _. Read) o ≡ Enter e → ⊥
no_read None e h = cc
no_read (Some game) e h = cc

opened-enters : (table : TableState) (at : ℕ) (opening : Position → Opening) (period : Option (ℕ × ℕ))
    (start : Option Position) (e : Entry) → ((p : Position) → (opening p).period ≡ period) → is_period period ≡ true →
    opened_from table at opening start ≡ Enter e → Opens table e
opened-enters table at opening period None e same ranges h = absurd (cc)
opened-enters table at opening period (Some p) e same ranges h =
    subst (Opens table) (sym (entered _ e h)) (record {
      opening = opening p;
      opens = refl;
      number = refl;
      period = ap is_period (same p) ∙ ranges;
    })

open-enters : (table : TableState) (at : ℕ) (colour : Colour) (initial increment : ℕ) (period : Option (ℕ × ℕ))
    (name : List ℕ) (start : Option Position) (e : Entry) →
    open_verdict table at (opening_for colour initial increment period name) (are_times initial increment period) start
    ≡ Enter e → Opens table e
open-enters table at colour initial increment period name start e h =
    let times = passed (not (are_times initial increment period)) _ _ e h in
    let numbered = passed (not (is_start start)) _ _ e times.1 in
    let goes_on = passed (is_finished start) _ _ e numbered.1 in
    let room = passed (is_full table) _ _ e goes_on.1 in
    opened-enters table at (opening_for colour initial increment period name) period start e (λ p. refl)
    (and_parts (nat_le 1 initial && nat_le initial 86400 && nat_le increment 60) (is_period period)
    (not-false (are_times initial increment period) times.0)).1
    room.1

player-enters : (table : TableState) (at : ℕ) (name : List ℕ) (parsed : Parsed) (a : Act) (e : Entry) →
    player_verdict table at name parsed a ≡ Enter e → Opens table e ⊎ Acts table e
player-enters table at name parsed (act.NewGame colour initial increment fen period) e h =
    inl (open-enters table at colour initial increment period name parsed.start e h)
player-enters table at name parsed (act.Join game) e h = inr (join-enters table game at name e h)
player-enters table at name parsed (act.Play game ply text) e h =
    inr (in_seat-entered table name game at (λ at. move_verdict table at ply parsed.move) e
    (move-enters table ply parsed.move) h)
player-enters table at name parsed (act.Offer game) e h =
    inr (in_seat-entered table name game at offer_verdict e (offer-enters table) h)
player-enters table at name parsed (act.Accept game) e h =
    inr (in_seat-entered table name game at accept_verdict e (accept-enters table) h)
player-enters table at name parsed (act.Decline game) e h =
    inr (in_seat-entered table name game at decline_verdict e (decline-enters table) h)
player-enters table at name parsed (act.Resign game) e h =
    inr (in_seat-entered table name game at resign_verdict e (resign-enters table) h)
player-enters table at name parsed (act.Claim game ply fifty text) e h =
    inr (in_seat-entered table name game at (λ at. claim_verdict table at (claim_asked ply fifty (is_some text) parsed.move)) e
    (claim-enters table ply fifty (is_some text) parsed.move) h)
player-enters table at name parsed (act.Flag game) e h =
    inr (in_seat-entered table name game at flag_verdict e (flag-enters table) h)
player-enters table at name parsed (act.Remove game) e h =
    inr (in_seat-entered table name game at drop_verdict e (drop-enters table) h)
player-enters table at name parsed (act.Show game) e h = absurd (no_read (find_game game table.games) e h)
player-enters table at name parsed (act.Fen game) e h = absurd (no_read (find_game game table.games) e h)
player-enters table at name parsed (act.Pgn game) e h = absurd (no_read (find_game game table.games) e h)
player-enters table at name parsed act.List e h = absurd (cc)

-- an entry that is the verdict on a command opens a game, or is of one on the table
pub verdict-enters : (table : TableState) (command : Command) (parsed : Parsed) (e : Entry) →
    verdict table command parsed ≡ Enter e → Opens table e ⊎ Acts table e
verdict-enters table command parsed e h =
    let in_range = passed (nat_lt 4611686018427387903 command.at) _ _ e h in
    let named = passed (not (is_read command.act) && is_none command.who) _ _ e in_range.1 in
    player-enters table (effective table command.at) (name_or_none command.who) parsed command.act e named.1
