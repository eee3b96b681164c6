-- What an entry that may come on a table asks of the table, and of the game that it is of.
use Rattle.std.specs.Prelude.{ℕ, ◌≡◌, ◌⊎◌, ◌≤◌, ◌<◌, ◌+◌, ◌^◌, ◌==◌, ◌&&◌, not, nat_le, nat_lt, Bool, true, false, if◌then◌else◌, List, [], ◌∷◌, ◌++◌, length, Option, Some, None, is_some, is_none, IfSome}
use Rattle.std.specs.Option.{ForSome}
use Rattle.std.proofs.Common.{ap, sym, subst, ◌∙◌, refl, inl, inr, arith}
use Rattle.std.proofs.lemmas.Bool.{leb-true, leb-false, or_parts, eqb-true, not-false, cases_Bool}
use Rattle.std.proofs.lemmas.Bool.Decides.{nat_tests}
use Rattle.arrayvec.specs.ArrayString.{ArrayString}
use Rattle.chess_bits.specs.declared.men.Colour.{Colour}
use Rattle.chess_bits.specs.Man.{other}
use Rattle.chess_bits.proofs.ManLemmas.{is_colour-true}
use Rattle.chess_board.specs.declared.moves.Move.{Move}
use Rattle.chess_board.specs.Position.{Position}
use Rattle.chess_board.specs.Legal.{EachOf, IsLegal}
use Rattle.chess_clock.specs.TimeControl.{IsTimeControl}
use Rattle.player_name.specs.Name.{IsName}
use Rattle.rec_codec.specs.declared.record.Event.{Event}
use Rattle.rec_codec.specs.declared.record.Event.TheVariants as event
use Rattle.rec_codec.specs.declared.record.Entry.{Entry}
use Rattle.rec_codec.specs.declared.record.Opening.{Opening}
use Rattle.rec_codec.specs.Records.{entry}
use Rattle.chess_entry.specs.declared.commands.Act.{Act}
use Rattle.chess_entry.specs.declared.commands.Act.TheVariants as act
use Rattle.chess_entry.specs.declared.verdicts.Verdict.{Verdict}
use Rattle.chess_entry.specs.declared.verdicts.Verdict.TheVariants.{Refuse, Enter, Read}
use Rattle.chess_entry.specs.declared.refusals.Refusal.TheVariants.{OfferStands, AlreadyClaimed, FlagUp}
use Rattle.chess_entry.specs.State.{GameState, TableState, position_of, ply_of, seat_of, is_joined, is_over, find_game}
use Rattle.chess_entry.specs.Parsed.{Parsed, IsStartParsed, IsMoveParsed, bytes_of}
use Rattle.chess_entry.specs.Verdict.{Check, refuse, first_of, are_times, is_start, is_finished, is_full, is_long, is_on_move, has_offer, has_fallen, in_game, by_side, while_running, in_turn, for_move, for_stated, offered, for_accept, opening_for, opened_from, move_entered, open_verdict, join_verdict, move_verdict, offer_verdict, accept_verdict, decline_verdict, resign_verdict, claim_asked, claim_verdict, flag_verdict, drop_verdict, in_seat, side_of, player_verdict, name_or_none, is_read, effective, verdict, IsParsed}
use Rattle.chess_entry.specs.Games.{control_of}
use Rattle.chess_entry.specs.Bounds.{IsStart}
use Rattle.chess_entry.specs.Table.{IsTable, IsOnTable, IsEnteredOn}
use Rattle.chess_entry.proofs.Entering.{passed, entered, in_game-entered, by_side-entered, find_game-number}
use Rattle.chess_entry.proofs.InPlay.{none-not_some}
use Rattle.chess_table.proofs.ParsingLemmas.{legal_parsed, start_valid, IsTimeControl-of}
use Rattle.chess_table.specs.Witness.{is_fallen, Enters, opening_verdict, witness_verdict}
use Rattle.chess_table.proofs.Readiness.{IsReadyFor, OpensGame, ActsInGame, Comes}
use Rattle.chess_game.specs.Turn.{IsRunningAt, IsInTime, IsPlayable}

-- ---- games on the table

pub EachOf-found : (P : GameState → Type 0) (number : ℕ) (games : List GameState) (game : GameState) → EachOf P games
    → find_game number games ≡ Some game → P game
EachOf-found P number [] game each found = absurd (cc)
EachOf-found P number (g ∷ games) game each found = elim (cases_Bool (g.number == number)) [
  | inl here ↦
      let is : Some g ≡ Some game = sym (ap (λ (b : Bool). if b then Some g else find_game number games) here) ∙ found in
      let same : g ≡ game = cc in
      subst P same each.0
  | inr later ↦
      EachOf-found P number games game each.1
      (sym (ap (λ (b : Bool). if b then Some g else find_game number games) later) ∙ found)
]

-- ---- an entry of a game

fallen_or : (b : Bool) (x : Entry) (v : Verdict) (e : Entry) → (if b then Enter x else v) ≡ Enter e
    → ((b ≡ true) × (e ≡ x)) ⊎ ((b ≡ false) × (v ≡ Enter e))
fallen_or true x v e h = inl (refl, entered x e h)
fallen_or false x v e h = inr (refl, h)

third : (j o f : Bool) (a b c v : Verdict) → j ≡ true → o ≡ false → f ≡ true
    → (if not j then a else if o then b else if f then c else v) ≡ c
third true false true a b c v j o f = refl
third true false false a b c v j o f = absurd (cc)
third true true f a b c v j o up = absurd (cc)
third false o f a b c v j so up = absurd (cc)

something : (move : Option Move) → is_none move ≡ false → true ≡ is_some move
something None h = absurd (cc)
something (Some m) h = refl

fallen-is : (ev : Event) → is_fallen ev ≡ true → ev ≡ event.Fallen
fallen-is (event.Open opening) h = absurd (cc)
fallen-is (event.Join name) h = absurd (cc)
fallen-is (event.Move made) h = absurd (cc)
fallen-is (event.Offer by) h = absurd (cc)
fallen-is (event.Accept by) h = absurd (cc)
fallen-is (event.Decline by) h = absurd (cc)
fallen-is (event.Resign by) h = absurd (cc)
fallen-is (event.Claim claim) h = absurd (cc)
fallen-is event.Fallen h = refl
fallen-is event.Drop h = absurd (cc)

module _ (table : TableState) (is : IsTable table) (at : ℕ) (from : table.moment ≤ at) where
  abbrev Acted : Entry → Type 0
  Acted e = (e.moment ≡ at) × ActsInGame table e

  acted : (number : ℕ) (game : GameState) (ev : Event) (e : Entry) → find_game number table.games ≡ Some game
      → IsReadyFor table.limits.plies game at ev → e ≡ entry game.number at ev
      → witness_verdict table at game ev ≡ Enter e → Acted e
  acted number game ev e found ready same verdict =
      let here : Acted (entry game.number at ev) = (
        refl,
        record {
          game = game;
          found = ap (λ (n : ℕ). find_game n table.games) (find_game-number number table.games game found) ∙ found;
          ready = ready;
          verdict = verdict ∙ ap (λ (x : Entry). Enter x) same;
        },
      ) in
      subst Acted (sym same) here

  -- the moment is not before the running turn
  turn_began : (number : ℕ) (game : GameState) → find_game number table.games ≡ Some game → game.moment ≤ at
  turn_began number game found =
      let on = EachOf-found (IsOnTable table) number table.games game is.games found in omega (arith, on.moment)

  abbrev Follows : GameState → Entry → Type 0
  Follows game e =
      (ev : Event) × IsReadyFor table.limits.plies game at ev × (e ≡ entry game.number at ev)
      × (witness_verdict table at game ev ≡ Enter e)

  -- an entry where the game has to run: the flag has fallen, or the other checks passed
  runs : (number : ℕ) (game : GameState) (checks : List Check) (v : Verdict) (e : Entry)
      → find_game number table.games ≡ Some game → first_of (while_running game at ++ checks) v ≡ Enter e
      → (IsInTime game at → first_of checks v ≡ Enter e → Follows game e) → Acted e
  runs number game checks v e found h follows =
      let joined = passed (not (is_joined game)) _ _ e h in
      let over = passed (is_over game) _ _ e joined.1 in
      let running : IsRunningAt game at = record {
        joined = not-false (is_joined game) joined.0;
        goes_on = over.0;
        from_start = turn_began number game found;
      } in
      elim (fallen_or (has_fallen game at) (entry game.number at event.Fallen) (first_of checks v) e over.1) [
        | inl fallen ↦
            acted number game event.Fallen e found (record { ready = running; short = tt }) fallen.1
            (third (is_joined game) (is_over game) (has_fallen game at) _ _ (Enter (entry game.number at event.Fallen))
            (Refuse FlagUp) running.joined running.goes_on fallen.0 ∙ ap (λ (x : Entry). Enter x) (sym fallen.1))
        | inr up ↦
            let next = follows (record { running = running; in_time = up.0 }) up.1 in
            acted number game next.0 e found next.1 next.2 next.3
      ]

  -- what a verdict in a player's seat enters is of that game
  abbrev EntersIn : (GameState → Colour → Verdict) → ℕ → Type 0
  EntersIn v number =
      (game : GameState) (side : Colour) (e : Entry) → find_game number table.games ≡ Some game
      → v game side ≡ Enter e → Acted e

  in_seat-enters : (name : List ℕ) (number : ℕ) (v : GameState → Colour → Verdict) (e : Entry)
      → EntersIn v number → in_seat table name number v ≡ Enter e → Acted e
  in_seat-enters name number v e enters h =
      let found = in_game-entered (λ game. by_side (v game) (side_of name game)) (find_game number table.games) e h in
      let seated = by_side-entered (v found.0) (side_of name found.0) e found.2 in
      enters found.0 seated.0 e found.1 seated.2

  -- ---- a move

  in_turn-passes : (game : GameState) (side : Colour) (ply : ℕ) (checks : List Check) (v : Verdict) (e : Entry)
      → first_of (in_turn game side ply ++ checks) v ≡ Enter e
      → (ply ≡ ply_of game) × (is_on_move side game ≡ true) × (first_of checks v ≡ Enter e)
  in_turn-passes game side ply checks v e h =
      let told = passed (not (ply == ply_of game)) _ _ e h in
      let on_move = passed (not (is_on_move side game)) _ _ e told.1 in (
        eqb-true ply (ply_of game) (not-false (ply == ply_of game) told.0),
        not-false (is_on_move side game) on_move.0,
        on_move.1,
      )

  for_move-passes : (game : GameState) (move : Option Move) (v : Verdict) (e : Entry)
      → first_of (for_move table game move) v ≡ Enter e
      → (ply_of game < table.limits.plies) × (is_none move ≡ false) × (v ≡ Enter e)
  for_move-passes game move v e h =
      let short = passed (is_long table game) _ _ e h in
      let named = passed (is_none move) _ _ e short.1 in
      (leb-false table.limits.plies (ply_of game) short.0, named.0, named.1)

  playable : (game : GameState) (m : Move) → IsLegal (position_of game) m → ply_of game < table.limits.plies → IsPlayable game m
  playable game m legal short = record { legal = legal; room = omega (arith, is.limits.few_plies) }

  moved-follows : (game : GameState) (side : Colour) (ply : ℕ) (move : Option Move) (e : Entry) → IsInTime game at
      → ((m : Move) → move ≡ Some m → IsLegal (position_of game) m) → ply_of game < table.limits.plies
      → ply ≡ ply_of game → is_on_move side game ≡ true → move_verdict table at ply move game side ≡ Enter e
      → move_entered game at move ≡ Enter e → Follows game e
  moved-follows game side ply None e up legal short same mover verdict h = absurd (cc)
  moved-follows game side ply (Some m) e up legal short same mover verdict h = (
    event.Move (record { mv = m; ply = ply_of game }),
    record { ready = (up, playable game m (legal m refl) short); short = short },
    entered _ e h,
    ap (λ (n : ℕ). move_verdict table at n (Some m) game (position_of game).side) (sym same)
        ∙ ap (λ (s : Colour). move_verdict table at ply (Some m) game s)
        (sym (is_colour-true side (position_of game).side mover))
        ∙ verdict,
  )

  move-enters : (number ply : ℕ) (text : List ℕ) (move : Option Move)
      → IsMoveParsed (find_game number table.games) (Some text) move
      → EntersIn (move_verdict table at ply move) number
  move-enters number ply text move tells game side e found h =
      let here = subst (λ (o : Option GameState). IsMoveParsed o (Some text) move) found tells in
      runs number game (in_turn game side ply ++ for_move table game move) (move_entered game at move) e found h
      (λ up rest.
      let turn = in_turn-passes game side ply (for_move table game move) (move_entered game at move) e rest in
      let last = for_move-passes game move (move_entered game at move) e turn.2 in
      moved-follows game side ply move e up (λ m states. legal_parsed game (Some text) move m here states) last.0
      turn.0 turn.1 h last.2)

  -- ---- offers, and the end

  offer-enters : (number : ℕ) → EntersIn (offer_verdict at) number
  offer-enters number game side e found h =
      runs number game (refuse (has_offer game) OfferStands ∷ []) (Enter (entry game.number at (event.Offer side))) e found h
      (λ up rest.
      let free = passed (has_offer game) _ _ e rest in (
        event.Offer side,
        record { ready = up.running; short = tt },
        entered _ e free.1,
        h,
      ))

  accept-enters : (number : ℕ) → EntersIn (accept_verdict at) number
  accept-enters number game side e found h =
      runs number game (for_accept game side) (Enter (entry game.number at (event.Accept side))) e found h
      (λ up rest.
      let standing = passed (not (seat_of (other side) game).offers) _ _ e rest in
      let late = passed (nat_lt (ply_of game) 2) _ _ e standing.1 in (
        event.Accept side,
        record { ready = up.running; short = tt },
        entered _ e late.1,
        h,
      ))

  decline-enters : (number : ℕ) → EntersIn (decline_verdict at) number
  decline-enters number game side e found h =
      runs number game (offered game side) (Enter (entry game.number at (event.Decline side))) e found h
      (λ up rest.
      let standing = passed (not (seat_of (other side) game).offers) _ _ e rest in (
        event.Decline side,
        record { ready = up.running; short = tt },
        entered _ e standing.1,
        h,
      ))

  resign-enters : (number : ℕ) → EntersIn (resign_verdict at) number
  resign-enters number game side e found h =
      runs number game [] (Enter (entry game.number at (event.Resign side))) e found h
      (λ up rest. (
        event.Resign side,
        record { ready = up.running; short = tt },
        entered _ e rest,
        h,
      ))

  flag-enters : (number : ℕ) → EntersIn (flag_verdict at) number
  flag-enters number game side e found h =
      runs number game [] (Refuse FlagUp) e found h (λ up rest. absurd (cc))

  drop-enters : (number : ℕ) → EntersIn (drop_verdict at) number
  drop-enters number game side e found h =
      let gone = passed (is_joined game && not (is_over game)) _ _ e h in
      acted number game event.Drop e found (record { ready = tt; short = tt }) (entered _ e gone.1) h

  -- ---- a claim

  for_stated-passes : (game : GameState) (text : Option (List ℕ)) (move : Option Move) (v : Verdict) (e : Entry)
      → IsMoveParsed (Some game) text move → first_of (for_stated table game (is_some text) move) v ≡ Enter e
      → ForSome move (λ _. ply_of game < table.limits.plies) × (is_some text ≡ is_some move) × (v ≡ Enter e)
  for_stated-passes game None move v e tells h =
      (λ m states. absurd (cc), ap (λ (o : Option Move). is_some o) (sym tells), h)
  for_stated-passes game (Some text) move v e tells h =
      let last = for_move-passes game move v e h in (λ m states. last.0, something move last.1, last.2)

  claim-enters : (number ply : ℕ) (fifty : Bool) (text : Option (List ℕ)) (move : Option Move)
      → IsMoveParsed (find_game number table.games) text move
      → EntersIn (claim_verdict table at (claim_asked ply fifty (is_some text) move)) number
  claim-enters number ply fifty text move tells game side e found h =
      let here = subst (λ (o : Option GameState). IsMoveParsed o text move) found tells in
      let claim : Event = event.Claim (record { by = side; fifty = fifty; mv = move; ply = ply_of game }) in
      let v : Verdict = Enter (entry game.number at claim) in
      let last = for_stated table game (is_some text) move in
      runs number game (in_turn game side ply ++ (refuse game.claimed AlreadyClaimed ∷ last)) v e found h
      (λ up rest.
      let turn = in_turn-passes game side ply (refuse game.claimed AlreadyClaimed ∷ last) v e rest in
      let first = passed game.claimed _ _ e turn.2 in
      let short = for_stated-passes game text move v e here first.1 in (
        claim,
        record {
          ready = (
            up,
            record {
              on_move = turn.1;
              unclaimed = first.0;
              stated = λ m states. playable game m (legal_parsed game text move m here states) (short.0 m states);
            },
          );
          short = short.0;
        },
        entered _ e short.2,
        ap (λ (n : ℕ). claim_verdict table at (claim_asked n fifty (is_some move) move) game side) (sym turn.0)
            ∙ ap (λ (states : Bool). claim_verdict table at (claim_asked ply fifty states move) game side) (sym short.1)
            ∙ h,
      ))

  -- ---- a join

  join-enters : (number : ℕ) (name : List ℕ) (e : Entry) → IsName name
      → in_game (join_verdict at name) (find_game number table.games) ≡ Enter e → Acted e
  join-enters number name e named h =
      let found = in_game-entered (join_verdict at name) (find_game number table.games) e h in
      let untaken = passed (is_joined found.0) _ _ e found.2 in
      let stranger = passed (is_some (side_of name found.0)) _ _ e untaken.1 in
      acted number found.0 (event.Join name) e found.1
      (record { ready = (untaken.0, none-not_some (side_of name found.0) stranger.0, named); short = tt })
      (entered _ e stranger.1) found.2

  -- ---- a new game

  room_for_number : (last : ℕ) → last < 2 ^ 32 → (last == 4294967295) ≡ false → last + 1 < 2 ^ 32
  room_for_number last fits free = grind (arith, nat_tests)

  opens : (opening : Position → Opening) (start : Option Position) (e : Entry)
      → ((p : Position) → start ≡ Some p
      → IsTimeControl (control_of (opening p)) × IsStart (opening p).start × IsName (opening p).name)
      → ((p : Position) → start ≡ Some p → opening_verdict table at (opening p) ≡ Enter e)
      → is_full table ≡ false → opened_from table at opening start ≡ Enter e → (e.moment ≡ at) × OpensGame table e
  opens opening None e good verdict room h = absurd (cc)
  opens opening (Some p) e good verdict room h =
      let facts = good p refl in
      let same : e ≡ entry (table.last + 1) at (event.Open (opening p)) = entered _ e h in
      let full = or_parts (nat_le table.limits.games (length table.games)) (table.last == 4294967295) room in
      let here : OpensGame table (entry (table.last + 1) at (event.Open (opening p))) = record {
        opening = opening p;
        opens = refl;
        next = refl;
        number = room_for_number table.last is.last full.1;
        control = facts.0;
        start = facts.1;
        named = facts.2;
        room = leb-false table.limits.games (length table.games) full.0;
        verdict = verdict p refl ∙ ap (λ (x : Entry). Enter x) same;
      } in
      (ap (λ (x : Entry). x.moment) same, subst (OpensGame table) (sym same) here)

  open-enters : (colour : Colour) (initial increment : ℕ) (period : Option (ℕ × ℕ)) (name : List ℕ)
      (fen : Option (List ℕ)) (start : Option Position) (e : Entry) → IsName name → IsStartParsed fen start
      → open_verdict table at (opening_for colour initial increment period name) (are_times initial increment period) start
      ≡ Enter e → (e.moment ≡ at) × OpensGame table e
  open-enters colour initial increment period name fen start e named tells h =
      let times = passed (not (are_times initial increment period)) _ _ e h in
      let numbered = passed (not (is_start start)) _ _ e times.1 in
      let goes_on = passed (is_finished start) _ _ e numbered.1 in
      let room = passed (is_full table) _ _ e goes_on.1 in
      opens (opening_for colour initial increment period name) start e
      (λ p states. (
        IsTimeControl-of initial increment period (not-false (are_times initial increment period) times.0),
        record {
          valid = start_valid fen start p tells states;
          number = leb-true p.fullmove 9999 (ap is_start (sym states) ∙ not-false (is_start start) numbered.0);
          goes_on = ap is_finished (sym states) ∙ goes_on.0;
        },
        named,
      ))
      (λ p states. ap (λ (s : Option Position). open_verdict table at
      (opening_for colour initial increment period name) (are_times initial increment period) s) (sym states) ∙ h)
      room.0 room.1

  -- ---- every act

  abbrev Entered : Entry → Type 0
  Entered e = (e.moment ≡ at) × (OpensGame table e ⊎ ActsInGame table e)

  by_act : (e : Entry) → Acted e → Entered e
  by_act e h = (h.0, inr h.1)

  no_read : (o : Option GameState) (e : Entry) → in_game (λ _. Read) o ≡ Enter e → Entered e
  no_read None e h = absurd (cc)
  no_read (Some game) e h = absurd (cc)

  player-enters : (name : List ℕ) (parsed : Parsed) (a : Act) (e : Entry) → (is_read a ≡ false → IsName name)
      → IsParsed table a parsed → player_verdict table at name parsed a ≡ Enter e → Entered e
  player-enters name parsed (act.NewGame colour initial increment fen period) e named tells h =
      let opened = open-enters colour initial increment period name (bytes_of fen) parsed.start e (named refl) tells.0 h in
      (opened.0, inl opened.1)
  player-enters name parsed (act.Join game) e named tells h = by_act e (join-enters game name e (named refl) h)
  player-enters name parsed (act.Play game ply text) e named tells h =
      by_act e (in_seat-enters name game (move_verdict table at ply parsed.move) e
      (move-enters game ply text.bytes parsed.move tells.1) h)
  player-enters name parsed (act.Offer game) e named tells h =
      by_act e (in_seat-enters name game (offer_verdict at) e (offer-enters game) h)
  player-enters name parsed (act.Accept game) e named tells h =
      by_act e (in_seat-enters name game (accept_verdict at) e (accept-enters game) h)
  player-enters name parsed (act.Decline game) e named tells h =
      by_act e (in_seat-enters name game (decline_verdict at) e (decline-enters game) h)
  player-enters name parsed (act.Resign game) e named tells h =
      by_act e (in_seat-enters name game (resign_verdict at) e (resign-enters game) h)
  player-enters name parsed (act.Claim game ply fifty text) e named tells h =
      by_act e (in_seat-enters name game (claim_verdict table at (claim_asked ply fifty (is_some text) parsed.move)) e
      (claim_text game ply fifty text tells.1) h)
    where
      claim_text : (game ply : ℕ) (fifty : Bool) (text : Option ArrayString)
          → IsMoveParsed (find_game game table.games) (bytes_of text) parsed.move
          → EntersIn (claim_verdict table at (claim_asked ply fifty (is_some text) parsed.move)) game
      claim_text game ply fifty None tells = claim-enters game ply fifty None parsed.move tells
      claim_text game ply fifty (Some text) tells = claim-enters game ply fifty (Some text.bytes) parsed.move tells
  player-enters name parsed (act.Flag game) e named tells h =
      by_act e (in_seat-enters name game (flag_verdict at) e (flag-enters game) h)
  player-enters name parsed (act.Remove game) e named tells h =
      by_act e (in_seat-enters name game (drop_verdict at) e (drop-enters game) h)
  player-enters name parsed (act.Show game) e named tells h = no_read (find_game game table.games) e h
  player-enters name parsed (act.Fen game) e named tells h = no_read (find_game game table.games) e h
  player-enters name parsed (act.Pgn game) e named tells h = no_read (find_game game table.games) e h
  player-enters name parsed act.List e named tells h = absurd (cc)

  -- ---- which entry the verdict on the act of one is

  ran : (game : GameState) (checks : List Check) (v : Verdict) (x : Entry)
      → first_of (while_running game at ++ checks) v ≡ Enter x
      → (x ≡ entry game.number at event.Fallen) ⊎ (first_of checks v ≡ Enter x)
  ran game checks v x h =
      let joined = passed (not (is_joined game)) _ _ x h in
      let over = passed (is_over game) _ _ x joined.1 in
      elim (fallen_or (has_fallen game at) (entry game.number at event.Fallen) (first_of checks v) x over.1) [
        | inl fallen ↦ inl fallen.1
        | inr up ↦ inr up.1
      ]

  abbrev Which : ℕ → Event → Entry → Type 0
  Which number ev x = (x ≡ entry number at event.Fallen) ⊎ (x ≡ entry number at ev)

  or-fallen : (number : ℕ) (ev : Event) (x : Entry) {A : Type 0} → (x ≡ entry number at event.Fallen) ⊎ A
      → (A → x ≡ entry number at ev) → Which number ev x
  or-fallen number ev x (inl fallen) so = inl fallen
  or-fallen number ev x (inr a) so = inr (so a)

  which : (game : GameState) (ev : Event) (x : Entry) → witness_verdict table at game ev ≡ Enter x → Which game.number ev x
  which game (event.Open opening) x h = absurd (cc)
  which game (event.Join name) x h =
      let untaken = passed (is_joined game) _ _ x h in
      inr (entered _ x (passed (is_some (side_of name game)) _ _ x untaken.1).1)
  which game (event.Move made) x h =
      let side = (position_of game).side in
      let move : Option Move = Some made.mv in
      or-fallen game.number (event.Move made) x
      (ran game (in_turn game side made.ply ++ for_move table game move) (move_entered game at move) x h)
      (λ rest.
      let turn = in_turn-passes game side made.ply (for_move table game move) (move_entered game at move) x rest in
      let last = for_move-passes game move (move_entered game at move) x turn.2 in
      entered _ x last.2
      ∙ ap (λ (n : ℕ). entry game.number at (event.Move (record { mv = made.mv; ply = n }))) (sym turn.0))
  which game (event.Offer by) x h =
      or-fallen game.number (event.Offer by) x
      (ran game (refuse (has_offer game) OfferStands ∷ []) (Enter (entry game.number at (event.Offer by))) x h)
      (λ rest. entered _ x (passed (has_offer game) _ _ x rest).1)
  which game (event.Accept by) x h =
      or-fallen game.number (event.Accept by) x
      (ran game (for_accept game by) (Enter (entry game.number at (event.Accept by))) x h)
      (λ rest.
      let standing = passed (not (seat_of (other by) game).offers) _ _ x rest in
      entered _ x (passed (nat_lt (ply_of game) 2) _ _ x standing.1).1)
  which game (event.Decline by) x h =
      or-fallen game.number (event.Decline by) x
      (ran game (offered game by) (Enter (entry game.number at (event.Decline by))) x h)
      (λ rest. entered _ x (passed (not (seat_of (other by) game).offers) _ _ x rest).1)
  which game (event.Resign by) x h =
      or-fallen game.number (event.Resign by) x (ran game [] (Enter (entry game.number at (event.Resign by))) x h)
      (λ rest. entered _ x rest)
  which game (event.Claim claim) x h =
      let last = for_stated table game (is_some claim.mv) claim.mv in
      let v : Verdict = Enter (entry game.number at
      (event.Claim (record { by = claim.by; fifty = claim.fifty; mv = claim.mv; ply = ply_of game }))) in
      or-fallen game.number (event.Claim claim) x
      (ran game (in_turn game claim.by claim.ply ++ (refuse game.claimed AlreadyClaimed ∷ last)) v x h)
      (λ rest.
      let turn = in_turn-passes game claim.by claim.ply (refuse game.claimed AlreadyClaimed ∷ last) v x rest in
      let first = passed game.claimed _ _ x turn.2 in
      entered _ x (stated-last game claim.mv v x first.1)
      ∙ ap (λ (n : ℕ). entry game.number at
      (event.Claim (record { by = claim.by; fifty = claim.fifty; mv = claim.mv; ply = n }))) (sym turn.0))
    where
      stated-last : (game : GameState) (move : Option Move) (v : Verdict) (x : Entry)
          → first_of (for_stated table game (is_some move) move) v ≡ Enter x → v ≡ Enter x
      stated-last game None v x h = h
      stated-last game (Some m) v x h = (for_move-passes game (Some m) v x h).2
  which game event.Fallen x h =
      or-fallen game.number event.Fallen x (ran game [] (Refuse FlagUp) x h) (λ rest. absurd (cc))
  which game event.Drop x h = inr (entered _ x (passed (is_joined game && not (is_over game)) _ _ x h).1)

  -- the entry that the verdict is, where it is one of this game and kind
  entered-by : (v : Verdict) (e : Entry) → Enters v e
      → (x : Entry) × (v ≡ Enter x) × (x.game ≡ e.game) × (is_fallen x.event ≡ is_fallen e.event)
  entered-by (Refuse refusal) e h = absurd h
  entered-by Read e h = absurd h
  entered-by (Enter x) e h = (x, refl, h.0, h.1)

  entry-is : (number : ℕ) (ev : Event) (e : Entry) → number ≡ e.game → e.moment ≡ at → e.event ≡ ev
      → entry number at ev ≡ e
  entry-is number ev e game moment is =
      ap (λ (n : ℕ). entry n at ev) game ∙ ap (λ (n : ℕ). entry e.game n ev) (sym moment)
      ∙ ap (λ (x : Event). entry e.game e.moment x) (sym is)

  pub the-entry : (game : GameState) (ev : Event) (e : Entry) → game.number ≡ e.game → e.moment ≡ at → e.event ≡ ev
      → Enters (witness_verdict table at game ev) e → witness_verdict table at game ev ≡ Enter e
  the-entry game ev e number moment is enters =
      let by = entered-by (witness_verdict table at game ev) e enters in
      let same : by.0 ≡ e = elim (which game ev by.0 by.1) [
        | inl fallen ↦
            let up : is_fallen e.event ≡ true = sym by.3 ∙ ap (λ (y : Entry). is_fallen y.event) fallen in
            fallen ∙ entry-is game.number event.Fallen e number moment (fallen-is e.event up)
        | inr other ↦ other ∙ entry-is game.number ev e number moment is
      ] in
      by.1 ∙ ap (λ (y : Entry). Enter y) same

  pub the-opening : (opening : Opening) (e : Entry) → e.moment ≡ at → e.event ≡ event.Open opening
      → Enters (opening_verdict table at opening) e → opening_verdict table at opening ≡ Enter e
  the-opening opening e moment is enters =
      let by = entered-by (opening_verdict table at opening) e enters in
      let times = passed (not (are_times opening.initial opening.increment opening.period)) _ _ by.0 by.1 in
      let numbered = passed (not (is_start (Some opening.start))) _ _ by.0 times.1 in
      let goes_on = passed (is_finished (Some opening.start)) _ _ by.0 numbered.1 in
      let room = passed (is_full table) _ _ by.0 goes_on.1 in
      let same : by.0 ≡ entry (table.last + 1) at (event.Open opening) = entered _ by.0 room.1 in
      by.1 ∙ ap (λ (y : Entry). Enter y)
      (same ∙ entry-is (table.last + 1) (event.Open opening) e (sym (ap (λ (y : Entry). y.game) same) ∙ by.2) moment is)

-- ---- the verdict

known : (read stranger : Bool) → (not read && stranger) ≡ false → read ≡ false → stranger ≡ false
known true stranger h read = absurd (cc)
known false stranger h read = h

name_of : (who : Option (List ℕ)) → IfSome who IsName → is_none who ≡ false → IsName (name_or_none who)
name_of None named is = absurd (cc)
name_of (Some name) named is = named

in_range-at : (at : ℕ) → nat_lt 4611686018427387903 at ≡ false → at ≤ 4611686018427387903
in_range-at at h = grind (arith, nat_tests)

-- An entry that may come on a table has a moment that is not before those of the entries so far, opens a game for which
-- there is room, or is of a game that is ready for it.
pub Comes-entered : (table : TableState) (e : Entry) → IsTable table → IsEnteredOn table e → Comes table e
Comes-entered table e is on =
    let command = on.command in
    let parsed = on.entered.parsed in
    let h : verdict table command parsed ≡ Enter e = sym on.entered.is in
    let early = passed (nat_lt 4611686018427387903 command.at) _ _ e h in
    let named = passed (not (is_read command.act) && is_none command.who) _ _ e early.1 in
    let at = effective table command.at in
    let from : table.moment ≤ at = omega arith in
    let asked : command.at ≤ 4611686018427387903 = in_range-at command.at early.0 in
    let to : at ≤ 4611686018427387903 = omega (arith, is.moment) in
    let all = player-enters table is at from (name_or_none command.who) parsed command.act e
    (λ acts. name_of command.who on.named (known (is_read command.act) (is_none command.who) named.0 acts))
    on.entered.is_parsed named.1 in
    record {
      from = subst (λ (n : ℕ). table.moment ≤ n) (sym all.0) from;
      to = subst (λ (n : ℕ). n ≤ 4611686018427387903) (sym all.0) to;
      kind = all.1;
    }
