-- What `game_line` asks of an entry holds of every entry that may come on a table.
use Rattle.std.specs.Prelude.{ℕ, ◌≡◌, ◌≤◌, ◌+◌, ◌==◌, ◌&&◌, not, nat_lt, Bool, true, false, if◌then◌else◌, List, [], ◌∷◌, ◌++◌, Option, Some, None, is_none, is_some}
use Rattle.std.proofs.Common.{ap, sym, subst, ◌∙◌, refl, inl, inr, arith}
use Rattle.std.proofs.lemmas.Bool.{leb-false, eqb-true, cases_Bool}
use Rattle.arrayvec.specs.ArrayString.{ArrayString}
use Rattle.chess_bits.specs.declared.men.Colour.{Colour}
use Rattle.chess_board.specs.declared.moves.Move.{Move}
use Rattle.chess_board.specs.Position.{Position}
use Rattle.chess_board.specs.Legal.{EachOf}
use Rattle.rec_codec.specs.declared.record.Event.{Event}
use Rattle.rec_codec.specs.declared.record.Event.TheVariants as event
use Rattle.rec_codec.specs.declared.record.Entry.{Entry}
use Rattle.rec_codec.specs.declared.record.Opening.{Opening}
use Rattle.rec_codec.specs.Records.{entry}
use Rattle.chess_entry.specs.declared.commands.Act.{Act}
use Rattle.chess_entry.specs.declared.commands.Act.TheVariants as act
use Rattle.chess_entry.specs.declared.commands.Command.{Command}
use Rattle.chess_entry.specs.declared.refusals.Refusal.TheVariants.{NoName, BadMoment, AlreadyClaimed, OfferStands, FlagUp, NotOver, Taken, SamePlayer, BadTime, BadFen, Finished, TooManyGames}
use Rattle.chess_entry.specs.declared.verdicts.Verdict.{Verdict}
use Rattle.chess_entry.specs.declared.verdicts.Verdict.TheVariants.{Refuse, Enter, Read}
use Rattle.chess_entry.specs.State.{GameState, TableState, ply_of, is_joined, is_over, find_game}
use Rattle.chess_entry.specs.Parsed.{Parsed, IsMoveParsed, bytes_of}
use Rattle.chess_entry.specs.Verdict.{Check, refuse, first_of, are_times, is_start, is_finished, is_full, is_long, is_read, has_offer, in_game, by_side, while_running, in_turn, for_move, for_stated, offered, for_accept, opening_for, opened_from, move_entered, join_verdict, move_verdict, offer_verdict, accept_verdict, decline_verdict, resign_verdict, claim_asked, claim_verdict, flag_verdict, drop_verdict, in_seat, side_of, player_verdict, name_or_none, effective, verdict, IsParsed}
use Rattle.chess_entry.specs.Table.{IsTable, IsOnTable}
use Rattle.chess_entry.proofs.Entering.{find_game-number}
use Rattle.chess_game.specs.Turn.{IsPlayable}
use Rattle.chess_answer.specs.Acts.{MayCome, MayComeOn, LawOfComing}

-- ---- the entry that a verdict enters, if it enters one

abbrev Enters : (Entry → Type 0) → Verdict → Type 0
Enters P (Refuse refusal) = Unit {0}
Enters P (Enter e) = P e
Enters P Read = Unit {0}

abbrev EachEnters : (Entry → Type 0) → List Check → Type 0
EachEnters P [] = Unit {0}
EachEnters P (c ∷ checks) = Enters P c.verdict × EachEnters P checks

abbrev NoneApplies : List Check → Type 0
NoneApplies [] = Unit {0}
NoneApplies (c ∷ checks) = (c.applies ≡ false) × NoneApplies checks

Enters-chosen : (P : Entry → Type 0) (b : Bool) (v w : Verdict) → Enters P v → (b ≡ false → Enters P w)
    → Enters P (if b then v else w)
Enters-chosen P true v w here later = here
Enters-chosen P false v w here later = later refl

Enters-first_of : (P : Entry → Type 0) (checks : List Check) (v : Verdict) → EachEnters P checks
    → (NoneApplies checks → Enters P v) → Enters P (first_of checks v)
Enters-first_of P [] v each last = last tt
Enters-first_of P (c ∷ checks) v each last =
    Enters-chosen P c.applies c.verdict (first_of checks v) each.0
    (λ no. Enters-first_of P checks v each.1 (λ none. last (no, none)))

Enters-in_game : (P : Entry → Type 0) (v : GameState → Verdict) (o : Option GameState)
    → ((game : GameState) → o ≡ Some game → Enters P (v game)) → Enters P (in_game v o)
Enters-in_game P v None each = tt
Enters-in_game P v (Some game) each = each game refl

Enters-by_side : (P : Entry → Type 0) (v : Colour → Verdict) (o : Option Colour)
    → ((side : Colour) → Enters P (v side)) → Enters P (by_side v o)
Enters-by_side P v None each = tt
Enters-by_side P v (Some side) each = each side

Enters-in_seat : (P : Entry → Type 0) (table : TableState) (name : List ℕ) (number : ℕ)
    (v : GameState → Colour → Verdict)
    → ((game : GameState) (side : Colour) → find_game number table.games ≡ Some game → Enters P (v game side))
    → Enters P (in_seat table name number v)
Enters-in_seat P table name number v each =
    Enters-in_game P (λ game. by_side (v game) (side_of name game)) (find_game number table.games)
    (λ game found. Enters-by_side P (v game) (side_of name game) (λ side. each game side found))

-- ---- an entry that comes

abbrev Comes : TableState → Entry → Type 0
Comes table e = MayComeOn (find_game e.game table.games) e.event

comes : (table : TableState) (number at : ℕ) (game : GameState) (ev : Event)
    → find_game number table.games ≡ Some game → MayCome game ev → Comes table (entry game.number at ev)
comes table number at game ev found may =
    let same = ap (λ (n : ℕ). find_game n table.games) (find_game-number number table.games game found) ∙ found in
    let P : Option GameState → Type 0 = λ o. MayComeOn o ev in
    subst P (sym same) may

-- No game has a number above the last one given.
beyond : (table : TableState) (games : List GameState) → EachOf (IsOnTable table) games
    → find_game (table.last + 1) games ≡ None
beyond table [] each = refl
beyond table (g ∷ games) each = elim (cases_Bool (g.number == table.last + 1)) [
  | inl here ↦
      let low = each.0.number in
      let is = eqb-true g.number (table.last + 1) here in
      absurd (omega arith)
  | inr later ↦
      ap (λ (b : Bool). if b then Some g else find_game (table.last + 1) games) later ∙ beyond table games each.1
]

-- where the game has to run
running : (table : TableState) (number at : ℕ) (game : GameState) (checks : List Check) (v : Verdict)
    → find_game number table.games ≡ Some game → EachEnters (Comes table) checks
    → (NoneApplies checks → Enters (Comes table) v)
    → Enters (Comes table) (first_of (while_running game at ++ checks) v)
running table number at game checks v found each last =
    Enters-first_of (Comes table) (while_running game at ++ checks) v
    (tt, (tt, (comes table number at game event.Fallen found tt, each)))
    (λ none. last none.1.1.1)

-- ---- moves

playable : (table : TableState) (game : GameState) (text : List ℕ) (m : Move) → IsTable table
    → IsMoveParsed (Some game) (Some text) (Some m) → is_long table game ≡ false → IsPlayable game m
playable table game text m is names short =
    let few : table.limits.plies ≤ 20000 = is.limits.few_plies in
    let below = leb-false table.limits.plies (ply_of game) short in
    record { legal = names.legal; room = omega arith }

moved-comes : (table : TableState) (number at : ℕ) (game : GameState) (text : List ℕ) (move : Option Move)
    → IsTable table → find_game number table.games ≡ Some game → IsMoveParsed (Some game) (Some text) move
    → is_long table game ≡ false → Enters (Comes table) (move_entered game at move)
moved-comes table number at game text None is found names short = tt
moved-comes table number at game text (Some m) is found names short =
    comes table number at game (event.Move (record { mv = m; ply = ply_of game })) found
    (playable table game text m is names short)

move-comes : (table : TableState) (number at ply : ℕ) (text : List ℕ) (move : Option Move) (game : GameState)
    (side : Colour) → IsTable table → find_game number table.games ≡ Some game
    → IsMoveParsed (find_game number table.games) (Some text) move
    → Enters (Comes table) (move_verdict table at ply move game side)
move-comes table number at ply text move game side is found told =
    let P : Option GameState → Type 0 = λ o. IsMoveParsed o (Some text) move in
    running table number at game (in_turn game side ply ++ for_move table game move) (move_entered game at move) found
    (tt, (tt, (tt, (tt, tt))))
    (λ none. moved-comes table number at game text move is found (subst P found told) none.1.1.0)

-- a claim's stated move
claimed-plays : (table : TableState) (game : GameState) (text : Option (List ℕ)) (move : Option Move) (m : Move)
    → IsTable table → IsMoveParsed (Some game) text move → NoneApplies (for_stated table game (is_some text) move)
    → move ≡ Some m → IsPlayable game m
claimed-plays table game None move m is told none same = absurd (cc)
claimed-plays table game (Some text) move m is told none same =
    let P : Option Move → Type 0 = λ o. IsMoveParsed (Some game) (Some text) o in
    playable table game text m is (subst P same told) none.0

each-stated : (P : Entry → Type 0) (table : TableState) (game : GameState) (states : Bool) (move : Option Move)
    → EachEnters P (for_stated table game states move)
each-stated P table game true move = (tt, (tt, tt))
each-stated P table game false move = tt

claim-comes : (table : TableState) (number at ply : ℕ) (fifty : Bool) (text : Option (List ℕ)) (move : Option Move)
    (game : GameState) (side : Colour) → IsTable table → find_game number table.games ≡ Some game
    → IsMoveParsed (find_game number table.games) text move
    → Enters (Comes table) (claim_verdict table at (claim_asked ply fifty (is_some text) move) game side)
claim-comes table number at ply fifty text move game side is found told =
    let P : Option GameState → Type 0 = λ o. IsMoveParsed o text move in
    let ev : Event = event.Claim (record { by = side; fifty = fifty; mv = move; ply = ply_of game }) in
    let last = for_stated table game (is_some text) move in
    running table number at game (in_turn game side ply ++ (refuse game.claimed AlreadyClaimed ∷ last))
    (Enter (entry game.number at ev)) found
    (tt, (tt, (tt, each-stated (Comes table) table game (is_some text) move)))
    (λ none. comes table number at game ev found
    (λ m same. claimed-plays table game text move m is (subst P found told) none.1.1.1 same))

claim-given : (table : TableState) (number at ply : ℕ) (fifty : Bool) (text : Option ArrayString) (move : Option Move)
    (game : GameState) (side : Colour) → IsTable table → find_game number table.games ≡ Some game
    → IsMoveParsed (find_game number table.games) (bytes_of text) move
    → Enters (Comes table) (claim_verdict table at (claim_asked ply fifty (is_some text) move) game side)
claim-given table number at ply fifty None move game side is found told =
    claim-comes table number at ply fifty None move game side is found told
claim-given table number at ply fifty (Some text) move game side is found told =
    claim-comes table number at ply fifty (Some text.bytes) move game side is found told

-- ---- all acts

opened-comes : (table : TableState) (at : ℕ) (opening : Position → Opening) (start : Option Position) → IsTable table
    → Enters (Comes table) (opened_from table at opening start)
opened-comes table at opening None is = tt
opened-comes table at opening (Some p) is =
    let P : Option GameState → Type 0 = λ o. MayComeOn o (event.Open (opening p)) in
    subst P (sym (beyond table table.games is.games)) tt

player-comes : (table : TableState) (at : ℕ) (name : List ℕ) (parsed : Parsed) (a : Act) → IsTable table
    → IsParsed table a parsed → Enters (Comes table) (player_verdict table at name parsed a)
player-comes table at name parsed (act.NewGame colour initial increment fen period) is says =
    let opening = opening_for colour initial increment period name in
    Enters-first_of (Comes table)
    (refuse (not (are_times initial increment period)) BadTime ∷
    refuse (not (is_start parsed.start)) BadFen ∷
    refuse (is_finished parsed.start) Finished ∷
    refuse (is_full table) TooManyGames ∷ [])
    (opened_from table at opening parsed.start)
    (tt, (tt, (tt, (tt, tt)))) (λ none. opened-comes table at opening parsed.start is)
player-comes table at name parsed (act.Join game) is says =
    Enters-in_game (Comes table) (join_verdict at name) (find_game game table.games) (λ g found.
    Enters-first_of (Comes table)
    (refuse (is_joined g) Taken ∷ refuse (is_some (side_of name g)) SamePlayer ∷ [])
    (Enter (entry g.number at (event.Join name)))
    (tt, (tt, tt)) (λ none. comes table game at g (event.Join name) found tt))
player-comes table at name parsed (act.Play game ply text) is says =
    Enters-in_seat (Comes table) table name game (move_verdict table at ply parsed.move)
    (λ g side found. move-comes table game at ply text.bytes parsed.move g side is found says.1)
player-comes table at name parsed (act.Offer game) is says =
    Enters-in_seat (Comes table) table name game (offer_verdict at) (λ g side found.
    running table game at g (refuse (has_offer g) OfferStands ∷ []) (Enter (entry g.number at (event.Offer side)))
    found (tt, tt) (λ none. comes table game at g (event.Offer side) found tt))
player-comes table at name parsed (act.Accept game) is says =
    Enters-in_seat (Comes table) table name game (accept_verdict at) (λ g side found.
    running table game at g (for_accept g side) (Enter (entry g.number at (event.Accept side)))
    found (tt, (tt, tt)) (λ none. comes table game at g (event.Accept side) found tt))
player-comes table at name parsed (act.Decline game) is says =
    Enters-in_seat (Comes table) table name game (decline_verdict at) (λ g side found.
    running table game at g (offered g side) (Enter (entry g.number at (event.Decline side)))
    found (tt, tt) (λ none. comes table game at g (event.Decline side) found tt))
player-comes table at name parsed (act.Resign game) is says =
    Enters-in_seat (Comes table) table name game (resign_verdict at) (λ g side found.
    running table game at g [] (Enter (entry g.number at (event.Resign side)))
    found tt (λ none. comes table game at g (event.Resign side) found tt))
player-comes table at name parsed (act.Claim game ply fifty text) is says =
    Enters-in_seat (Comes table) table name game (claim_verdict table at (claim_asked ply fifty (is_some text) parsed.move))
    (λ g side found. claim-given table game at ply fifty text parsed.move g side is found says.1)
player-comes table at name parsed (act.Flag game) is says =
    Enters-in_seat (Comes table) table name game (flag_verdict at) (λ g side found.
    running table game at g [] (Refuse FlagUp) found tt (λ none. tt))
player-comes table at name parsed (act.Remove game) is says =
    Enters-in_seat (Comes table) table name game (drop_verdict at) (λ g side found.
    Enters-first_of (Comes table) (refuse (is_joined g && not (is_over g)) NotOver ∷ [])
    (Enter (entry g.number at event.Drop)) (tt, tt) (λ none. comes table game at g event.Drop found tt))
player-comes table at name parsed (act.Show game) is says =
    Enters-in_game (Comes table) (λ _. Read) (find_game game table.games) (λ g found. tt)
player-comes table at name parsed (act.Fen game) is says =
    Enters-in_game (Comes table) (λ _. Read) (find_game game table.games) (λ g found. tt)
player-comes table at name parsed (act.Pgn game) is says =
    Enters-in_game (Comes table) (λ _. Read) (find_game game table.games) (λ g found. tt)
player-comes table at name parsed act.List is says = tt

verdict-comes : (table : TableState) (command : Command) (parsed : Parsed) → IsTable table
    → IsParsed table command.act parsed → Enters (Comes table) (verdict table command parsed)
verdict-comes table command parsed is says =
    Enters-first_of (Comes table)
    (refuse (nat_lt 4611686018427387903 command.at) BadMoment ∷
    refuse (not (is_read command.act) && is_none command.who) NoName ∷ [])
    (player_verdict table (effective table command.at) (name_or_none command.who) parsed command.act)
    (tt, (tt, tt))
    (λ none. player-comes table (effective table command.at) (name_or_none command.who) parsed command.act is says)

pub law : LawOfComing
law = λ table e is may.
    let P : Verdict → Type 0 = λ v. Enters (Comes table) v in
    let given = may.entered in
    subst P (sym given.is) (verdict-comes table may.command given.parsed is given.is_parsed)
