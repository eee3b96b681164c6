-- A command that is a read: it is `show`, `fen` or `pgn` of a game that stands, or `list`.
use Rattle.std.specs.Prelude.{ℕ, ◌≡◌, ◌&&◌, not, nat_lt, Bool, true, false, if◌then◌else◌, List, [], ◌∷◌, ◌++◌, Option, Some, None, is_none, is_some}
use Rattle.std.proofs.Common.{ap, sym, subst, refl}
use Rattle.chess_bits.specs.declared.men.Colour.{Colour}
use Rattle.chess_board.specs.declared.moves.Move.{Move}
use Rattle.chess_board.specs.Position.{Position}
use Rattle.rec_codec.specs.declared.record.Event.TheVariants as event
use Rattle.rec_codec.specs.declared.record.Opening.{Opening}
use Rattle.rec_codec.specs.Records.{entry}
use Rattle.chess_entry.specs.declared.commands.Act.{Act}
use Rattle.chess_entry.specs.declared.commands.Act.TheVariants as act
use Rattle.chess_entry.specs.declared.commands.Command.{Command}
use Rattle.chess_entry.specs.declared.refusals.Refusal.TheVariants.{NoName, BadMoment, AlreadyClaimed, OfferStands, FlagUp, NotOver, Taken, SamePlayer, BadTime, BadFen, Finished, TooManyGames}
use Rattle.chess_entry.specs.declared.verdicts.Verdict.{Verdict}
use Rattle.chess_entry.specs.declared.verdicts.Verdict.TheVariants.{Refuse, Enter, Read}
use Rattle.chess_entry.specs.State.{GameState, TableState, ply_of, is_joined, is_over, find_game}
use Rattle.chess_entry.specs.Parsed.{Parsed}
use Rattle.chess_entry.specs.Verdict.{Check, refuse, first_of, are_times, is_start, is_finished, is_full, has_offer, is_read, in_game, by_side, while_running, in_turn, for_move, for_stated, offered, for_accept, opening_for, opened_from, move_entered, in_seat, side_of, player_verdict, name_or_none, effective, move_verdict, offer_verdict, accept_verdict, decline_verdict, resign_verdict, claim_asked, claim_verdict, flag_verdict, drop_verdict, join_verdict}
use Rattle.chess_table.specs.Reading.{IsRead}

-- what holds where a verdict is a read
abbrev OnRead : Type 0 → Verdict → Type 0
OnRead P (Refuse refusal) = Unit {0}
OnRead P (Enter e) = Unit {0}
OnRead P Read = P

abbrev NoReads : List Check → Type 0
NoReads [] = Unit {0}
NoReads (c ∷ checks) = OnRead ⊥ c.verdict × NoReads checks

weaker : (P : Type 0) (v : Verdict) → OnRead ⊥ v → OnRead P v
weaker P (Refuse refusal) never = tt
weaker P (Enter e) never = tt
weaker P Read never = absurd never

chosen : (P : Type 0) (b : Bool) (v w : Verdict) → OnRead P v → OnRead P w → OnRead P (if b then v else w)
chosen P true v w one other = one
chosen P false v w one other = other

first_of-reads : (P : Type 0) (checks : List Check) (v : Verdict) → NoReads checks → OnRead P v
    → OnRead P (first_of checks v)
first_of-reads P [] v none last = last
first_of-reads P (c ∷ checks) v none last =
    chosen P c.applies c.verdict (first_of checks v) (weaker P c.verdict none.0)
    (first_of-reads P checks v none.1 last)

in_game-reads : (P : Type 0) (v : GameState → Verdict) (o : Option GameState)
    → ((game : GameState) → o ≡ Some game → OnRead P (v game)) → OnRead P (in_game v o)
in_game-reads P v None each = tt
in_game-reads P v (Some game) each = each game refl

by_side-reads : (v : Colour → Verdict) (o : Option Colour) → ((side : Colour) → OnRead ⊥ (v side))
    → OnRead ⊥ (by_side v o)
by_side-reads v None each = tt
by_side-reads v (Some side) each = each side

in_seat-reads : (table : TableState) (name : List ℕ) (number : ℕ) (v : GameState → Colour → Verdict)
    → ((game : GameState) (side : Colour) → OnRead ⊥ (v game side)) → OnRead ⊥ (in_seat table name number v)
in_seat-reads table name number v each =
    in_game-reads ⊥ (λ game. by_side (v game) (side_of name game)) (find_game number table.games)
    (λ game found. by_side-reads (v game) (side_of name game) (each game))

moved-reads : (game : GameState) (at : ℕ) (move : Option Move) → OnRead ⊥ (move_entered game at move)
moved-reads game at None = tt
moved-reads game at (Some m) = tt

opened-reads : (table : TableState) (at : ℕ) (opening : Position → Opening) (start : Option Position)
    → OnRead ⊥ (opened_from table at opening start)
opened-reads table at opening None = tt
opened-reads table at opening (Some start) = tt

-- the checks of a claim
for_stated-none : (table : TableState) (game : GameState) (states : Bool) (move : Option Move)
    → NoReads (for_stated table game states move)
for_stated-none table game true move = (tt, (tt, tt))
for_stated-none table game false move = tt

-- A game that stands, for `show`, `fen` and `pgn`; nothing for `list`; the other acts are no reads.
abbrev pub IsAnswered : TableState → Act → Type 0
IsAnswered table (act.Show game) = is_some (find_game game table.games) ≡ true
IsAnswered table (act.Fen game) = is_some (find_game game table.games) ≡ true
IsAnswered table (act.Pgn game) = is_some (find_game game table.games) ≡ true
IsAnswered table act.List = Unit {0}
IsAnswered table _ = ⊥

there : (o : Option GameState) (game : GameState) → o ≡ Some game → is_some o ≡ true
there o game found = ap (λ (x : Option GameState). is_some x) found

player-reads : (table : TableState) (at : ℕ) (name : List ℕ) (parsed : Parsed) (a : Act)
    → OnRead (IsAnswered table a) (player_verdict table at name parsed a)
player-reads table at name parsed (act.NewGame colour initial increment fen period) =
    first_of-reads ⊥
    (refuse (not (are_times initial increment period)) BadTime ∷
    refuse (not (is_start parsed.start)) BadFen ∷
    refuse (is_finished parsed.start) Finished ∷
    refuse (is_full table) TooManyGames ∷ [])
    (opened_from table at (opening_for colour initial increment period name) parsed.start) (tt, (tt, (tt, (tt, tt))))
    (opened-reads table at (opening_for colour initial increment period name) parsed.start)
player-reads table at name parsed (act.Join game) =
    in_game-reads ⊥ (join_verdict at name) (find_game game table.games)
    (λ g found. first_of-reads ⊥
    (refuse (is_joined g) Taken ∷ refuse (is_some (side_of name g)) SamePlayer ∷ [])
    (Enter (entry g.number at (event.Join name))) (tt, (tt, tt)) tt)
player-reads table at name parsed (act.Play game ply text) =
    in_seat-reads table name game (move_verdict table at ply parsed.move)
    (λ g side. first_of-reads ⊥
    (while_running g at ++ (in_turn g side ply ++ for_move table g parsed.move)) (move_entered g at parsed.move)
    (tt, (tt, (tt, (tt, (tt, (tt, (tt, tt))))))) (moved-reads g at parsed.move))
player-reads table at name parsed (act.Offer game) =
    in_seat-reads table name game (offer_verdict at)
    (λ g side. first_of-reads ⊥ (while_running g at ++ (refuse (has_offer g) OfferStands ∷ []))
    (Enter (entry g.number at (event.Offer side))) (tt, (tt, (tt, (tt, tt)))) tt)
player-reads table at name parsed (act.Accept game) =
    in_seat-reads table name game (accept_verdict at)
    (λ g side. first_of-reads ⊥ (while_running g at ++ for_accept g side)
    (Enter (entry g.number at (event.Accept side))) (tt, (tt, (tt, (tt, (tt, tt))))) tt)
player-reads table at name parsed (act.Decline game) =
    in_seat-reads table name game (decline_verdict at)
    (λ g side. first_of-reads ⊥ (while_running g at ++ offered g side)
    (Enter (entry g.number at (event.Decline side))) (tt, (tt, (tt, (tt, tt)))) tt)
player-reads table at name parsed (act.Resign game) =
    in_seat-reads table name game (resign_verdict at) (λ g side. first_of-reads ⊥ (while_running g at)
    (Enter (entry g.number at (event.Resign side))) (tt, (tt, (tt, tt))) tt)
player-reads table at name parsed (act.Claim game ply fifty text) =
    in_seat-reads table name game (claim_verdict table at (claim_asked ply fifty (is_some text) parsed.move))
    (λ g side. first_of-reads ⊥
    (while_running g at
    ++ (in_turn g side ply ++ (refuse g.claimed AlreadyClaimed ∷ for_stated table g (is_some text) parsed.move)))
    (Enter (entry g.number at (event.Claim (record { by = side; fifty = fifty; mv = parsed.move; ply = ply_of g }))))
    (tt, (tt, (tt, (tt, (tt, (tt, for_stated-none table g (is_some text) parsed.move)))))) tt)
player-reads table at name parsed (act.Flag game) =
    in_seat-reads table name game (flag_verdict at) (λ g side. first_of-reads ⊥ (while_running g at) (Refuse FlagUp)
    (tt, (tt, (tt, tt))) tt)
player-reads table at name parsed (act.Remove game) =
    in_seat-reads table name game (drop_verdict at)
    (λ g side. first_of-reads ⊥ (refuse (is_joined g && not (is_over g)) NotOver ∷ [])
    (Enter (entry g.number at event.Drop)) (tt, tt) tt)
player-reads table at name parsed (act.Show game) =
    in_game-reads _ (λ _. Read) (find_game game table.games) (λ g found. there (find_game game table.games) g found)
player-reads table at name parsed (act.Fen game) =
    in_game-reads _ (λ _. Read) (find_game game table.games) (λ g found. there (find_game game table.games) g found)
player-reads table at name parsed (act.Pgn game) =
    in_game-reads _ (λ _. Read) (find_game game table.games) (λ g found. there (find_game game table.games) g found)
player-reads table at name parsed act.List = tt

pub answered : (table : TableState) (command : Command) → IsRead table command → IsAnswered table command.act
answered table command read =
    subst (OnRead (IsAnswered table command.act)) (sym read.is)
    (first_of-reads (IsAnswered table command.act)
    (refuse (nat_lt 4611686018427387903 command.at) BadMoment ∷
    refuse (not (is_read command.act) && is_none command.who) NoName ∷ [])
    (player_verdict table (effective table command.at) (name_or_none command.who) read.parsed command.act) (tt, (tt, tt))
    (player-reads table (effective table command.at) (name_or_none command.who) read.parsed command.act))

-- An act that is answered is one of these.
pub no_other : (table : TableState) (a : Act) → IsAnswered table a → ((x : ℕ) → a ≡ act.Show x → ⊥)
    → ((x : ℕ) → a ≡ act.Fen x → ⊥) → ((x : ℕ) → a ≡ act.Pgn x → ⊥) → (a ≡ act.List → ⊥) → ⊥
no_other table (act.Show g) is show fen pgn list = show g refl
no_other table (act.Fen g) is show fen pgn list = fen g refl
no_other table (act.Pgn g) is show fen pgn list = pgn g refl
no_other table act.List is show fen pgn list = list refl
no_other table (act.NewGame colour initial increment start period) is show fen pgn list = is
no_other table (act.Join g) is show fen pgn list = is
no_other table (act.Play g ply text) is show fen pgn list = is
no_other table (act.Offer g) is show fen pgn list = is
no_other table (act.Accept g) is show fen pgn list = is
no_other table (act.Decline g) is show fen pgn list = is
no_other table (act.Resign g) is show fen pgn list = is
no_other table (act.Claim g ply fifty text) is show fen pgn list = is
no_other table (act.Flag g) is show fen pgn list = is
no_other table (act.Remove g) is show fen pgn list = is
