-- What a command meets on a table: the first check that applies refuses it; else it is a read, or becomes an entry.
use Rattle.std.specs.Prelude.{ℕ, ◌≡◌, ◌-◌, ◌+◌, ◌==◌, ◌&&◌, ◌||◌, not, nat_le, nat_lt, Bool, true, false, if◌then◌else◌}
use Rattle.std.specs.Prelude.{List, [], ◌∷◌, ◌++◌, length, max, Option, Some, None, is_some, is_none, nat_eq}
use Rattle.std.specs.Cmp.Lexicographic.{pointwise}
use Rattle.chess_bits.specs.declared.men.Colour.{Colour}
use Rattle.chess_bits.specs.declared.men.Colour.TheVariants.{White, Black}
use Rattle.chess_bits.specs.Man.{is_colour, other}
use Rattle.chess_board.specs.declared.moves.Move.{Move}
use Rattle.chess_board.specs.Position.{Position}
use Rattle.chess_end.specs.Computing.{is_checkmate, is_stalemate, is_listed_dead}
use Rattle.rec_codec.specs.declared.record.Event.TheVariants as event
use Rattle.rec_codec.specs.declared.record.Opening.{Opening}
use Rattle.rec_codec.specs.Records.{entry}
use Rattle.chess_entry.specs.declared.commands.Act.{Act}
use Rattle.chess_entry.specs.declared.commands.Act.TheVariants as act
use Rattle.chess_entry.specs.declared.commands.Command.{Command}
use Rattle.chess_entry.specs.declared.refusals.Refusal.{Refusal}
use Rattle.chess_entry.specs.declared.refusals.Refusal.TheVariants.{NoName, NoGame, NotSeated, NotStarted, Over}
use Rattle.chess_entry.specs.declared.refusals.Refusal.TheVariants.{WrongPly, NotYourMove, BadMove, OfferStands}
use Rattle.chess_entry.specs.declared.refusals.Refusal.TheVariants.{NoOffer, TooEarly, AlreadyClaimed, FlagUp, Taken}
use Rattle.chess_entry.specs.declared.refusals.Refusal.TheVariants.{SamePlayer, BadFen, BadTime, TooManyGames, TooLong}
use Rattle.chess_entry.specs.declared.refusals.Refusal.TheVariants.{NotOver, BadMoment, Finished}
use Rattle.chess_entry.specs.declared.verdicts.Verdict.{Verdict}
use Rattle.chess_entry.specs.declared.verdicts.Verdict.TheVariants.{Refuse, Enter, Read}
use Rattle.chess_entry.specs.State.{GameState, TableState, position_of, ply_of, seat_of, is_joined, is_over, find_game}
use Rattle.chess_entry.specs.Parsed.{Parsed, IsStartParsed, IsMoveParsed, bytes_of}

-- a check: whether it applies, and the verdict where it does
pub record Check : Type 0 where
  pub applies : Bool
  pub verdict : Verdict

abbrev pub check : Bool → Verdict → Check
check applies verdict = record { applies = applies; verdict = verdict }

abbrev pub refuse : Bool → Refusal → Check
refuse applies refusal = check applies (Refuse refusal)

-- the verdict of the first check that applies, or else this one
abbrev pub first_of : List Check → Verdict → Verdict
first_of [] verdict = verdict
first_of (c ∷ checks) verdict = if c.applies then c.verdict else first_of checks verdict

-- ---- what the checks ask

-- The moment of an entry: the greatest of those of all entries so far and the one handed in.
abbrev pub effective : TableState → ℕ → ℕ
effective table at = max table.moment at

-- initial time 1 to 86,400 s, increment 0 to 60 s; a second period after 1 to 255 moves, of 1 to 86,400 s
abbrev pub is_period : Option (ℕ × ℕ) → Bool
is_period None = true
is_period (Some period) = nat_le 1 period.0 && nat_le period.0 255 && nat_le 1 period.1 && nat_le period.1 86400

abbrev pub are_times : ℕ → ℕ → Option (ℕ × ℕ) → Bool
are_times initial increment period =
    nat_le 1 initial && nat_le initial 86400 && nat_le increment 60 && is_period period

-- a position whose fullmove number is at most 9,999
abbrev pub is_start : Option Position → Bool
is_start None = false
is_start (Some p) = nat_le p.fullmove 9999

-- The game would be over at its start.
abbrev pub is_finished_at : Position → Bool
is_finished_at p = is_checkmate p || is_stalemate p || is_listed_dead p.placement || nat_le 150 p.halfmove

abbrev pub is_finished : Option Position → Bool
is_finished None = false
is_finished (Some p) = is_finished_at p

-- There is no room for a game, or no number for it.
abbrev pub is_full : TableState → Bool
is_full table = nat_le table.limits.games (length table.games) || (table.last == 4294967295)

-- no room for a move
abbrev pub is_long : TableState → GameState → Bool
is_long table game = nat_le table.limits.plies (ply_of game)

abbrev pub is_named : List ℕ → Option (List ℕ) → Bool
is_named name None = false
is_named name (Some player) = pointwise nat_eq player name

-- the side that a player has in a game
abbrev pub side_of : List ℕ → GameState → Option Colour
side_of name game =
    if is_named name game.white.name then Some White
    else if is_named name game.black.name then Some Black
    else None

abbrev pub is_on_move : Colour → GameState → Bool
is_on_move side game = is_colour side (position_of game).side

abbrev pub has_offer : GameState → Bool
has_offer game = game.white.offers || game.black.offers

-- The flag of the side to move has fallen: the running turn is at least as long as the time that it held.
abbrev pub has_fallen : GameState → ℕ → Bool
has_fallen game at = nat_le (seat_of (position_of game).side game).held (at - game.moment)

-- ---- the checks that several acts share, in their order

-- 3
abbrev pub in_game : (GameState → Verdict) → Option GameState → Verdict
in_game verdict None = Refuse NoGame
in_game verdict (Some game) = verdict game

-- 4
abbrev pub by_side : (Colour → Verdict) → Option Colour → Verdict
by_side verdict None = Refuse NotSeated
by_side verdict (Some side) = verdict side

-- 5, 6, and the fallen flag, in whose place the act becomes the entry Fallen, whoever of the two players sent it
abbrev pub while_running : GameState → ℕ → List Check
while_running game at =
    refuse (not (is_joined game)) NotStarted ∷
    refuse (is_over game) Over ∷
    check (has_fallen game at) (Enter (entry game.number at event.Fallen)) ∷ []

-- 7 and 8
abbrev pub in_turn : GameState → Colour → ℕ → List Check
in_turn game side ply =
    refuse (not (ply == ply_of game)) (WrongPly (ply_of game)) ∷
    refuse (not (is_on_move side game)) NotYourMove ∷ []

-- 20 and 9
abbrev pub for_move : TableState → GameState → Option Move → List Check
for_move table game move = refuse (is_long table game) TooLong ∷ refuse (is_none move) BadMove ∷ []

-- 11
abbrev pub offered : GameState → Colour → List Check
offered game side = refuse (not (seat_of (other side) game).offers) NoOffer ∷ []

-- 11 and 12
abbrev pub for_accept : GameState → Colour → List Check
for_accept game side = offered game side ++ (refuse (nat_lt (ply_of game) 2) TooEarly ∷ [])

-- ---- the entries

-- what a player opens with a colour and times, from each start
abbrev pub opening_for : Colour → ℕ → ℕ → Option (ℕ × ℕ) → List ℕ → Position → Opening
opening_for colour initial increment period name start = record {
  colour = colour;
  initial = initial;
  increment = increment;
  period = period;
  name = name;
  start = start;
}

-- a game that is opened
abbrev pub opened : TableState → ℕ → Opening → Verdict
opened table at opening = Enter (entry (table.last + 1) at (event.Open opening))

abbrev pub opened_from : TableState → ℕ → (Position → Opening) → Option Position → Verdict
opened_from table at opening None = Refuse BadFen
opened_from table at opening (Some start) = opened table at (opening start)

abbrev pub move_entered : GameState → ℕ → Option Move → Verdict
move_entered game at None = Refuse BadMove
move_entered game at (Some m) = Enter (entry game.number at (event.Move (record { mv = m; ply = ply_of game })))

-- ---- each act: its checks in their order, and what it is where none applies

abbrev pub open_verdict : TableState → ℕ → (Position → Opening) → (times : Bool) → Option Position → Verdict
open_verdict table at opening times start = first_of
    (refuse (not times) BadTime ∷
    refuse (not (is_start start)) BadFen ∷
    refuse (is_finished start) Finished ∷
    refuse (is_full table) TooManyGames ∷ [])
    (opened_from table at opening start)

abbrev pub join_verdict : ℕ → List ℕ → GameState → Verdict
join_verdict at name game = first_of
    (refuse (is_joined game) Taken ∷ refuse (is_some (side_of name game)) SamePlayer ∷ [])
    (Enter (entry game.number at (event.Join name)))

abbrev pub move_verdict : TableState → ℕ → ℕ → Option Move → GameState → Colour → Verdict
move_verdict table at ply move game side = first_of
    (while_running game at ++ (in_turn game side ply ++ for_move table game move))
    (move_entered game at move)

abbrev pub offer_verdict : ℕ → GameState → Colour → Verdict
offer_verdict at game side = first_of
    (while_running game at ++ (refuse (has_offer game) OfferStands ∷ []))
    (Enter (entry game.number at (event.Offer side)))

abbrev pub accept_verdict : ℕ → GameState → Colour → Verdict
accept_verdict at game side = first_of
    (while_running game at ++ for_accept game side)
    (Enter (entry game.number at (event.Accept side)))

abbrev pub decline_verdict : ℕ → GameState → Colour → Verdict
decline_verdict at game side = first_of
    (while_running game at ++ offered game side)
    (Enter (entry game.number at (event.Decline side)))

abbrev pub resign_verdict : ℕ → GameState → Colour → Verdict
resign_verdict at game side = first_of (while_running game at) (Enter (entry game.number at (event.Resign side)))

-- 20 and 9 are asked of a claim that states a move
abbrev pub for_stated : TableState → GameState → Bool → Option Move → List Check
for_stated table game states move = if states then for_move table game move else []

-- what a claim says: of which ply it is, whether of fifty moves or of repetition, and whether it states a move, and
-- which, where its text tells one
pub record ClaimAsked : Type 0 where
  pub ply : ℕ
  pub fifty : Bool
  pub states : Bool
  pub move : Option Move

abbrev pub claim_asked : ℕ → Bool → Bool → Option Move → ClaimAsked
claim_asked ply fifty states move = record { ply = ply; fifty = fifty; states = states; move = move }

abbrev pub claim_verdict : TableState → ℕ → ClaimAsked → GameState → Colour → Verdict
claim_verdict table at claim game side = first_of
    (while_running game at ++
    (in_turn game side claim.ply ++
    (refuse game.claimed AlreadyClaimed ∷ for_stated table game claim.states claim.move)))
    (Enter (entry game.number at
    (event.Claim (record { by = side; fifty = claim.fifty; mv = claim.move; ply = ply_of game }))))

abbrev pub flag_verdict : ℕ → GameState → Colour → Verdict
flag_verdict at game side = first_of (while_running game at) (Refuse FlagUp)

abbrev pub drop_verdict : ℕ → GameState → Colour → Verdict
drop_verdict at game side = first_of
    (refuse (is_joined game && not (is_over game)) NotOver ∷ [])
    (Enter (entry game.number at event.Drop))

-- an act of a player in a game
abbrev pub in_seat : TableState → List ℕ → ℕ → (GameState → Colour → Verdict) → Verdict
in_seat table name number verdict =
    in_game (λ game. by_side (verdict game) (side_of name game)) (find_game number table.games)

-- what a player's act meets
abbrev pub player_verdict : TableState → ℕ → List ℕ → Parsed → Act → Verdict
player_verdict table at name parsed (act.NewGame colour initial increment fen period) =
    open_verdict table at (opening_for colour initial increment period name) (are_times initial increment period)
    parsed.start
player_verdict table at name parsed (act.Join game) = in_game (join_verdict at name) (find_game game table.games)
player_verdict table at name parsed (act.Play game ply text) =
    in_seat table name game (move_verdict table at ply parsed.move)
player_verdict table at name parsed (act.Offer game) = in_seat table name game (offer_verdict at)
player_verdict table at name parsed (act.Accept game) = in_seat table name game (accept_verdict at)
player_verdict table at name parsed (act.Decline game) = in_seat table name game (decline_verdict at)
player_verdict table at name parsed (act.Resign game) = in_seat table name game (resign_verdict at)
player_verdict table at name parsed (act.Claim game ply fifty text) =
    in_seat table name game (claim_verdict table at (claim_asked ply fifty (is_some text) parsed.move))
player_verdict table at name parsed (act.Flag game) = in_seat table name game (flag_verdict at)
player_verdict table at name parsed (act.Remove game) = in_seat table name game (drop_verdict at)
player_verdict table at name parsed (act.Show game) = in_game (λ _. Read) (find_game game table.games)
player_verdict table at name parsed (act.Fen game) = in_game (λ _. Read) (find_game game table.games)
player_verdict table at name parsed (act.Pgn game) = in_game (λ _. Read) (find_game game table.games)
player_verdict table at name parsed act.List = Read

-- Reads are anybody's; the other acts are those of a player with a name.
abbrev pub is_read : Act → Bool
is_read (act.Show _) = true
is_read (act.Fen _) = true
is_read (act.Pgn _) = true
is_read act.List = true
is_read _ = false

abbrev pub name_or_none : Option (List ℕ) → List ℕ
name_or_none None = []
name_or_none (Some name) = name

-- 23 and 2 come first
abbrev pub verdict : TableState → Command → Parsed → Verdict
verdict table command parsed = first_of
    (refuse (nat_lt 4611686018427387903 command.at) BadMoment ∷
    refuse (not (is_read command.act) && is_none command.who) NoName ∷ [])
    (player_verdict table (effective table command.at) (name_or_none command.who) parsed command.act)

-- What the command's text tells on this table.
abbrev pub IsParsed : TableState → Act → Parsed → Type 0
IsParsed table (act.NewGame colour initial increment fen period) parsed =
    IsStartParsed (bytes_of fen) parsed.start × (parsed.move ≡ None)
IsParsed table (act.Play game ply text) parsed =
    (parsed.start ≡ None) × IsMoveParsed (find_game game table.games) (Some text.bytes) parsed.move
IsParsed table (act.Claim game ply fifty text) parsed =
    (parsed.start ≡ None) × IsMoveParsed (find_game game table.games) (bytes_of text) parsed.move
IsParsed table _ parsed = (parsed.start ≡ None) × (parsed.move ≡ None)

-- the verdict on a command
pub record IsVerdict (table : TableState) (command : Command) (verdict_given : Verdict) : Type 0 where
  pub parsed : Parsed
  pub is_parsed : IsParsed table command.act parsed
  pub is : verdict_given ≡ verdict table command parsed
