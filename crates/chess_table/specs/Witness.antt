-- The verdict on the act that an entry would have become of.
use Rattle.std.specs.Prelude.{ℕ, ◌≡◌, Bool, true, false, Some, is_some}
use Rattle.std.specs.Option.{ForSome}
use Rattle.chess_board.specs.Legal.{IsLegal}
use Rattle.player_name.specs.Name.{IsName}
use Rattle.rec_codec.specs.declared.record.Event.{Event}
use Rattle.rec_codec.specs.declared.record.Event.TheVariants as event
use Rattle.rec_codec.specs.declared.record.Entry.{Entry}
use Rattle.rec_codec.specs.declared.record.Opening.{Opening}
use Rattle.chess_game.specs.declared.games.Times.{Times}
use Rattle.chess_entry.specs.declared.refusals.Refusal.TheVariants.{Taken}
use Rattle.chess_entry.specs.declared.verdicts.Verdict.{Verdict}
use Rattle.chess_entry.specs.declared.verdicts.Verdict.TheVariants.{Refuse, Enter, Read}
use Rattle.chess_entry.specs.State.{GameState, TableState, position_of}
use Rattle.chess_entry.specs.Verdict.{are_times, open_verdict, join_verdict, move_verdict, offer_verdict}
use Rattle.chess_entry.specs.Verdict.{accept_verdict, decline_verdict, resign_verdict, flag_verdict}
use Rattle.chess_entry.specs.Verdict.{claim_asked, claim_verdict}
use Rattle.chess_entry.specs.Verdict.{drop_verdict}
use Rattle.chess_table.specs.Checks.{opening_from}

-- A stated move is legal.
abbrev pub StatesLegal : GameState → Event → Type 0
StatesLegal game (event.Move made) = IsLegal (position_of game) made.mv
StatesLegal game (event.Claim claim) = ForSome claim.mv (IsLegal (position_of game))
StatesLegal game _ = Unit {0}

-- The player who joins has a name.
abbrev pub NamesPlayer : Event → Type 0
NamesPlayer (event.Join name) = IsName name
NamesPlayer _ = Unit {0}

abbrev pub times_of : Opening → Times
times_of opening = record { initial = opening.initial; increment = opening.increment; period = opening.period }

-- the verdict on the act that opens a game so
abbrev pub opening_verdict : TableState → ℕ → Opening → Verdict
opening_verdict table at opening = open_verdict table at (opening_from opening.colour (times_of opening) opening.name)
    (are_times opening.initial opening.increment opening.period) (Some opening.start)

-- The verdict on the act that becomes this in a game: by whom the event says, or else by who is on move; nothing opens
-- a game that stands.
abbrev pub witness_verdict : TableState → ℕ → GameState → Event → Verdict
witness_verdict table at game (event.Open opening) = Refuse Taken
witness_verdict table at game (event.Join name) = join_verdict at name game
witness_verdict table at game (event.Move made) =
    move_verdict table at made.ply (Some made.mv) game (position_of game).side
witness_verdict table at game (event.Offer by) = offer_verdict at game by
witness_verdict table at game (event.Accept by) = accept_verdict at game by
witness_verdict table at game (event.Decline by) = decline_verdict at game by
witness_verdict table at game (event.Resign by) = resign_verdict at game by
witness_verdict table at game (event.Claim claim) =
    claim_verdict table at (claim_asked claim.ply claim.fifty (is_some claim.mv) claim.mv) game claim.by
witness_verdict table at game event.Fallen = flag_verdict at game (position_of game).side
witness_verdict table at game event.Drop = drop_verdict at game (position_of game).side

abbrev pub is_fallen : Event → Bool
is_fallen event.Fallen = true
is_fallen _ = false

-- The verdict is an entry of this one's game, and that of a fallen flag just where this one is.
abbrev pub Enters : Verdict → Entry → Type 0
Enters (Enter made) e = (made.game ≡ e.game) × (is_fallen made.event ≡ is_fallen e.event)
Enters (Refuse refusal) e = ⊥
Enters Read e = ⊥
