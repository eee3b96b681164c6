-- What was done, in the words of who reads the server's answers.
use Rattle.std.specs.Prelude.{ℕ, ◌≡◌, ◌+◌, Bool, true, false, List, ◌++◌, Option, Some, None}
use Rattle.chess_board.specs.declared.moves.Move.{Move}
use Rattle.chess_notation.specs.San.{IsSan}
use Rattle.rec_codec.specs.declared.record.Event.{Event}
use Rattle.rec_codec.specs.declared.record.Event.TheVariants as event
use Rattle.chess_entry.specs.State.{GameState, position_of, ply_of}
use Rattle.chess_entry.specs.Story.{stated}
use Rattle.chess_entry.specs.Outcome.{is_granted, claimed_draw, agreed, resigned, flag_fallen, ending_with}
use Rattle.chess_answer.specs.Acts.{free_side}
use Rattle.server_answers.specs.Entered.{Made, Done, Joined, Moved, Offered, Accepted, Declined, Resigned, Claimed}
use Rattle.server_answers.specs.Entered.{ClaimedWrongly, Fallen, Dropped, entered_in}
use Rattle.answer_laws.specs.Told.{side_as, end_as, ending_as}

-- A move was made: it is told with how many were made with it, its SAN, and how the game ended with it.
pub record IsMadeAs (game : GameState) (m : Move) (made : Made) : Type 0 where
  pub ply : made.ply ≡ ply_of game + 1
  pub san : IsSan (position_of game) m made.san
  pub ending : made.ending ≡ ending_as (ending_with game.start game.moves (Some m))

pub record IsMovedAs (game : GameState) (m : Move) (done : Done) : Type 0 where
  pub made : Made
  pub is_made : IsMadeAs game m made
  pub is : done ≡ Moved made

-- a wrong claim, and the move that it states
pub record IsClaimedWith (game : GameState) (m : Move) (done : Done) : Type 0 where
  pub made : Made
  pub is_made : IsMadeAs game m made
  pub is : done ≡ ClaimedWrongly (Some made)

abbrev pub IsWrongAs : GameState → Option Move → Done → Type 0
IsWrongAs game None done = done ≡ ClaimedWrongly None
IsWrongAs game (Some m) done = IsClaimedWith game m done

abbrev pub IsClaimedAs : Bool → GameState → Bool → Option Move → Done → Type 0
IsClaimedAs true game fifty mv done = done ≡ Claimed (end_as (claimed_draw fifty))
IsClaimedAs false game fifty mv done = IsWrongAs game mv done

-- what came to pass in a game that stands on the table
abbrev pub IsDoneAs : GameState → Event → Done → Type 0
IsDoneAs game (event.Open opening) done = ⊥
IsDoneAs game (event.Join name) done = done ≡ Joined (side_as (free_side game))
IsDoneAs game (event.Move made) done = IsMovedAs game made.mv done
IsDoneAs game (event.Offer by) done = done ≡ Offered
IsDoneAs game (event.Accept by) done = done ≡ Accepted (end_as agreed)
IsDoneAs game (event.Decline by) done = done ≡ Declined
IsDoneAs game (event.Resign by) done = done ≡ Resigned (end_as (resigned by))
IsDoneAs game (event.Claim claim) done =
    IsClaimedAs (is_granted claim.fifty game.start (game.moves ++ stated claim.mv)) game claim.fifty claim.mv done
IsDoneAs game event.Fallen done = done ≡ Fallen (end_as (flag_fallen (position_of game)))
IsDoneAs game event.Drop done = done ≡ Dropped

-- A text is read as what came to pass.
pub record IsReadAs (game : GameState) (e : Event) (text : List ℕ) : Type 0 where
  pub done : Done
  pub is_done : IsDoneAs game e done
  pub read : entered_in text ≡ Some (record { game = game.number; done = done })
