-- What an act asks in a seat of a game.
use Rattle.std.specs.Prelude.{ℕ, ◌≡◌, List, Option}
use Rattle.chess_bits.specs.declared.men.Colour.{Colour}
use Rattle.chess_board.specs.declared.moves.Move.{Move}
use Rattle.chess_board.specs.Position.{Position}
use Rattle.chess_entry.specs.declared.commands.Act.{Act}
use Rattle.chess_entry.specs.declared.commands.Act.TheVariants as act
use Rattle.chess_entry.specs.declared.verdicts.Verdict.{Verdict}
use Rattle.chess_entry.specs.State.{GameState, TableState}
use Rattle.chess_entry.specs.Parsed.{parsed}
use Rattle.chess_entry.specs.Verdict.{in_seat, move_verdict, offer_verdict, accept_verdict, decline_verdict}
use Rattle.chess_entry.specs.Verdict.{resign_verdict, claim_asked, claim_verdict, flag_verdict, drop_verdict}
use Rattle.chess_entry.specs.Verdict.{player_verdict}
use Rattle.chess_table.specs.declared.judging.Asked.{Asked}
use Rattle.chess_table.specs.declared.judging.Asked.TheVariants as asked

-- the number of the game that an act is of; 0 where it is of none
abbrev pub game_of : Act → ℕ
game_of (act.NewGame colour initial increment fen period) = 0
game_of (act.Join game) = game
game_of (act.Play game ply text) = game
game_of (act.Offer game) = game
game_of (act.Accept game) = game
game_of (act.Decline game) = game
game_of (act.Resign game) = game
game_of (act.Claim game ply fifty text) = game
game_of (act.Flag game) = game
game_of (act.Remove game) = game
game_of (act.Show game) = game
game_of (act.Fen game) = game
game_of (act.Pgn game) = game
game_of act.List = 0

-- the verdict on what is asked, in a game by the player of a side
abbrev pub asked_verdict : TableState → ℕ → Asked → GameState → Colour → Verdict
asked_verdict table at (asked.Move ply mv) = move_verdict table at ply mv
asked_verdict table at asked.Offer = offer_verdict at
asked_verdict table at asked.Accept = accept_verdict at
asked_verdict table at asked.Decline = decline_verdict at
asked_verdict table at asked.Resign = resign_verdict at
asked_verdict table at (asked.Claim claimed) =
    claim_verdict table at (claim_asked claimed.ply claimed.fifty claimed.states claimed.mv)
asked_verdict table at asked.Flag = flag_verdict at
asked_verdict table at asked.Drop = drop_verdict at

-- The act asks this in a seat, with the move that its text tells.
abbrev pub IsAskedBy : Act → Option Move → Asked → Type 0
IsAskedBy act move asked =
    (table : TableState) (at : ℕ) (name : List ℕ) (start : Option Position)
    → player_verdict table at name (parsed start move) act
    ≡ in_seat table name (game_of act) (asked_verdict table at asked)

-- The act is not one that is made in a seat.
abbrev pub AsksNoSeat : Act → Type 0
AsksNoSeat (act.NewGame colour initial increment fen period) = Unit {0}
AsksNoSeat (act.Join game) = Unit {0}
AsksNoSeat (act.Show game) = Unit {0}
AsksNoSeat (act.Fen game) = Unit {0}
AsksNoSeat (act.Pgn game) = Unit {0}
AsksNoSeat act.List = Unit {0}
AsksNoSeat _ = ⊥
