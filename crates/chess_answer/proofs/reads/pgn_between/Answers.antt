use Rattle.chess_answer.proofs.Room.{HasRoom-game}
use Rattle.chess_answer.proofs.reads.pgn_between.Goals as goal

pub pgn-requires-clause-room : goal.pgn-requires-clause-room
pgn-requires-clause-room c =
    rw (c.start.ensures, c.moves.ensures) (HasRoom-game c.args.game.now c.number-numbered.ensures.game)
