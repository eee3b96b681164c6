use Rattle.chess_bits.specs.Table.{empty}
use Rattle.chess_moves.proofs.targets.attacked.Goals as goal

pub returns-in-Pawn : goal.returns-in-Pawn
returns-in-Pawn c = rw c.in-Pawn.is (rw c.side.ensures at (c.pawn.ensures empty))

pub returns-in-Knight : goal.returns-in-Knight
returns-in-Knight c = rw c.in-Knight.is (c.knight.ensures empty c.args.board.now.side)

pub returns-in-Bishop : goal.returns-in-Bishop
returns-in-Bishop c =
    rw c.in-Bishop.is
    (rw (c.occupied-occupied.ensures, c.men.ensures) at (c.bishop.ensures c.args.board.now.side))

pub returns-in-Rook : goal.returns-in-Rook
returns-in-Rook c =
    rw c.in-Rook.is (rw (c.occupied-occupied.ensures, c.men.ensures) at (c.rook.ensures c.args.board.now.side))

pub returns-in-Queen : goal.returns-in-Queen
returns-in-Queen c =
    rw c.in-Queen.is (rw (c.occupied-occupied.ensures, c.men.ensures) at (c.queen.ensures c.args.board.now.side))

pub returns-in-King : goal.returns-in-King
returns-in-King c = rw c.in-King.is (c.king.ensures empty c.args.board.now.side)
