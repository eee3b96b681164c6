use Rattle.chess_bits.specs.Table.{empty}
use Rattle.chess_moves.proofs.Foes.{leaper_set}
use Rattle.chess_moves.proofs.masks.leapers.Goals as goal

pub returns : goal.returns
returns c =
    let p = c.args.board.now in
    rw (
      c.meet.ensures,
      c.union-2.ensures,
      c.union.ensures,
      c.meet-pawns.ensures,
      c.meet-knights.ensures,
      c.meet-kings.ensures,
      c.of_kind.ensures,
      c.of_kind-2.ensures,
      c.of_kind-3.ensures,
      c.men-men.ensures,
    )
    (leaper_set p c.args.square c.pawn.result c.knight.result c.king.result c.men_of-theirs.result
    c.men_of-theirs.ensures.valid.whole c.number-on_board.ensures.on_board
    (rw c.side-side.ensures at (c.pawn.ensures empty)) (c.knight.ensures empty p.side) (c.king.ensures empty p.side)
    (rw (c.other.ensures, c.side-side.ensures) at c.men_of-theirs.ensures.held))
