use Rattle.std.proofs.Common.{length, arith, refl}
use Rattle.perft.proofs.Through.{one_line, moves_alone}
use Rattle.perft.proofs.lines.count_lines.Goals as goal

pub returns-then-depth-eq0 : goal.returns-then-depth-eq0
returns-then-depth-eq0 c =
    let none = c.if-depth-eq0.true in
    (1, rw none (one_line c.args.board.now), refl)

pub returns-then-depth-eq1 : goal.returns-then-depth-eq1
returns-then-depth-eq1 c =
    let one = c.if-depth-eq1.true in
    let n = c.count_moves.ensures in (
      length n.moves,
      rw one (moves_alone c.args.board.now n.moves n.listed),
      omega (arith, n.number, c.from.ensures),
    )
