use Rattle.std.proofs.Common.{arith}
use Rattle.chess_moves.proofs.Tallied.{few_moves, tally_next}
use Rattle.chess_moves.proofs.counting.counted.Goals as goal

pub returns : goal.returns
returns c =
    rw c.without.ensures
    (tally_next c.args.board.now c.args.masks.now.pinned c.args.kind c.args.tally.count c.count_each.result
    c.args.tally.left c.free_of-free.result c.requires.tally c.free_of-free.ensures c.count_each.ensures)

pub count_each-requires-clause-few : goal.count_each-requires-clause-few
count_each-requires-clause-few c =
    omega (
      arith,
      few_moves c.args.board.now c.args.masks.now.pinned c.args.kind c.args.tally.count c.args.tally.left
          c.free_of-free.result c.requires.masks.valid c.requires.tally c.free_of-free.ensures,
    )

pub overflow_add-result : goal.overflow_add-result
overflow_add-result c =
    omega (
      arith,
      few_moves c.args.board.now c.args.masks.now.pinned c.args.kind c.args.tally.count c.args.tally.left
          c.free_of-free.result c.requires.masks.valid c.requires.tally c.free_of-free.ensures,
      c.count_each.ensures,
    )
