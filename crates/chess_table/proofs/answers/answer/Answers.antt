use Rattle.chess_table.proofs.WhichReads.{answered, no_other}
use Rattle.chess_table.proofs.answers.answer.Goals as goal

pub unreachable-requires : goal.unreachable-requires
unreachable-requires c =
    let command = c.args.command.now in
    no_other c.args.table.now command.act (answered c.args.table.now command c.requires)
    c.in_default.not-Show c.in_default.not-Fen c.in_default.not-Pgn c.in_default.not-List
