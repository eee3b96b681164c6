use Rattle.std.proofs.Common.{sym, ap, ◌∙◌}
use Rattle.chess_table.specs.declared.judging.Asked.{Asked}
use Rattle.chess_table.specs.Asked.{asked_verdict}
use Rattle.chess_table.proofs.judging.asked_verdict.Goals as goal

pub returns-in-Flag : goal.returns-in-Flag
returns-in-Flag c =
    c.flag_verdict.ensures c.args.side
    ∙ ap (λ (a : Asked). asked_verdict c.args.table.now c.args.at a c.args.game.now c.args.side) (sym c.in-Flag.is)

pub returns-in-Drop : goal.returns-in-Drop
returns-in-Drop c =
    c.drop_verdict.ensures c.args.side
    ∙ ap (λ (a : Asked). asked_verdict c.args.table.now c.args.at a c.args.game.now c.args.side) (sym c.in-Drop.is)
