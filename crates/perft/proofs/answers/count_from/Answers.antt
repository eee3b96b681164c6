use Rattle.perft.specs.Lines.{IsCount}
use Rattle.perft.proofs.Recounting.{count_like}
use Rattle.perft.proofs.answers.count_from.Goals as goal

pub returns-in-Ok-clause-ok : goal.returns-in-Ok-clause-ok
returns-in-Ok-clause-ok c =
    let p = c.in-Ok.board in
    let counted : IsCount p c.args.depth c.count_lines.result =
    count_like p c.args.depth c.count_lines.result (rw c.rewound.ensures at c.count_lines.ensures) in
    record {
      position = p;
      valid = c.in-Ok.ensures.valid;
      fen = c.in-Ok.ensures.ok;
      counted = counted;
    }
