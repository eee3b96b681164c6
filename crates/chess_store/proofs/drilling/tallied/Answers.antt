use Rattle.std.proofs.Common.{take}
use Rattle.chess_store.proofs.LivesLemmas.{around-one}
use Rattle.chess_store.proofs.drilling.tallied.Goals as goal

pub returns-in-Err : goal.returns-in-Err
returns-in-Err c =
    let cases = c.args.cases.now in
    let at = c.loop-case.case-index in
    let case = c.case-item.result in
    let around = around-one cases at case c.loop-case-test.true c.case-item.is in
    record {
      front = take at cases;
      case = case;
      others = around.0;
      order = around.1;
      reported = c.loop-case.invariant.so_far.reported;
      is = c.in-Err.is;
    }
