use Rattle.std.proofs.Common.{arith}
use Rattle.chess_answer.proofs.Widths.{length-result_text}
use Rattle.chess_answer.proofs.reads.push_result.Goals as goal

pub push_field-requires : goal.push_field-requires
push_field-requires c =
    let wide = length-result_text c.args.ending in
    record { room = rw c.result_code.ensures (omega arith) }
