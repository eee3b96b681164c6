use Rattle.std.proofs.Common.{arith}
use Rattle.text_parts.proofs.Spelled.{number_read}
use Rattle.text_parts.proofs.numbers.number_named.Goals as goal

pub returns : goal.returns
returns c =
    number_read _ c.args.text.now c.number_read.result (omega arith) c.number_read.ensures.some c.number_read.ensures.every
