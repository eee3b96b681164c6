use Rattle.std.proofs.Common.{◌≡◌, drop, arith}
use Rattle.std.proofs.lemmas.Grind.{common_steps}
use Rattle.byteorder.specs.Endian.{little_number}
use Rattle.rec_codec.proofs.FieldLemmas.{number-stands}
use Rattle.server_clock.proofs.fields.u64_at.Goals as goal

pub returns : goal.returns
returns c = λ n small stands.
    let read : little_number 8 (drop c.args.at c.args.bytes.now) ≡ n =
    number-stands 8 n c.args.at c.args.bytes.now small stands in
    grind (arith, common_steps, read)
