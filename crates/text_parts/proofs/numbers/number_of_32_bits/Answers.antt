use Rattle.std.proofs.Common.{◌∙◌, ◌^◌, sym, arith}
use Rattle.text_parts.proofs.Spelled.{none_lower, some_lower}
use Rattle.text_parts.proofs.numbers.number_of_32_bits.Goals as goal

pub returns-in-Some : goal.returns-in-Some
returns-in-Some c =
    some_lower (2 ^ 32) c.in-Some.number c.args.text.now c.below_32_bits.result (omega arith)
    (sym c.in-Some.is ∙ c.number_named.ensures) c.below_32_bits.ensures

pub returns-in-None : goal.returns-in-None
returns-in-None c = none_lower (2 ^ 32) c.args.text.now (omega arith) (sym c.in-None.is ∙ c.number_named.ensures)
