use Rattle.std.proofs.Common.{◌∙◌, ◌^◌, None, sym, arith}
use Rattle.text_parts.proofs.Spelled.{none_lower, some_lower}
use Rattle.perft.proofs.Depths.{named_none, named_some}
use Rattle.perft.proofs.answers.depth_named.Goals as goal

pub returns-in-Some-clause-named : goal.returns-in-Some-clause-named
returns-in-Some-clause-named c =
    named_some c.args.digits.now c.below_8_bits.result
    (some_lower (2 ^ 8) c.in-Some.number c.args.digits.now c.below_8_bits.result (omega arith)
    (sym c.in-Some.is ∙ c.number_named.ensures) c.below_8_bits.ensures)

pub returns-in-Some-clause-none : goal.returns-in-Some-clause-none
returns-in-Some-clause-none c =
    named_none c.args.digits.now c.below_8_bits.result
    (some_lower (2 ^ 8) c.in-Some.number c.args.digits.now c.below_8_bits.result (omega arith)
    (sym c.in-Some.is ∙ c.number_named.ensures) c.below_8_bits.ensures)

pub returns-in-None-clause-none : goal.returns-in-None-clause-none
returns-in-None-clause-none c =
    named_none c.args.digits.now None
    (none_lower (2 ^ 8) c.args.digits.now (omega arith) (sym c.in-None.is ∙ c.number_named.ensures))
