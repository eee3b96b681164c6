use Rattle.chess_line.proofs.Numbers.{every_told, some_told}
use Rattle.chess_line.proofs.fields.field_number.Goals as goal

pub returns-clause-some : goal.returns-clause-some
returns-clause-some c = some_told c.args.text.now c.number_of_32_bits.result c.number_of_32_bits.ensures

pub returns-clause-every : goal.returns-clause-every
returns-clause-every c = every_told c.args.text.now c.number_of_32_bits.result c.number_of_32_bits.ensures
