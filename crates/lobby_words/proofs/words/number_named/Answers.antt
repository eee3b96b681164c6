use Rattle.lobby_words.proofs.Numbers.{spelled_in}
use Rattle.lobby_words.proofs.words.number_named.Goals as goal

pub returns : goal.returns
returns c = spelled_in c.args.text.now c.number_of_32_bits.result c.number_of_32_bits.ensures
