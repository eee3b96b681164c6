use Rattle.chess_sockets.proofs.ShortLemmas.{short_answers}
use Rattle.chess_sockets.proofs.laws.law_of_short_answers.Goals as goal

pub returns : goal.returns
returns c = short_answers
