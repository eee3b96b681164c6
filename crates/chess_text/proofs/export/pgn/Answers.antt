use Rattle.std.proofs.Common.{rules, arith}
use Rattle.std.proofs.lemmas.Grind.{common_steps}
use Rattle.chess_text.proofs.GameLemmas.{game_one}
use Rattle.chess_text.proofs.export.pgn.Goals as goal

pub returns-clause-pgn : goal.returns-clause-pgn
returns-clause-pgn c = first_of (search rules, grind (arith, common_steps))

pub returns-clause-one : goal.returns-clause-one
returns-clause-one c = λ other is. game_one _ _ other _ is (returns-clause-pgn c)
