use Rattle.night_rounds.proofs.RunsKept.{one_game}
use Rattle.night_rounds.proofs.law.law_of_runs.Goals as goal

pub returns : goal.returns
returns c = λ b s events is allowed. one_game b s events is allowed
