use Rattle.night_archive.proofs.Runs.{run_good}
use Rattle.night_archive.proofs.clerk_laws.law_of_decisions.Goals as goal

pub returns : goal.returns
returns c = λ steps now run. (run_good steps now run).decided
