use Rattle.night_archive.proofs.Runs.{run_good, all_handed, dropped_safe}
use Rattle.night_archive.proofs.clerk_laws.law_of_drops.Goals as goal

pub returns-clause-sent : goal.returns-clause-sent
returns-clause-sent c = λ steps now run. (run_good steps now run).drops_right

pub returns-clause-handed : goal.returns-clause-handed
returns-clause-handed c = λ steps now run honest. all_handed steps honest (run_good steps now run).drops_right

pub returns-clause-kept : goal.returns-clause-kept
returns-clause-kept c = λ steps now run honest game h. dropped_safe steps honest (run_good steps now run).drops_right game h
