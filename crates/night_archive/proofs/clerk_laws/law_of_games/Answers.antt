use Rattle.night_archive.proofs.Runs.{run_good, once, finished, none_out}
use Rattle.night_archive.proofs.clerk_laws.law_of_games.Goals as goal

pub returns-clause-once : goal.returns-clause-once
returns-clause-once c = λ steps now run honest. once steps now run honest

pub returns-clause-finished : goal.returns-clause-finished
returns-clause-finished c = λ steps now run honest game h. finished steps now run honest game h

pub returns-clause-none_out : goal.returns-clause-none_out
returns-clause-none_out c = λ steps now run game h. none_out steps now (run_good steps now run) game h
