use Rattle.night_rounds.proofs.TimesBack.{times_back, times_spelled}
use Rattle.night_rounds.proofs.law.law_of_times.Goals as goal

pub returns-clause-back : goal.returns-clause-back
returns-clause-back c = λ t taken. times_back t taken

pub returns-clause-spelled : goal.returns-clause-spelled
returns-clause-spelled c = λ text. times_spelled text
