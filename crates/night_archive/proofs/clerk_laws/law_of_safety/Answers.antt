use Rattle.night_archive.proofs.Runs.{kept_ever}
use Rattle.night_archive.proofs.clerk_laws.law_of_safety.Goals as goal

pub returns : goal.returns
returns c = λ later earlier h. kept_ever later earlier h
