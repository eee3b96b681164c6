use Rattle.chess_hub.proofs.RunLawLemmas.{run-is, run-front}
use Rattle.chess_hub.proofs.run_laws.law_of_run.Goals as goal

pub returns : goal.returns
returns g c = record {
  whole = run-is g.D.Device.state g.D.Device.sector_count g.D.Device.failures g.M.Moments.gives;
  front = run-front g.D.Device.state g.D.Device.sector_count g.D.Device.failures g.M.Moments.gives;
}
