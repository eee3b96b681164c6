use Rattle.rec_codec.specs.Position.{position_bytes}
use Rattle.rec_codec.proofs.position.position_bytes.Goals as goal

pub returns-clause-bytes : goal.returns-clause-bytes
unfolding position_bytes
returns-clause-bytes c = cc
