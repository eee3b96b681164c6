use Rattle.lobby_guests.proofs.Pacing.{acts_few}
use Rattle.lobby_guests.proofs.rounds.law_of_paces.Goals as goal

pub returns : goal.returns
returns c = λ from to had until moments room between acts. acts_few from to had until moments room between acts
