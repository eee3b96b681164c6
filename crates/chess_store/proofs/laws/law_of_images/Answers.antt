use Rattle.chess_store.proofs.MeansLemmas.{one_table}
use Rattle.chess_store.proofs.laws.law_of_images.Goals as goal

pub returns : goal.returns
returns c = one_table
