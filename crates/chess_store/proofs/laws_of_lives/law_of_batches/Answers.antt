use Rattle.chess_store.proofs.LawfulEntries.{longer}
use Rattle.chess_store.proofs.laws_of_lives.law_of_batches.Goals as goal

pub returns : goal.returns
returns c = longer
