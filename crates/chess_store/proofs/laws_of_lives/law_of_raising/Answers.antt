use Rattle.std.proofs.Common.{refl}
use Rattle.chess_entry.proofs.LawfulLists.{IsLawful-raised}
use Rattle.chess_store.proofs.laws_of_lives.law_of_raising.Goals as goal

pub returns : goal.returns
returns c = λ limits raised k games plies lawful. record {
  lawful = IsLawful-raised limits raised k games plies lawful;
  table = refl;
}
