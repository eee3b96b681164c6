use Rattle.std.proofs.Common.{refl}
use Rattle.chess_entry.proofs.LawfulLists.{IsLawful-none}
use Rattle.chess_store.proofs.laws_of_lives.law_of_beginning.Goals as goal

pub returns : goal.returns
returns c = λ limits. record { lawful = IsLawful-none limits; table = refl }
