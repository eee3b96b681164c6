use Rattle.std.proofs.Common.{◌∙◌, sym}
use Rattle.std.proofs.lemmas.Bool.{false≢true}
use Rattle.chess_mates.proofs.closing.is_quiet.Goals as goal

pub returns : goal.returns
returns c told = record {
  leads = c.leads_into.ensures told;
  not_mated = λ mated. false≢true (sym c.if-is_mated_by.false ∙ c.is_mated_by.ensures.1 mated);
}
