use Rattle.std.proofs.Common.{sym, subst}
use Rattle.std.specs.Prelude.{◌↔◌, IsTrue}
use Rattle.rec_codec.specs.declared.record.Event.{Event}
use Rattle.chess_table.specs.Witness.{StatesLegal}
use Rattle.chess_table.proofs.coming.states_legal.Goals as goal

pub returns-in-Claim-clause-legal : goal.returns-in-Claim-clause-legal
returns-in-Claim-clause-legal c =
    subst (λ (ev : Event). IsTrue c.claims_legal.result ↔ StatesLegal c.args.game.now ev) (sym c.in-Claim.is)
    c.claims_legal.ensures
