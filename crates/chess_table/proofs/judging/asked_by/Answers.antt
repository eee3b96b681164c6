use Rattle.std.proofs.Common.{Bool, refl, sym, ap, subst}
use Rattle.chess_entry.specs.declared.commands.Act.{Act}
use Rattle.chess_entry.specs.Verdict.{in_seat, claim_asked, claim_verdict}
use Rattle.chess_table.specs.declared.judging.Asked.TheVariants as asked
use Rattle.chess_table.specs.declared.judging.Claimed.{Claimed}
use Rattle.chess_table.specs.Asked.{IsAskedBy}
use Rattle.chess_table.proofs.judging.asked_by.Goals as goal

pub returns-in-Play-clause-some : goal.returns-in-Play-clause-some
returns-in-Play-clause-some c =
    subst (λ (a : Act). IsAskedBy a c.args.mv.now (asked.Move c.in-Play.ply c.args.mv.now)) (sym c.in-Play.is)
    (λ table at name start. refl)

pub returns-in-Offer-clause-some : goal.returns-in-Offer-clause-some
returns-in-Offer-clause-some c =
    subst (λ (a : Act). IsAskedBy a c.args.mv.now asked.Offer) (sym c.in-Offer.is) (λ table at name start. refl)

pub returns-in-Accept-clause-some : goal.returns-in-Accept-clause-some
returns-in-Accept-clause-some c =
    subst (λ (a : Act). IsAskedBy a c.args.mv.now asked.Accept) (sym c.in-Accept.is) (λ table at name start. refl)

pub returns-in-Decline-clause-some : goal.returns-in-Decline-clause-some
returns-in-Decline-clause-some c =
    subst (λ (a : Act). IsAskedBy a c.args.mv.now asked.Decline) (sym c.in-Decline.is) (λ table at name start. refl)

pub returns-in-Resign-clause-some : goal.returns-in-Resign-clause-some
returns-in-Resign-clause-some c =
    subst (λ (a : Act). IsAskedBy a c.args.mv.now asked.Resign) (sym c.in-Resign.is) (λ table at name start. refl)

pub returns-in-Flag-clause-some : goal.returns-in-Flag-clause-some
returns-in-Flag-clause-some c =
    subst (λ (a : Act). IsAskedBy a c.args.mv.now asked.Flag) (sym c.in-Flag.is) (λ table at name start. refl)

pub returns-in-Remove-clause-some : goal.returns-in-Remove-clause-some
returns-in-Remove-clause-some c =
    subst (λ (a : Act). IsAskedBy a c.args.mv.now asked.Drop) (sym c.in-Remove.is) (λ table at name start. refl)

pub returns-in-Claim-clause-some : goal.returns-in-Claim-clause-some
returns-in-Claim-clause-some c =
    let claimed : Claimed =
    record { ply = c.in-Claim.ply; fifty = c.in-Claim.fifty; states = c.is_some.result; mv = c.args.mv.now } in
    subst (λ (a : Act). IsAskedBy a c.args.mv.now (asked.Claim claimed)) (sym c.in-Claim.is)
    (λ table at name start. ap (λ (states : Bool). in_seat table name c.in-Claim.game
    (claim_verdict table at (claim_asked c.in-Claim.ply c.in-Claim.fifty states c.args.mv.now))) (sym c.is_some.ensures))
