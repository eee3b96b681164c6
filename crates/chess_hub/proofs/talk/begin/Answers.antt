-- Nobody had a session before.
use Rattle.std.proofs.Common.{◌≡◌, ◌∙◌, None, sym, ap, subst}
use Rattle.std.specs.Prelude.{IfErr}
use Rattle.std.proofs.lemmas.Result.{err_from_is_err_and}
use Rattle.chess_hub.specs.declared.fault.HubFault.TheVariants.{NoMemory}
use Rattle.chess_hub.specs.Answers.{name_at}
use Rattle.chess_hub.specs.Running.{waits}
use Rattle.chess_hub.proofs.TalkLemmas.{alone-first, alone-name}
use Rattle.chess_hub.proofs.RunLemmas.{stands-is, few-none, connect-fault}
use Rattle.chess_hub.proofs.talk.begin.Goals as goal
use Rattle.chess_hub.specs.Turning.{kept}

pub returns-clause-talks : goal.returns-clause-talks
returns-clause-talks g c = (
  None,
  alone-first c.new-hub.result.sessions c.connect.new.self.sessions c.in_ok-sid.sid (waits None)
      c.new-hub.ensures.none c.in_ok-sid.ensures.opened,
)

pub returns-clause-begins : goal.returns-clause-begins
returns-clause-begins g c =
    let hub = c.connect.new.self in
    let sid = c.in_ok-sid.sid in
    let first = c.args.store in
    let name = alone-name hub.sessions sid (waits None) (alone-first c.new-hub.result.sessions hub.sessions sid
    (waits None) c.new-hub.ensures.none c.in_ok-sid.ensures.opened) in
    let same = ap (λ store. kept store) (c.connect.ensures.store ∙ c.new-hub.ensures.store) in
    stands-is (kept hub.store) (kept first) (name_at hub.sessions sid) None c.args.moments same name

pub returns-in_err-sid-clause-fault : goal.returns-in_err-sid-clause-fault
returns-in_err-sid-clause-fault g c =
    let e = err_from_is_err_and c.from_residual.result c.from_residual.ensures.1 in
    subst (λ r. IfErr r (λ fault. fault ≡ NoMemory)) (sym e.1)
    (e.2 ∙ connect-fault c.connect.result c.in_err-sid.field-0.0 c.in_err-sid.was c.in_err-sid.ensures.fault
    (λ busy. few-none c.new-hub.result.sessions c.new-hub.ensures.none (c.connect.ensures.busy.0 busy)))
