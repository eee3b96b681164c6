-- Whether the session is over, by how far the write came and whether it has left.
use Rattle.std.proofs.Common.{◌≡◌, ◌≤◌, ◌-◌, ◌⊎◌, ◌∙◌, ℕ, Bool, true, false, [], Option, Some, None, IfSome, sym, inl, inr, arith}
use Rattle.std.specs.Prelude.{IsTrue, ◌↔◌, ◌==◌}
use Rattle.std.proofs.lemmas.Bool.{false≢true}
use Rattle.std.proofs.lemmas.Bool.Decides.{Decides-eqb}
use Rattle.text_lines.specs.Lines.{IsUnfinished}
use Rattle.chess_hub.specs.Session.{SessionState, session_at}
use Rattle.chess_sockets.specs.declared.client.Client.{Client}
use Rattle.chess_sockets.specs.declared.outgoing.Sent.{Sent}
use Rattle.chess_sockets.specs.declared.outgoing.Sent.TheVariants.{All, Part, Fault}
use Rattle.chess_sockets.specs.Incoming.{held}
use Rattle.chess_sockets.proofs.client.Client.is_over.Goals as goal
use Rattle.chess_sockets.proofs.client.Client.is_over.Goals.{then-self, else-self}

-- a write came so far and no other way

fault_part : {P : Type 0} (sent : Sent) → sent ≡ Fault → sent ≡ Part → P
fault_part sent fault part = absurd (let bad : Fault ≡ Part = sym fault ∙ part in cc)

fault_all : {P : Type 0} (sent : Sent) → sent ≡ Fault → sent ≡ All → P
fault_all sent fault all = absurd (let bad : Fault ≡ All = sym fault ∙ all in cc)

part_all : {P : Type 0} (sent : Sent) → sent ≡ Part → sent ≡ All → P
part_all sent part all = absurd (let bad : Part ≡ All = sym part ∙ all in cc)

module _ {S : Type 0} (client : Client S) (any over : Bool) (patience : ℕ) (ended : Bool) where
  -- what is said of a session that has not left, and of one that has
  abbrev Ends : SessionState → Type 0
  Ends s = s.has_left ≡ false → (IsTrue over ↔ ((client.has_ended ≡ true) × (any ≡ false) × (s.heard.bytes ≡ [])
      × IsUnfinished (held client.incoming)))

  abbrev IsSoon : Type 0
  IsSoon = (client.has_ended ≡ true) ⊎ (client.is_quiet ≡ true) ⊎ (client.patience ≤ 1)

  abbrev Leaves : SessionState → Type 0
  Leaves s = s.has_left ≡ true → (patience ≡ client.patience - 1) × (IsTrue over ↔ IsSoon)

  has_left : (m : Option SessionState) → ended ≡ true → IfSome m (λ s. ended ≡ s.has_left) → IfSome m Ends
  has_left None is same = tt
  has_left (Some s) is same = λ stays. absurd (false≢true (sym stays ∙ (sym same ∙ is)))

  stays_on : (m : Option SessionState) → ended ≡ false → IfSome m (λ s. ended ≡ s.has_left) → IfSome m Leaves
  stays_on None is same = tt
  stays_on (Some s) is same = λ left. absurd (false≢true (sym is ∙ (same ∙ left)))

  leaves : (m : Option SessionState) → patience ≡ client.patience - 1 → (IsTrue over ↔ IsSoon) → IfSome m Leaves
  leaves None less soon = tt
  leaves (Some s) less soon = λ left. (less, soon)

-- the connection has failed

pub returns-in-Fault-clause-part : goal.returns-in-Fault-clause-part
returns-in-Fault-clause-part g c = λ part. fault_part c.args.wrote.sent c.in-Fault.is part

pub returns-in-Fault-clause-answered : goal.returns-in-Fault-clause-answered
returns-in-Fault-clause-answered g c = λ all. fault_all c.args.wrote.sent c.in-Fault.is all

pub returns-in-Fault-clause-left : goal.returns-in-Fault-clause-left
returns-in-Fault-clause-left g c = λ all. fault_all c.args.wrote.sent c.in-Fault.is all

-- a part is written

pub returns-in-Part-clause-fault : goal.returns-in-Part-clause-fault
returns-in-Part-clause-fault g c = λ fault. fault_part c.args.wrote.sent fault c.in-Part.is

pub returns-in-Part-clause-answered : goal.returns-in-Part-clause-answered
returns-in-Part-clause-answered g c = λ all. part_all c.args.wrote.sent c.in-Part.is all

pub returns-in-Part-clause-left : goal.returns-in-Part-clause-left
returns-in-Part-clause-left g c = λ all. part_all c.args.wrote.sent c.in-Part.is all

-- it has left, and is over at once

pub returns-then-self-2-clause-fault : goal.returns-then-self-2-clause-fault
returns-then-self-2-clause-fault g c = λ fault. fault_all c.args.wrote.sent fault c.in-All.is

pub returns-then-self-2-clause-part : goal.returns-then-self-2-clause-part
returns-then-self-2-clause-part g c = λ part. part_all c.args.wrote.sent part c.in-All.is

pub returns-then-self-2-clause-answered : goal.returns-then-self-2-clause-answered
returns-then-self-2-clause-answered g c = λ all.
    has_left c.args.self.now c.args.wrote.any c.if-self.value c.saturating_sub-self.result c.ended.result
    (session_at c.args.hub.now.sessions c.args.self.now.sid) c.if-ended.true c.ended.ensures

pub returns-then-self-2-clause-left : goal.returns-then-self-2-clause-left
returns-then-self-2-clause-left g c = λ all.
    leaves c.args.self.now c.args.wrote.any c.if-self.value c.saturating_sub-self.result c.ended.result
    (session_at c.args.hub.now.sessions c.args.self.now.sid) c.saturating_sub-self.ensures (
      λ is. elim c.if-self.branch [
        | then-self w ↦ inl w.if-self.true
        | else-self w ↦ inr (inl (sym w.value-is ∙ c.if-self-2.true))
      ],
      λ soon. c.if-self-2.true,
    )

-- it has left, and its patience counts

pub returns-else-self-2-clause-fault : goal.returns-else-self-2-clause-fault
returns-else-self-2-clause-fault g c = λ fault. fault_all c.args.wrote.sent fault c.in-All.is

pub returns-else-self-2-clause-part : goal.returns-else-self-2-clause-part
returns-else-self-2-clause-part g c = λ part. part_all c.args.wrote.sent part c.in-All.is

pub returns-else-self-2-clause-answered : goal.returns-else-self-2-clause-answered
returns-else-self-2-clause-answered g c = λ all.
    has_left c.args.self.now c.args.wrote.any (c.saturating_sub-self.result == 0) c.saturating_sub-self.result c.ended.result
    (session_at c.args.hub.now.sessions c.args.self.now.sid) c.if-ended.true c.ended.ensures

pub returns-else-self-2-clause-left : goal.returns-else-self-2-clause-left
returns-else-self-2-clause-left g c = λ all.
    let client = c.args.self.now in
    let left = c.saturating_sub-self.result in
    let calm : (client.has_ended ≡ false) × (client.is_quiet ≡ false) = elim c.if-self.branch [
      | then-self w ↦ absurd (false≢true (sym c.if-self-2.false ∙ (w.value-is ∙ w.if-self.true)))
      | else-self w ↦ (w.if-self.false, sym w.value-is ∙ c.if-self-2.false)
    ] in
    leaves client c.args.wrote.any (c.saturating_sub-self.result == 0) left c.ended.result (session_at c.args.hub.now.sessions client.sid)
    c.saturating_sub-self.ensures (
      λ is. inr (inr (omega (arith, c.saturating_sub-self.ensures, (Decides-eqb left 0).0 is))),
      λ soon. elim soon [
        | inl has_ended ↦ absurd (false≢true (sym calm.0 ∙ has_ended))
        | inr (inl is_quiet) ↦ absurd (false≢true (sym calm.1 ∙ is_quiet))
        | inr (inr few) ↦ (Decides-eqb left 0).1 (omega (arith, c.saturating_sub-self.ensures, few))
      ],
    )

-- it has not left, and no line waits

pub returns-then-waiting-eq0-clause-fault : goal.returns-then-waiting-eq0-clause-fault
returns-then-waiting-eq0-clause-fault g c = λ fault. fault_all c.args.wrote.sent fault c.in-All-2.is

pub returns-then-waiting-eq0-clause-part : goal.returns-then-waiting-eq0-clause-part
returns-then-waiting-eq0-clause-part g c = λ part. part_all c.args.wrote.sent part c.in-All-2.is

pub returns-then-waiting-eq0-clause-left : goal.returns-then-waiting-eq0-clause-left
returns-then-waiting-eq0-clause-left g c = λ all.
    stays_on c.args.self.now c.args.wrote.any c.is_unfinished.result c.args.self.now.patience c.ended.result
    (session_at c.args.hub.now.sessions c.args.self.now.sid) c.if-ended.false c.ended.ensures

-- it has not left, and goes on

pub returns-else-waiting-eq0-clause-fault : goal.returns-else-waiting-eq0-clause-fault
returns-else-waiting-eq0-clause-fault g c = λ fault. fault_all c.args.wrote.sent fault c.in-All-2.is

pub returns-else-waiting-eq0-clause-part : goal.returns-else-waiting-eq0-clause-part
returns-else-waiting-eq0-clause-part g c = λ part. part_all c.args.wrote.sent part c.in-All-2.is

pub returns-else-waiting-eq0-clause-left : goal.returns-else-waiting-eq0-clause-left
returns-else-waiting-eq0-clause-left g c = λ all.
    stays_on c.args.self.now c.args.wrote.any c.if-not-wrote.value c.args.self.now.patience c.ended.result
    (session_at c.args.hub.now.sessions c.args.self.now.sid) c.if-ended.false c.ended.ensures
