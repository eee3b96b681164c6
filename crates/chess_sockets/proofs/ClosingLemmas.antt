-- Why a session is over, after a write.
use Rattle.std.proofs.Common.{◌≡◌, ◌↔◌, Bool, true, false, ℕ, List, [], Option, Some, None, IfSome, refl, sym, ◌∙◌, subst, inl, inr}
use Rattle.std.specs.Prelude.{Result, Ok, Err, OnErr, IsTrue, IsSome}
use Rattle.std.proofs.lemmas.Bool.{cases_Bool, false≢true}
use Rattle.text_lines.specs.Lines.{IsUnfinished}
use Rattle.chess_hub.specs.Session.{SessionState, due}
use Rattle.chess_sockets.specs.declared.client.Client.{Client}
use Rattle.chess_sockets.specs.declared.closing.Closing.{Closing}
use Rattle.chess_sockets.specs.declared.closing.Closing.TheVariants as closings
use Rattle.chess_sockets.specs.declared.outgoing.Sent.{Sent}
use Rattle.chess_sockets.specs.declared.outgoing.Sent.TheVariants as sents
use Rattle.chess_sockets.specs.Closings.{HasFailed, WasRefused, IsForeign, ByReason, IsTrouble, IsOver, HasEnded, HasLeft}
use Rattle.chess_sockets.specs.Incoming.{held}

-- it holds whatever is answered
pub on_err : {T E : Type 0} (r : Result T E) (P : Type 0) → P → OnErr r P
on_err (Ok x) P holds = tt
on_err (Err e) P holds = holds

-- it is closed for a fault, and the connection has failed
pub has_failed : {S : Type 0} (after : Client S) → after.closing ≡ Some closings.Fault → HasFailed after → IsTrouble after
has_failed after told failed =
    subst (λ (r : Option Closing). ByReason r (HasFailed after) (WasRefused after) (IsForeign after) ⊥ ⊥ ⊥) (sym told) failed

-- and it is closed for another protocol
pub is_foreign : {S : Type 0} (after : Client S) → after.closing ≡ Some closings.OtherProtocol → IsForeign after →
    IsTrouble after
is_foreign after told foreign =
    subst (λ (r : Option Closing). ByReason r (HasFailed after) (WasRefused after) (IsForeign after) ⊥ ⊥ ⊥) (sym told) foreign

module _ {S : Type 0} (after : Client S) (closing : Closing) (told : after.closing ≡ Some closing) (left : List ℕ) where
  abbrev Has : Option Closing → Option SessionState → Type 0
  Has reason session =
      ByReason reason (HasFailed after) (WasRefused after) ⊥ ⊥ (HasEnded after session left) (HasLeft session left)

  pub because : (session : Option SessionState) (other : Closing) → closing ≡ other → Has (Some other) session
      → IsOver after session left
  because session other is has =
      subst (λ (r : Option Closing). Has r session) (sym told)
      (subst (λ (c : Closing). Has (Some c) session) (sym is) has)

  -- who is over once all is written: the peer of a session that has not left sends no more, and no line of it waits
  abbrev pub Ends : Bool → Bool → SessionState → Type 0
  Ends over any s =
      s.has_left ≡ false → (IsTrue over ↔ ((after.has_ended ≡ true) × (any ≡ false) × (s.heard.bytes ≡ [])
      × IsUnfinished (held after.incoming)))

  over_written : (session : Option SessionState) (over any : Bool) → over ≡ true → IsSome session →
      IfSome session (Ends over any) → IfSome session (λ s. s.has_left ≡ true → closing ≡ closings.Farewell) →
      IfSome session (λ s. s.has_left ≡ false → closing ≡ closings.End) → IfSome session (λ s. due s ≡ []) →
      left ≡ [] → IsOver after session left
  over_written None over any is is_open ends farewell ended none written =
      absurd (let bad : false ≡ true = is_open in false≢true bad)
  over_written (Some s) over any is is_open ends farewell ended none written = elim (cases_Bool s.has_left) [
    | inl has ↦
        because (Some s) closings.Farewell (farewell has)
        (record { told = has; all = record { given = none; written = written } })
    | inr not ↦
        let (no_more, no_answer, answered, unfinished) = (ends not).0 is in
        because (Some s) closings.End (ended not) (record {
          no_more = no_more;
          unfinished = unfinished;
          answered = answered;
          all = record { given = none; written = written };
        })
  ]

  pub reason_over : (session : Option SessionState) (sent : Sent) (over any : Bool) → over ≡ true → IsSome session →
      (sent ≡ sents.Part → over ≡ false) → (sent ≡ sents.All → IfSome session (Ends over any)) →
      (sent ≡ sents.Fault → closing ≡ closings.Fault) → (sent ≡ sents.Fault → HasFailed after) →
      (sent ≡ sents.All → IfSome session (λ s. s.has_left ≡ true → closing ≡ closings.Farewell)) →
      (sent ≡ sents.All → IfSome session (λ s. s.has_left ≡ false → closing ≡ closings.End)) →
      (sent ≡ sents.All → IfSome session (λ s. due s ≡ [])) → (sent ≡ sents.All → left ≡ []) →
      IsOver after session left
  reason_over session sents.Fault over any is is_open part ends fault failed farewell ended none written =
      because session closings.Fault (fault refl) (failed refl)
  reason_over session sents.Part over any is is_open part ends fault failed farewell ended none written =
      absurd (false≢true (sym (part refl) ∙ is))
  reason_over session sents.All over any is is_open part ends fault failed farewell ended none written =
      over_written session over any is is_open (ends refl) (farewell refl) (ended refl) (none refl) (written refl)
