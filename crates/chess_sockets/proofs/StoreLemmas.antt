-- What a turn leaves of the store.
use Rattle.std.proofs.Common.{◌≡◌, ◌∙◌, ℕ, List, refl, subst, sym}
use Rattle.std.specs.Prelude.{Bool, Option, Result, Ok, Err, IfErr, OnOk, OnErr}
use Rattle.sector_dev.specs.Device.{State}
use Rattle.rec_codec.specs.declared.header.Header.{Header}
use Rattle.sector_journal.specs.declared.compactions.Compaction.{Compaction}
use Rattle.chess_entry.specs.State.{TableState}
use Rattle.chess_entry.specs.declared.commands.Command.{Command}
use Rattle.chess_hub.specs.declared.sessions.Sessions.{Sessions}
use Rattle.chess_hub.specs.Session.{IsUnchanged}
use Rattle.chess_store.specs.declared.fault.StoreFault.{StoreFault}
use Rattle.chess_store.specs.declared.fault.StoreFault.TheVariants.{Exists, TooSmall, NotOurs, Damaged, Device, NoMemory, Worn, Failed}
use Rattle.chess_store.specs.Faults.{IsSubmitFault}
use Rattle.chess_store.specs.Means.{IsKept}
use Rattle.chess_hub.specs.declared.fault.HubFault.{HubFault}
use Rattle.chess_hub.specs.declared.fault.HubFault.TheVariants as hub
use Rattle.chess_hub.specs.Faults.{UnlessDevice, refusals_after}
use Rattle.chess_hub.specs.Turning.{AsksFor, IsBatchFault, AreRefused, IsTurnFault, TurnLasts}
use Rattle.chess_hub.specs.Law.{HubState, state_of}
use Rattle.chess_sockets.specs.declared.client.Client.{Client}
use Rattle.chess_sockets.specs.Serving.{AreRead, served}
use Rattle.chess_sockets.specs.Turns.{EndsServing, IsRefusal}
use Rattle.chess_sockets.specs.Rounds.{times}

unless_any : (fault : HubFault) (P : Type 0) → P → UnlessDevice fault P
unless_any hub.Busy P p = p
unless_any hub.NoMemory P p = p
unless_any hub.LineTooLong P p = p
unless_any (hub.Store Exists) P p = p
unless_any (hub.Store TooSmall) P p = p
unless_any (hub.Store NotOurs) P p = p
unless_any (hub.Store Damaged) P p = p
unless_any (hub.Store (Device pending)) P p = tt
unless_any (hub.Store NoMemory) P p = p
unless_any (hub.Store Worn) P p = p
unless_any (hub.Store Failed) P p = p

module _ {S T : Type 0} where
  -- The hub's turn was done, and nothing was asked of the store after it.
  over : (x : S) (made : Result T HubFault) (old new : State) (header : Header) (compaction : Compaction)
      (before after : TableState) → TurnLasts {T = S} (Ok x) old new header compaction before after
      → TurnLasts made old new header compaction before after
  over x (Ok z) old new header compaction before after l = record {
    any_moment = l.any_moment;
    kept = l.kept;
    kept_err = tt;
  }
  over x (Err fault) old new header compaction before after l = record {
    any_moment = l.any_moment;
    kept = tt;
    kept_err = unless_any fault (IsKept new header compaction after) l.kept;
  }

  pub lasts_over : (given : Result S HubFault) (x : S) (made : Result T HubFault) (old new : State) (header : Header)
      (compaction : Compaction) (before after : TableState) → given ≡ Ok x
      → TurnLasts given old new header compaction before after → TurnLasts made old new header compaction before after
  lasts_over given x made old new header compaction before after was l = over x made old new header compaction before
      after (subst (λ (r : Result S HubFault). TurnLasts r old new header compaction before after) was l)

  pub lasts_refused : (given : Result S HubFault) (fault : HubFault) (old new : State) (header : Header)
      (compaction : Compaction) (before after : TableState) → given ≡ Err fault
      → TurnLasts given old new header compaction before after
      → TurnLasts {T = T} (Err fault) old new header compaction before after
  lasts_refused given fault old new header compaction before after was lasts =
      let l : TurnLasts {T = S} (Err fault) old new header compaction before after =
      subst (λ (r : Result S HubFault). TurnLasts r old new header compaction before after) was lasts in
      record {
        any_moment = l.any_moment;
        kept = tt;
        kept_err = l.kept_err;
      }

  -- The fault of a call inside is handed on.
  pub lasts_handed : (made : Result T HubFault) (y fault : HubFault) (old new : State) (header : Header)
      (compaction : Compaction) (before after : TableState) → made ≡ Err y → y ≡ fault
      → TurnLasts {T = S} (Err fault) old new header compaction before after
      → TurnLasts made old new header compaction before after
  lasts_handed made y fault old new header compaction before after is same l =
      subst (λ (r : Result T HubFault). TurnLasts r old new header compaction before after) (sym is)
      (subst (λ (f : HubFault). TurnLasts {T = T} (Err f) old new header compaction before after) (sym same)
      (lasts_refused (Err fault) fault old new header compaction before after refl l))

-- what holds where a call is answered holds of this call, which was
pub of_answered : {S P : Type 0} (given : Result S HubFault) (x : S) → given ≡ Ok x → OnOk given P → P
of_answered {S = S} {P = P} given x was holds = subst (λ (r : Result S HubFault). OnOk r P) was holds

-- the same where it was refused
pub of_refused : {S P : Type 0} (given : Result S HubFault) (fault : HubFault) → given ≡ Err fault → OnErr given P → P
of_refused {S = S} {P = P} given fault was holds = subst (λ (r : Result S HubFault). OnErr r P) was holds

-- ---- why a turn ends serving

module _ {T : Type 0} where
  -- The fault of a call inside is handed on.
  pub of_fault : (made : Result T HubFault) (y fault : HubFault) (P : HubFault → Type 0) → made ≡ Err y → y ≡ fault
      → P fault → IfErr made P
  of_fault made y fault P is same p = subst (λ (r : Result T HubFault). IfErr r P) (sym is) (subst P (sym same) p)

submit_fault : (fault : StoreFault) (seq : ℕ) (failed : Bool) (before after : TableState) (commands : List Command)
    → IsBatchFault fault seq failed before after commands → IsSubmitFault fault
submit_fault Exists seq failed before after commands why = why
submit_fault TooSmall seq failed before after commands why = why
submit_fault NotOurs seq failed before after commands why = why
submit_fault Damaged seq failed before after commands why = why
submit_fault (Device pending) seq failed before after commands why = tt
submit_fault NoMemory seq failed before after commands why = tt
submit_fault Worn seq failed before after commands why = tt
submit_fault Failed seq failed before after commands why = tt

module _ (Same : Type 0) (at : ℕ) (sessions : Sessions) (seq : ℕ) (failed : Bool) (before after : TableState) where
  abbrev IsOfTurn : HubFault → Type 0
  IsOfTurn fault = IsTurnFault fault Same (λ refused. AsksFor at 64 sessions
      (AreRefused refused seq failed before after))

  pub turn_ends : (fault : HubFault) → IsOfTurn fault → EndsServing fault
  turn_ends hub.Busy why = why
  turn_ends hub.NoMemory why = tt
  turn_ends hub.LineTooLong why = why
  turn_ends (hub.Store fault) why = submit_fault fault seq failed before after _ why.those.why

  abbrev pub Refuses : StoreFault → List Command → Type 0
  Refuses fault = AreRefused fault seq failed before after

  -- nothing was asked of the store, or it refused
  pub turn_refusal : {S : Type 0} (remaining : S → Option (List ℕ)) (silence : Option ℕ) (clients read : List (Client S))
      (old new : HubState) (table : TableState) → AreRead remaining (times at silence) clients read old (state_of sessions table)
      → IsUnchanged sessions new.sessions → before ≡ old.table → after ≡ new.table → (Same → after ≡ before)
      → (fault : HubFault) → IsOfTurn fault
      → IsRefusal remaining (times at silence) Refuses fault (served clients old) (served read new)
  turn_refusal remaining silence clients read old new table hears kept same next idle hub.Busy why = why
  turn_refusal remaining silence clients read old new table hears kept same next idle hub.NoMemory why = record {
    heard = state_of sessions table;
    reads = hears;
    kept = kept;
    why = sym next ∙ idle why ∙ same;
  }
  turn_refusal remaining silence clients read old new table hears kept same next idle hub.LineTooLong why = why
  turn_refusal remaining silence clients read old new table hears kept same next idle (hub.Store fault) why = record {
    heard = state_of sessions table;
    reads = hears;
    kept = kept;
    why = why;
  }

-- ---- how many turns were refused memory

-- The fault of a call inside is handed on.
pub counts_refused : {S T : Type 0} (given : Result S HubFault) (made : Result T HubFault) (y fault : HubFault)
    (before after : ℕ) → given ≡ Err fault → made ≡ Err y → y ≡ fault → after ≡ refusals_after given before →
    after ≡ refusals_after made before
counts_refused {S = S} {T = T} given made y fault before after was is same counts =
    subst (λ (r : Result T HubFault). after ≡ refusals_after r before) (sym is)
    (subst (λ (f : HubFault). after ≡ refusals_after {T = T} (Err f) before) (sym same)
    (subst (λ (r : Result S HubFault). after ≡ refusals_after r before) was counts))

-- It was answered.
pub counts_done : {S : Type 0} (given : Result S HubFault) (x : S) (before after : ℕ) → given ≡ Ok x →
    after ≡ refusals_after given before → after ≡ before
counts_done {S = S} given x before after was counts =
    subst (λ (r : Result S HubFault). after ≡ refusals_after r before) was counts
