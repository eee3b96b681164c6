-- What a batch and a turn leave.
use Rattle.std.specs.Prelude.{ℕ, ◌≡◌, ◌↔◌, Bool, true, false, List, [], ◌∷◌, length, Option, None, Result, Ok, Err, OnOk, IfErr, IsErrOf, IsSomeAnd}
use Rattle.std.proofs.Common.{refl, sym, subst, arith}
use Rattle.std.specs.Option.{MatchOption}
use Rattle.rec_codec.specs.declared.header.Header.{Header}
use Rattle.rec_codec.specs.declared.record.Entry.{Entry}
use Rattle.sector_dev.specs.Device.{State, Measures, measures, IsCoherent}
use Rattle.sector_dev.specs.Runs.{LeavesOnly}
use Rattle.sector_journal.specs.declared.compactions.Compaction.{Compaction}
use Rattle.chess_entry.specs.declared.commands.Command.{Command}
use Rattle.chess_entry.specs.State.{TableState}
use Rattle.chess_entry.specs.Table.{IsTable}
use Rattle.chess_answer.specs.declared.reads.Reply.{Reply}
use Rattle.chess_hub.specs.declared.sessions.Sessions.{Sessions}
use Rattle.chess_hub.specs.Session.{SessionState, session_at, IsUnchanged}
use Rattle.chess_hub.specs.Delivery.{Answered, AllAnswered, HasAnswered, own}
use Rattle.chess_store.specs.declared.fault.StoreFault.{StoreFault}
use Rattle.chess_store.specs.declared.fault.StoreFault.TheVariants as store
use Rattle.chess_store.specs.Batch.{IsAnswered, IsWornOut, change_count}
use Rattle.chess_store.specs.Faults as faults
use Rattle.chess_store.specs.Calling.{CallTried}
use Rattle.chess_store.specs.Means.{MeansEither, IsKept}
use Rattle.chess_store.proofs.RunLemmas.{same_leaves}
use Rattle.chess_store.proofs.CallLemmas.{ok_was}
use Rattle.chess_hub.specs.declared.fault.HubFault.{HubFault}
use Rattle.chess_hub.specs.declared.fault.HubFault.TheVariants.{Busy, NoMemory, LineTooLong, Store}
use Rattle.chess_hub.specs.Faults.{UnlessDevice, IsDevice, CountsFault}
use Rattle.chess_hub.specs.Turning.{IsBatchFault, IsTurnFault, TurnLasts, TurnTried, Kept}

-- ---- the replies of a batch

-- one for each command
pub answered_count : (commands : List Command) (before : TableState) (replies : List Reply) (entries : List Entry)
    (after : TableState) → IsAnswered before commands replies entries after → length replies ≡ length commands
answered_count [] before [] entries after is = refl
answered_count [] before (reply ∷ replies) entries after is = absurd is
answered_count (command ∷ commands) before [] entries after is = absurd is
answered_count (command ∷ commands) before (reply ∷ replies) entries after is =
    omega (arith, answered_count commands is.between replies is.others after is.rest)

-- ---- what holds of a fault of the store holds of the hub's

pub unless_of : (fault : StoreFault) (made : HubFault) (P : Type 0) → made ≡ Store fault
    → faults.UnlessDevice fault P → UnlessDevice made P
unless_of fault made P is holds = subst (λ (f : HubFault). UnlessDevice f P) (sym is) holds

pub fails_of : (fault : StoreFault) (made : HubFault) (P : Type 0) → made ≡ Store fault
    → (faults.IsDevice fault → P) → IsDevice made → P
fails_of fault made P is holds = subst (λ (f : HubFault). IsDevice f → P) (sym is) holds

pub counts_of : (fault : StoreFault) (made : HubFault) (old new : ℕ) → made ≡ Store fault
    → faults.CountsFault fault old new → CountsFault made old new
counts_of fault made old new is holds = subst (λ (f : HubFault). CountsFault f old new) (sym is) holds

module _ {T : Type 0} {old new : State} {header : Header} {compaction : Compaction} {before after : TableState} where
  pub lasts_refused : (made : Result T HubFault) (y : HubFault) (fault : StoreFault) → made ≡ Err y → y ≡ Store fault
      → LeavesOnly old new (MeansEither before after)
      → faults.UnlessDevice fault (IsKept new header compaction after)
      → TurnLasts made old new header compaction before after
  lasts_refused made y fault is same leaves kept =
      subst (λ (r : Result T HubFault). TurnLasts r old new header compaction before after) (sym is) (record {
        any_moment = leaves;
        kept = tt;
        kept_err = unless_of fault y (IsKept new header compaction after) same kept;
      })

  pub lasts_answered : (given : Result T StoreFault) (x : T) → given ≡ Ok x
      → LeavesOnly old new (MeansEither before after)
      → OnOk given (IsKept new header compaction after)
      → TurnLasts {T = T} (Ok x) old new header compaction before after
  lasts_answered given x was leaves kept = record {
    any_moment = leaves;
    kept = ok_was given x (IsKept new header compaction after) was kept;
    kept_err = tt;
  }

module _ {T D : Type 0} {state : D → State} {sector_count failures : D → ℕ} {old new : Kept D} where
  pub tried_refused : (made : Result T HubFault) (y : HubFault) (fault : StoreFault) → made ≡ Err y → y ≡ Store fault
      → CallTried {T = T} state sector_count failures old.device new.device (Err fault) new.failed
      → new.table.limits ≡ old.table.limits → IsTable new.table → (new.table ≡ old.table → new.device ≡ old.device)
      → faults.UnlessDevice fault
      ((new.device ≡ old.device) × (new.table ≡ old.table) × (new.failed ≡ old.failed))
      → TurnTried (measures state sector_count failures) old new made
  tried_refused made y fault is same tried limits bounds idle unchanged =
      subst (λ (r : Result T HubFault). TurnTried (measures state sector_count failures) old new r)
      (sym is) (record {
        model = tried.model;
        size = tried.sectors;
        limits = limits;
        bounds = bounds;
        idle = idle;
        works = tt;
        fails = fails_of fault y (new.failed ≡ true) same tried.fails;
        unchanged = unless_of fault y
            ((new.device ≡ old.device) × (new.table ≡ old.table) × (new.failed ≡ old.failed)) same unchanged;
        cause = tt;
        cause_err = counts_of fault y (failures old.device) (failures new.device) same tried.cause_err;
      })

-- the fault is another exactly where this holds
abbrev ComesAs : (T : Type 0) → StoreFault → StoreFault → Type 0 → Type 0
ComesAs T fault other Holds = IsErrOf {T = T} (Err fault) other ↔ Holds

-- Why a store refused a batch, by what `submit` says of its fault.
module _ {T : Type 0} (seq : ℕ) (before after : TableState) (commands : List Command) where
  not_failed : (fault : StoreFault) (failed : Bool) → (IsErrOf {T = T} (Err fault) store.Failed → ⊥)
      → ComesAs T fault store.Failed (failed ≡ true) → failed ≡ false
  not_failed fault true other is = absurd (other (is.1 refl))
  not_failed fault false other is = refl

  pub batch_fault : (fault : StoreFault) (failed : Bool) → faults.IsSubmitFault fault
      → faults.MayLast fault before commands after
      → ComesAs T fault store.Failed (failed ≡ true)
      → ComesAs T fault store.Worn ((failed ≡ false) × IsWornOut seq before.entries (change_count commands))
      → IsBatchFault fault seq failed before after commands
  batch_fault (store.Device pending) failed is may stopped worn =
      let works = not_failed (store.Device pending) failed (λ e. cc) stopped in
      (works, (λ out. let e = worn.1 (works, out) in cc), may)
  batch_fault store.NoMemory failed is may stopped worn =
      let works = not_failed store.NoMemory failed (λ e. cc) stopped in
      (works, (λ out. let e = worn.1 (works, out) in cc), may)
  batch_fault store.Worn failed is may stopped worn = ((worn.0 refl).0, (worn.0 refl).1, may)
  batch_fault store.Failed failed is may stopped worn = (stopped.0 refl, may)
  batch_fault store.Exists failed is may stopped worn = absurd is
  batch_fault store.TooSmall failed is may stopped worn = absurd is
  batch_fault store.NotOurs failed is may stopped worn = absurd is
  batch_fault store.Damaged failed is may stopped worn = absurd is

-- nothing was asked of the store
module _ {T : Type 0} {now : State} {header : Header} {compaction : Compaction} {table : TableState} (sectors : ℕ)
    (coherent : IsCoherent sectors now) (kept : IsKept now header compaction table) where
  pub lasts_same : (made : Result T HubFault) (y : HubFault) → made ≡ Err y → y ≡ NoMemory
      → TurnLasts made now now header compaction table table
  lasts_same made y is same =
      subst (λ (r : Result T HubFault). TurnLasts r now now header compaction table table) (sym is) (record {
        any_moment = same_leaves sectors now table coherent refl kept;
        kept = tt;
        kept_err = subst (λ (f : HubFault). UnlessDevice f (IsKept now header compaction table)) (sym same) kept;
      })

  pub lasts_idle : (x : T) → TurnLasts {T = T} (Ok x) now now header compaction table table
  lasts_idle x = record {
    any_moment = same_leaves sectors now table coherent refl kept;
    kept = kept;
    kept_err = tt;
  }

-- ---- the turn

-- a fault of the batch is one of the turn
pub turn_fault : (fault : HubFault) (Same : Type 0) (P Q : StoreFault → Type 0) → ((refused : StoreFault) → P refused
    → Q refused) → IsTurnFault fault ⊥ P → IsTurnFault fault Same Q
turn_fault Busy Same P Q more is = is
turn_fault NoMemory Same P Q more is = absurd is
turn_fault LineTooLong Same P Q more is = is
turn_fault (Store refused) Same P Q more is = more refused is

module _ {S T : Type 0} {old new : State} {header : Header} {compaction : Compaction} {before after : TableState} where
  pub lasts_passed : (given : Result S HubFault) (made : Result T HubFault) (fault y : HubFault) → given ≡ Err fault
      → made ≡ Err y → y ≡ fault → TurnLasts given old new header compaction before after
      → TurnLasts made old new header compaction before after
  lasts_passed given made fault y was is same lasts =
      let l : TurnLasts {T = S} (Err fault) old new header compaction before after =
      subst (λ (r : Result S HubFault). TurnLasts r old new header compaction before after) was lasts in
      subst (λ (r : Result T HubFault). TurnLasts r old new header compaction before after) (sym is) (record {
        any_moment = l.any_moment;
        kept = tt;
        kept_err = subst (λ (f : HubFault). UnlessDevice f (IsKept new header compaction after)) (sym same) l.kept_err;
      })

  pub lasts_done : (given : Result S HubFault) (x : S) (z : T) → given ≡ Ok x
      → TurnLasts given old new header compaction before after
      → TurnLasts {T = T} (Ok z) old new header compaction before after
  lasts_done given x z was lasts =
      let l : TurnLasts {T = S} (Ok x) old new header compaction before after =
      subst (λ (r : Result S HubFault). TurnLasts r old new header compaction before after) was lasts in
      record {
        any_moment = l.any_moment;
        kept = l.kept;
        kept_err = tt;
      }

module _ {S T : Type 0} where
  pub tried_passed : {D : Type 0} {of : Measures D} {old new : Kept D} (made : Result T HubFault) (fault y : HubFault)
      → made ≡ Err y → y ≡ fault → TurnTried {T = S} of old new (Err fault) → TurnTried of old new made
  tried_passed {of = of} {old = old} {new = new} made fault y is same tried =
      subst (λ (r : Result T HubFault). TurnTried of old new r) (sym is) (record {
        model = tried.model;
        size = tried.size;
        limits = tried.limits;
        bounds = tried.bounds;
        idle = tried.idle;
        works = tt;
        fails = subst (λ (f : HubFault). IsDevice f → new.failed ≡ true) (sym same) tried.fails;
        unchanged = subst (λ (f : HubFault). UnlessDevice f
            ((new.device ≡ old.device) × (new.table ≡ old.table) × (new.failed ≡ old.failed))) (sym same) tried.unchanged;
        cause = tt;
        cause_err = subst (λ (f : HubFault). CountsFault f (of.failures old.device) (of.failures new.device)) (sym same)
            tried.cause_err;
      })

  pub fault_passed : (given : Result S HubFault) (made : Result T HubFault) (fault y : HubFault) (Same : Type 0)
      (P Q : StoreFault → Type 0) → given ≡ Err fault → made ≡ Err y → y ≡ fault
      → IfErr given (λ f. IsTurnFault f ⊥ P) → ((refused : StoreFault) → P refused → Q refused)
      → IfErr made (λ f. IsTurnFault f Same Q)
  fault_passed given made fault y Same P Q was is same holds more =
      let h : IsTurnFault fault ⊥ P = subst (λ (r : Result S HubFault). IfErr r (λ f. IsTurnFault f ⊥ P)) was holds in
      subst (λ (r : Result T HubFault). IfErr r (λ f. IsTurnFault f Same Q)) (sym is)
      (subst (λ (f : HubFault). IsTurnFault f Same Q) (sym same) (turn_fault fault Same P Q more h))

-- sessions that were as they were before they were answered
pub answered_since : (at : ℕ) (answered : List Answered) (old mid new : Sessions) → IsUnchanged old mid
    → AllAnswered at answered mid new → AllAnswered at answered old new
answered_since at answered old mid new same all = λ sid.
    subst (λ (was : Option SessionState). MatchOption was (session_at new sid ≡ None)
    (λ s. IsSomeAnd (session_at new sid) (HasAnswered at (own sid answered) s))) (same sid) (all sid)
