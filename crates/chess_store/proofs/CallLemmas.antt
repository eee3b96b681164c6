-- What follows from the result of a call.
use Rattle.std.specs.Prelude.{◌≡◌, ℕ, Bool, Result, Ok, Err, OnOk, OnErr, IfErr, is_err, true, false}
use Rattle.std.proofs.Common.{refl, sym, subst}
use Rattle.std.proofs.lemmas.Bool.{false≢true}
use Rattle.sector_dev.specs.declared.device.Device.{Ghosts}
use Rattle.sector_dev.specs.Device.{State, measures}
use Rattle.sector_journal.specs.declared.fault.JournalFault.{JournalFault}
use Rattle.sector_journal.proofs.CommittedLemmas.{counts_ok, counts_err}
use Rattle.chess_store.specs.Committing.{IsTried}
use Rattle.chess_store.specs.declared.fault.StoreFault.{StoreFault}
use Rattle.chess_store.specs.declared.fault.StoreFault.TheVariants.{Device}
use Rattle.chess_store.specs.Faults.{IsDevice, UnlessDevice, CountsFault}
use Rattle.chess_store.specs.declared.store.Store.{Store}
use Rattle.chess_store.specs.Calling.{CallTried, StaysUnlessDevice}
use Rattle.chess_store.specs.Kept.{IsStoreKept}

-- what holds of a call's `Ok`, where it gave one
pub ok_was : {T E : Type 0} (r : Result T E) (x : T) (P : Type 0) → r ≡ Ok x → OnOk r P → P
ok_was {T} {E} r x P was holds = let made : OnOk {T = T} {E = E} (Ok x) P = subst (λ (s : Result T E). OnOk s P) was holds in made

-- what holds of a call's `Err`, where it gave one
pub err_of : {T E : Type 0} (r : Result T E) (P : Type 0) → is_err r ≡ true → OnErr r P → P
err_of (Ok x) P err holds = absurd (false≢true err)
err_of (Err e) P err holds = holds

-- where the device alone can be at fault, nothing is said of other faults
pub unless_device : {T : Type 0} (r : Result T StoreFault) (P : Type 0) → IfErr r IsDevice
    → IfErr r (λ fault. UnlessDevice fault P)
unless_device (Ok x) P device = tt
unless_device (Err (Device pending)) P device = tt
unless_device r P device = absurd device

-- what holds of each fault holds of a call's
if_any : {T E : Type 0} (r : Result T E) (P : E → Type 0) → ((e : E) → P e) → IfErr r P
if_any (Ok x) P holds = tt
if_any (Err e) P holds = holds e

pub unless_any : (fault : StoreFault) (P : Type 0) → P → UnlessDevice fault P
unless_any (Device pending) P holds = tt
unless_any fault P holds = holds

-- ---- what a fault leaves

module _ {D T : Type 0} {ghosts : Ghosts D} (old new : Store D ghosts) {result : Result T StoreFault} where
  -- the store is as it was, whatever the fault
  pub stays_so : (IsStoreKept old → IsStoreKept new) → new.journal.device ≡ old.journal.device
      → new.table ≡ old.table → new.failed ≡ old.failed → StaysUnlessDevice old new result
  stays_so kept device table failed = record {
    kept_err = λ was. if_any result _ (λ fault. unless_any fault (IsStoreKept new) (kept was));
    unchanged = if_any result _ (λ fault.
        unless_any fault ((new.journal.device ≡ old.journal.device) × (new.table ≡ old.table)
        × (new.failed ≡ old.failed)) (device, table, failed));
  }

  -- the device alone can be at fault
  pub stays_else : IfErr result IsDevice → StaysUnlessDevice old new result
  stays_else device = record {
    kept_err = λ was. unless_device result (IsStoreKept new) device;
    unchanged = unless_device result ((new.journal.device ≡ old.journal.device) × (new.table ≡ old.table)
        × (new.failed ≡ old.failed)) device;
  }

-- ---- what a call does to the device

module _ {D T : Type 0} (state : D → State) (sector_count failures : D → ℕ) where
  -- the device is not called
  pub refused_so : (device : D) (fault : StoreFault) (failed : Bool) → (IsDevice fault → ⊥)
      → CountsFault fault (failures device) (failures device)
      → CallTried {T = T} state sector_count failures device device (Err fault) failed
  refused_so device fault failed other same = record {
    model = (λ keeps. keeps, λ keeps. keeps);
    sectors = refl;
    works = tt;
    fails = λ is. absurd (other is);
    cause = tt;
    cause_err = same;
  }

  -- the same where this fault is that of a call inside, which left the device
  pub refused_by : (old new : D) (made : Result T StoreFault) (y fault : StoreFault) (failed : Bool) → new ≡ old
      → made ≡ Err y → y ≡ fault → (IsDevice fault → ⊥) → CountsFault fault (failures old) (failures old)
      → CallTried state sector_count failures old new made failed
  refused_by old new made y fault failed left is same other counts =
      subst (λ (d : D). CallTried state sector_count failures old d made failed) (sym left)
      (subst (λ (r : Result T StoreFault). CallTried state sector_count failures old old r failed) (sym is)
      (subst (λ (f : StoreFault). CallTried {T = T} state sector_count failures old old (Err f) failed) (sym same)
      (refused_so old fault failed other counts)))

  pub quiet_so : (device : D) (x : T) (failed : Bool) → failed ≡ false
      → CallTried {T = T} state sector_count failures device device (Ok x) failed
  quiet_so device x failed works = record {
    model = (λ keeps. keeps, λ keeps. keeps);
    sectors = refl;
    works = works;
    fails = tt;
    cause = refl;
    cause_err = tt;
  }

  module _ (old new : D) (given : Result (Unit {0}) JournalFault) {failed : Bool} {Limited : Type 0}
      (tried : IsTried (measures state sector_count failures) old new given failed Limited) where
    -- the commit was made
    pub made_so : (x : T) (now : Bool) → now ≡ false → is_err given ≡ false
        → CallTried {T = T} state sector_count failures old new (Ok x) now
    made_so x now works made = record {
      model = tried.model;
      sectors = tried.size;
      works = works;
      fails = tt;
      cause = counts_ok given (failures old) (failures new) made tried.count;
      cause_err = tt;
    }

    -- the device failed
    pub failed_so : (pending : ℕ) → is_err given ≡ true
        → CallTried {T = T} state sector_count failures old new (Err (Device pending)) true
    failed_so pending err = record {
      model = tried.model;
      sectors = tried.size;
      works = tt;
      fails = λ is. refl;
      cause = tt;
      cause_err = counts_err given (failures old) (failures new) err tried.count;
    }
