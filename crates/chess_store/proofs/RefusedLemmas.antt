-- Which fault a widening ends with, and what one leaves that called no device.
use Rattle.std.proofs.Common.{ℕ, ◌≡◌, ◌∙◌, ◌<◌, ◌≤◌, Bool, true, false, refl, sym, ap, subst, arith}
use Rattle.std.specs.Prelude.{◌≢◌, ◌==◌, ◌&&◌, ◌↔◌, IsTrue, Result, Err, IfErr, IsErrOf}
use Rattle.std.proofs.lemmas.Bool.{false≢true}
use Rattle.std.proofs.lemmas.Bool.Decides.{nat_tests}
use Rattle.sector_dev.specs.declared.device.Device.{Ghosts}
use Rattle.sector_dev.specs.Device.{IsCoherent}
use Rattle.rec_codec.specs.declared.limits.Limits.{Limits}
use Rattle.rec_codec.specs.Limits.{need}
use Rattle.chess_entry.specs.State.{TableState}
use Rattle.chess_table.specs.Widened.{with_limits}
use Rattle.chess_store.specs.declared.fault.StoreFault.{StoreFault}
use Rattle.chess_store.specs.declared.fault.StoreFault.TheVariants.{TooSmall, Worn, Failed}
use Rattle.chess_store.specs.declared.store.Store.{Store}
use Rattle.chess_store.specs.Faults.{IsDevice, IsWidenFault, CountsFault}
use Rattle.chess_store.specs.Widening.{IsWornFor, Widens}
use Rattle.chess_store.proofs.CallLemmas.{stays_so, refused_so}
use Rattle.chess_store.proofs.RunLemmas.{same_leaves}

-- ---- limits

pub same_limits : (a b : Limits) → (a.games == b.games && a.plies == b.plies) ≡ true → a ≡ b
same_limits a b equal =
    let games : a.games ≡ b.games = grind (arith, nat_tests) in
    let plies : a.plies ≡ b.plies = grind (arith, nat_tests) in
    let make : ℕ → ℕ → Limits = λ games plies. record { games = games; plies = plies } in
    ap (λ (n : ℕ). make n a.plies) games ∙ ap (λ (n : ℕ). make b.games n) plies

pub other_limits : (a b : Limits) → (a.games == b.games && a.plies == b.plies) ≡ false → a ≢ b
other_limits a b unequal same =
    let games : a.games ≡ b.games = ap (λ (l : Limits). l.games) same in
    let plies : a.plies ≡ b.plies = ap (λ (l : Limits). l.plies) same in
    absurd (grind (arith, nat_tests))

-- the present limits change nothing
pub same_table : (limits : Limits) (table : TableState) → limits ≡ table.limits → table ≡ with_limits limits table
same_table limits table same = ap (λ (l : Limits). with_limits l table) (sym same)

-- ---- which fault comes

-- a fault that has no reason of its own
abbrev pub IsOther : StoreFault → Type 0
IsOther Failed = ⊥
IsOther TooSmall = ⊥
IsOther Worn = ⊥
IsOther fault = Unit {0}

-- each of the three comes exactly where it has its reason, in their order
abbrev pub IsReason : {D : Type 0} {ghosts : Ghosts D} → Store D ghosts → Limits → Result (Unit {0}) StoreFault → Type 0
IsReason {ghosts = ghosts} store limits result =
    let sectors = ghosts.sector_count store.journal.device in
    (IsErrOf result Failed ↔ (store.failed ≡ true))
    × (IsErrOf result TooSmall ↔ ((store.failed ≡ false) × (limits ≢ store.table.limits) × (sectors < need limits)))
    × (IsErrOf result Worn ↔ ((store.failed ≡ false) × (limits ≢ store.table.limits) × (need limits ≤ sectors)
    × IsWornFor store.journal.header))

pub below_of : {a b : ℕ} {told : Bool} → told ≡ false → IsTrue told ↔ (a ≤ b) → b < a
below_of {a} {b} {told} denied decides =
    let least : a ≤ b → ⊥ = λ le. false≢true (sym denied ∙ decides.1 le) in
    grind (arith, least)

not_both : {a b : ℕ} → a < b → b ≤ a → ⊥
not_both below least = absurd (omega arith)

module _ {D : Type 0} {ghosts : Ghosts D} (store : Store D ghosts) (limits : Limits) where
  pub has_failed : store.failed ≡ true → IsReason store limits (Err Failed)
  has_failed fails = (
    (λ is. fails, λ so. refl),
    (λ is. absurd (let bad : Err Failed ≡ Err TooSmall = is in cc), λ so. absurd (false≢true (sym so.0 ∙ fails))),
    (λ is. absurd (let bad : Err Failed ≡ Err Worn = is in cc), λ so. absurd (false≢true (sym so.0 ∙ fails))),
  )

  module _ (works : store.failed ≡ false) where
    pub is_small : limits ≢ store.table.limits → ghosts.sector_count store.journal.device < need limits
        → IsReason store limits (Err TooSmall)
    is_small other short = (
      (λ is. absurd (let bad : Err TooSmall ≡ Err Failed = is in cc), λ so. absurd (false≢true (sym works ∙ so))),
      (λ is. (works, other, short), λ so. refl),
      (λ is. absurd (let bad : Err TooSmall ≡ Err Worn = is in cc), λ so. absurd (not_both short so.2)),
    )

    pub is_worn : limits ≢ store.table.limits → need limits ≤ ghosts.sector_count store.journal.device
        → IsWornFor store.journal.header → IsReason store limits (Err Worn)
    is_worn other holds worn = (
      (λ is. absurd (let bad : Err Worn ≡ Err Failed = is in cc), λ so. absurd (false≢true (sym works ∙ so))),
      (λ is. absurd (let bad : Err Worn ≡ Err TooSmall = is in cc), λ so. absurd (not_both so.2 holds)),
      (λ is. (works, other, holds, worn), λ so. refl),
    )

    -- none has
    pub is_none : (result : Result (Unit {0}) StoreFault) → IfErr result IsOther
        → (limits ≢ store.table.limits → (need limits ≤ ghosts.sector_count store.journal.device)
        × (IsWornFor store.journal.header → ⊥))
        → IsReason store limits result
    is_none result other can =
        let is_no = λ (fault : StoreFault) (is : result ≡ Err fault).
        subst (λ (r : Result (Unit {0}) StoreFault). IfErr r IsOther) is other in (
          (λ is. absurd (is_no Failed is), λ so. absurd (false≢true (sym works ∙ so))),
          (λ is. absurd (is_no TooSmall is), λ so. absurd (not_both so.2 (can so.1).0)),
          (λ is. absurd (is_no Worn is), λ so. absurd ((can so.1).1 so.3)),
        )

  -- ---- a widening that is refused

  pub refused_widening : {result : Result (Unit {0}) StoreFault} (fault : StoreFault) → result ≡ Err fault
      → IsCoherent (ghosts.sector_count store.journal.device) (ghosts.state store.journal.device)
      → IsWidenFault fault → (IsDevice fault → ⊥)
      → CountsFault fault (ghosts.failures store.journal.device) (ghosts.failures store.journal.device)
      → (limits ≡ store.table.limits → store.failed ≡ false → ⊥) → IsReason store limits (Err fault)
      → Widens store store result limits
  refused_widening fault is laws may other counts differs reason =
      subst (λ (r : Result (Unit {0}) StoreFault). Widens store store r limits) (sym is) (record {
        table = tt;
        table_err = refl;
        any_moment = λ kept.
            same_leaves (ghosts.sector_count store.journal.device) (ghosts.state store.journal.device)
            (with_limits limits store.table) laws refl kept;
        kept = λ kept. tt;
        stays = stays_so store store (λ kept. kept) refl refl refl;
        idle = λ same. refl;
        equal = λ same works. absurd (differs same works);
        failed = reason.0;
        too_small = reason.1;
        worn = reason.2;
        fault = may;
        tried = refused_so ghosts.state ghosts.sector_count ghosts.failures store.journal.device fault store.failed other
            counts;
      })
