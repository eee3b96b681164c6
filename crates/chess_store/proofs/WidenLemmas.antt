-- Greater limits: a table under them, and two commits one after the other.
use Rattle.std.proofs.Common.{◌∙◌, ◌≡◌, ◌+◌, ◌*◌, ◌-◌, ◌^◌, ◌≤◌, false, List, [], length, sym, ap, subst, inl, inr, refl, arith}
use Rattle.std.specs.Prelude.{◌≢◌, Result, Ok, Err, OnOk}
use Rattle.std.proofs.Math.Nat.{mul-le-mul_left, mul-le-mul_right}
use Rattle.std.proofs.lemmas.Result.{on_ok_weaker}
use Rattle.sector_dev.specs.Image.{Sectors}
use Rattle.sector_dev.specs.declared.device.Device.{Ghosts}
use Rattle.sector_dev.specs.Device.{State}
use Rattle.sector_dev.specs.Runs.{LeavesOnly}
use Rattle.rec_codec.specs.declared.limits.Limits.{Limits}
use Rattle.rec_codec.specs.declared.limits.Version.TheVariants.{Two}
use Rattle.rec_codec.specs.Limits.{IsInRange, ceiling, snapshot_records}
use Rattle.rec_codec.specs.declared.record.Record.{Record}
use Rattle.rec_codec.specs.declared.header.Header.{Header}
use Rattle.sector_journal.specs.declared.compactions.Compaction.{Compaction}
use Rattle.sector_journal.specs.declared.fault.JournalFault.{JournalFault}
use Rattle.sector_journal.specs.declared.journals.Journal.{Journal}
use Rattle.sector_journal.specs.Committed.{IsSwitched, Switches}
use Rattle.sector_journal.specs.Stands.{Content, content}
use Rattle.sector_journal.specs.Switches.{widened_header}
use Rattle.chess_entry.specs.State.{TableState}
use Rattle.chess_entry.specs.Table.{IsTable}
use Rattle.chess_entry.specs.Snapshot.{IsSnapshotOf, IsMeaning}
use Rattle.chess_entry.proofs.MeaningMore.{AreEnteredOn-none, IsMeaning-of}
use Rattle.chess_table.specs.Widened.{with_limits}
use Rattle.chess_table.proofs.Kept.{IsTable-widen}
use Rattle.chess_table.proofs.StoredLemmas.{limits-meaning}
use Rattle.chess_store.specs.Means.{MeansEither, IsKept, IsJournalKept}
use Rattle.chess_store.specs.Committing.{IsBatch, JournalLasts}
use Rattle.chess_store.specs.Widening.{IsWidenTried, SnapshotLasts}
use Rattle.chess_store.proofs.CommitLemmas.{switched_lasts, tried_so, limited_err_so}

-- ---- the table

wider_snapshot : (limits : Limits) (table : TableState) (base : List Record) → IsSnapshotOf table base
    → IsSnapshotOf (with_limits limits table) base
wider_snapshot limits table base is = record {
  meta = is.meta;
  parts = is.parts;
  records = is.records;
  games = is.games;
  count = is.count;
  moment = is.moment;
  last = is.last;
  entries = is.entries;
}

wider_means : (limits : Limits) (table : TableState) (base : List Record) → IsTable table → IsInRange Two limits
    → table.limits.games ≤ limits.games → table.limits.plies ≤ limits.plies → IsSnapshotOf table base
    → IsMeaning limits base [] (with_limits limits table)
wider_means limits table base sound range games plies is =
    IsMeaning-of (with_limits limits table) base [] (IsTable-widen table limits sound range games plies)
    (wider_snapshot limits table base is) (AreEnteredOn-none (with_limits limits table)) sound.entries

-- greater limits allow a snapshot as many records
pub records_within : (limits wider : Limits) → limits.games ≤ wider.games → limits.plies ≤ wider.plies
    → snapshot_records limits ≤ snapshot_records wider
records_within limits wider games plies =
    let more : 1 + ceiling limits.plies 60 ≤ 1 + ceiling wider.plies 60 = omega arith in
    let first : limits.games * (1 + ceiling limits.plies 60) ≤ wider.games * (1 + ceiling limits.plies 60) =
    mul-le-mul_right (1 + ceiling limits.plies 60) games in
    let other : wider.games * (1 + ceiling limits.plies 60) ≤ wider.games * (1 + ceiling wider.plies 60) =
    mul-le-mul_left wider.games more in
    omega (arith, first, other)

-- ---- one commit

module _ {D : Type 0} {ghosts : Ghosts D} (old new : Journal D ghosts) (result : Result (Unit {0}) JournalFault) where
  pub widen_lasts : (limits : Limits) (snapshot : List Record) → IsInRange Two limits
      → old.header.limits.games ≤ limits.games → old.header.limits.plies ≤ limits.plies
      → Switches old new result (content (widened_header old.header limits (length snapshot)) snapshot [])
      → SnapshotLasts old new result snapshot (with_limits limits)
  widen_lasts limits snapshot range games plies switches table sound taken kept =
      let header = old.header in
      let same = limits-meaning header.limits kept.base kept.tail table kept.means in
      switched_lasts old new result (content (widened_header header limits (length snapshot)) snapshot []) switches
      table (with_limits limits table) kept
      (wider_means limits table snapshot sound range
      (subst (λ (l : Limits). l.games ≤ limits.games) (sym same) games)
      (subst (λ (l : Limits). l.plies ≤ limits.plies) (sym same) plies) taken)

-- no entry
pub empty_batch : {now : State} {header : Header} {compaction : Compaction} {table : TableState} (records : List Record)
    → records ≡ [] → IsTable table → IsKept now header compaction table
    → IsBatch now header compaction records table table
empty_batch {table = table} records none sound kept = record {
  kept = kept;
  sound = sound;
  entries = [];
  told = none;
  entered = AreEnteredOn-none table;
  is = refl;
  few = sound.entries;
}

-- ---- two commits

one_of : (table wider : TableState) (c : Sectors) → MeansEither table table c → MeansEither table wider c
one_of table wider c (inl means) = inl means
one_of table wider c (inr means) = inl means

two_leaves : (old mid new : State) (P Q R : Sectors → Type 0) → ((c : Sectors) → P c → R c)
    → ((c : Sectors) → Q c → R c) → LeavesOnly old mid P → LeavesOnly mid new Q → LeavesOnly old new R
two_leaves old mid new P Q R one other first second =
    record {
      unstopped = second.unstopped ∙ first.unstopped;
      later = omega (arith, first.later, second.later);
      each = λ c since. elim (second.before old.moment c first.later since) [
        | inl was ↦ one c (first.each c was)
        | inr has ↦ other c has
      ];
      before = λ t c earlier since.
          elim (second.before t c (omega (arith, earlier, first.later)) since) [
            | inl was ↦ elim (first.before t c earlier was) [ inl long ↦ inl long | inr has ↦ inr (one c has) ]
            | inr has ↦ inr (other c has)
          ];
    }

never : {T E : Type 0} (r : Result T E) (P : Type 0) → OnOk r ⊥ → OnOk r P
never (Ok x) P no_proof = absurd no_proof
never (Err e) P no_proof = tt

module _ {D : Type 0} {ghosts : Ghosts D} (old mid : Journal D ghosts) (result given : Result (Unit {0}) JournalFault)
    (table wider : TableState) (first : JournalLasts old mid given table table) where
  -- the first fails
  pub first_lasts : OnOk result ⊥ → JournalLasts old mid result table wider
  first_lasts failed = record {
    any_moment = record {
      unstopped = first.any_moment.unstopped;
      later = first.any_moment.later;
      each = λ c since. one_of table wider c (first.any_moment.each c since);
      before = λ t c earlier since. elim (first.any_moment.before t c earlier since) [
        | inl was ↦ inl was
        | inr has ↦ inr (one_of table wider c has)
      ];
    };
    kept = never result (IsJournalKept mid wider) failed;
  }

  -- both are made
  pub both_last : (new : Journal D ghosts) → JournalLasts mid new result table wider
      → JournalLasts old new result table wider
  both_last new second = record {
    any_moment = two_leaves (ghosts.state old.device) (ghosts.state mid.device) (ghosts.state new.device)
        (MeansEither table table) (MeansEither table wider) (MeansEither table wider) (one_of table wider) (λ c has. has)
        first.any_moment second.any_moment;
    kept = second.kept;
  }

-- ---- what a widening does whatever the journal holds

pub widened_by : {D : Type 0} {ghosts : Ghosts D} (old new : Journal D ghosts) (widened : Content)
    (result : Result (Unit {0}) JournalFault) → Switches old new result widened → old.failed ≡ false
    → old.header.seq ≢ 2 ^ 64 - 1 → IsWidenTried old new result widened.header.limits
widened_by old new widened result switches works number =
    tried_so old new result _ switches.committed (λ short. short) works number (
      on_ok_weaker {P = IsSwitched old new widened} {Q = new.header.limits ≡ widened.header.limits} result
          (λ is. ap (λ (h : Header). h.limits) is.header) switches.ok,
      limited_err_so result new.header old.header switches.committed.header_err,
    )
