-- Lives from the empty table, on a device in memory.
use Rattle.std.specs.Prelude.{ℕ, ◌≡◌, ◌⊎◌, ◌<◌, ◌≤◌, ◌+◌, ◌*◌, List, [], take, replicate, get_or, codes, Some, Err, IfOk, IfErr}
use Rattle.std.proofs.Common.{arith, ap, sym, subst, inl, inr}
use Rattle.std.proofs.lemmas.List.{get_or-replicate}
use Rattle.std.proofs.lemmas.Result.{IfErr-weaker}
use Rattle.rec_codec.specs.declared.limits.Limits.{Limits}
use Rattle.rec_codec.specs.Limits.{half_sectors, need}
use Rattle.sector_dev.specs.declared.device.Sector.TheVariants.{Bytes, Unreadable}
use Rattle.sector_dev.specs.Image.{Sectors}
use Rattle.sector_dev.specs.Device.{State, HasRisen}
use Rattle.sector_dev.specs.declared.memory.MemoryDevice.{MemoryDevice}
use Rattle.sector_dev.specs.InMemory.{state_of, sector_count_of, zeros}
use Rattle.sector_journal.specs.Parts.{readable, bytes_at}
use Rattle.sector_journal.specs.Stands.{StartsOurs, IsOurs}
use Rattle.chess_entry.specs.Table.{empty_table}
use Rattle.chess_entry.proofs.LawfulLists.{IsLawful-none}
use Rattle.chess_store.specs.declared.fault.StoreFault.{StoreFault}
use Rattle.chess_store.specs.declared.fault.StoreFault.TheVariants.{Exists, TooSmall, NotOurs, Damaged, Device, NoMemory, Worn, Failed}
use Rattle.chess_store.specs.Creating.{IsCreateRefusal}
use Rattle.chess_store.specs.Faults.{IsCreateFault, CountsFault}
use Rattle.chess_store.specs.Means.{AllMean}
use Rattle.chess_store.specs.declared.plan.Life.{Life}
use Rattle.chess_store.specs.declared.plan.Lived.{Lived}
use Rattle.chess_store.specs.Courses.{Course}
use Rattle.chess_store.specs.Lives.{IsBegun, IsReport}
use Rattle.chess_store.specs.Stops.{IsCutShort, IsReturned}
use Rattle.chess_store.specs.Drill.{IsLivedInMemory, IsUnbegun, IsFaultInMemory}

-- ---- a new device

-- zeros do not start with the eight bytes
no_code : take 8 (replicate 512 0) ≡ codes "FIDEJRN1" → ⊥
no_code is =
    let first : 0 ≡ 70 = ap (λ (bytes : List ℕ). get_or bytes 0 0) is in
    absurd (omega (arith, first))

zeros_at : (n at : ℕ) → at < n → bytes_at (zeros n) at ≡ Some (replicate 512 0)
zeros_at n at lt = ap readable (get_or-replicate n at (Bytes (replicate 512 0)) Unreadable lt)

zeros_fresh : (n : ℕ) → 2 ≤ n → IsOurs (zeros n) → ⊥
zeros_fresh n many (inl zero) = no_code (subst StartsOurs (zeros_at n 0 (omega (arith, many))) zero)
zeros_fresh n many (inr one) = no_code (subst StartsOurs (zeros_at n 1 (omega (arith, many))) one)

two_and_halves : (half : ℕ) → 2 ≤ 2 + 2 * half
two_and_halves half = omega arith

not_below : (n m : ℕ) → n ≡ m → n < m → ⊥
not_below n m is lt = absurd (omega (arith, is, lt))

-- it has the sectors, and no journal
pub made_or_not : (reads : Sectors) (count : ℕ) (limits : Limits) (fault : StoreFault) (failures after : ℕ)
    → reads ≡ zeros count → count ≡ need limits → failures ≡ 0 → IsCreateFault fault
    → IsCreateRefusal reads count limits fault → CountsFault fault failures after → IsUnbegun fault after
made_or_not reads count limits Exists failures after blank is none may refused counts =
    absurd (zeros_fresh count (subst (λ (n : ℕ). 2 ≤ n) (sym is) (two_and_halves (half_sectors limits)))
    (subst IsOurs blank refused))
made_or_not reads count limits TooSmall failures after blank is none may refused counts =
    absurd (not_below count (need limits) is refused.1)
made_or_not reads count limits (Device pending) failures after blank is none may refused counts =
    (may, subst (λ (n : ℕ). HasRisen n after) none counts.0)
made_or_not reads count limits NotOurs failures after blank is none may refused counts = absurd may
made_or_not reads count limits Damaged failures after blank is none may refused counts = absurd may
made_or_not reads count limits NoMemory failures after blank is none may refused counts = absurd may
made_or_not reads count limits Worn failures after blank is none may refused counts = absurd may
made_or_not reads count limits Failed failures after blank is none may refused counts = absurd may

-- ---- lives from the empty table

pub begun_empty : (limits : Limits) (now : State) → now.keeps_model → AllMean now (empty_table limits)
    → IsBegun limits [] now
begun_empty limits now model means = record { model = model; lawful = IsLawful-none limits; means = means }

-- ---- which faults there are

unbegun_fault : (fault : StoreFault) (after : ℕ) → IsUnbegun fault after → IsFaultInMemory fault
unbegun_fault (Device pending) after is = tt
unbegun_fault NoMemory after is = absurd is
unbegun_fault Worn after is = absurd is
unbegun_fault Exists after is = absurd is
unbegun_fault TooSmall after is = absurd is
unbegun_fault NotOurs after is = absurd is
unbegun_fault Damaged after is = absurd is
unbegun_fault Failed after is = absurd is

returned_fault : (fault : StoreFault) (IsUnarmed IsWorn : Type 0) (course : Course) (failures after : ℕ)
    → IsReturned fault IsUnarmed IsWorn course failures after → IsFaultInMemory fault
returned_fault NoMemory IsUnarmed IsWorn course failures after is = tt
returned_fault (Device pending) IsUnarmed IsWorn course failures after is = tt
returned_fault Worn IsUnarmed IsWorn course failures after is = tt
returned_fault Exists IsUnarmed IsWorn course failures after is = absurd is
returned_fault TooSmall IsUnarmed IsWorn course failures after is = absurd is
returned_fault NotOurs IsUnarmed IsWorn course failures after is = absurd is
returned_fault Damaged IsUnarmed IsWorn course failures after is = absurd is
returned_fault Failed IsUnarmed IsWorn course failures after is = absurd is

ended_fault : (limits : Limits) (lives : List Life) (fault : StoreFault) (now : State) (after : ℕ)
    → IsUnbegun fault after ⊎ IsCutShort limits [] 0 lives fault now after → IsFaultInMemory fault
ended_fault limits lives fault now after (inl is) = unbegun_fault fault after is
ended_fault limits lives fault now after (inr is) =
    returned_fault fault _ _ is.stopped.course is.count after is.stopped.returned

-- ---- what came of them

pub lived_out : (limits : Limits) (lives : List Life) (lived : Lived MemoryDevice) (failures : ℕ) → failures ≡ 0
    → IfOk lived.report (λ report. IsReport limits [] failures lives report lived.dev.failures)
    → IfOk lived.report (λ report. AllMean (state_of lived.dev) report.table)
    → IfErr lived.report (λ fault.
    IsCutShort limits [] failures lives fault (state_of lived.dev) lived.dev.failures)
    → sector_count_of lived.dev ≡ need limits → IsLivedInMemory limits lives lived
lived_out limits lives lived failures none reported images returned sectors =
    let now = state_of lived.dev in
    let after = lived.dev.failures in
    let ended = IfErr-weaker lived.report (λ fault. IsCutShort limits [] failures lives fault now after)
    (λ fault. IsUnbegun fault after ⊎ IsCutShort limits [] 0 lives fault now after)
    (λ fault is. inr (subst (λ (n : ℕ). IsCutShort limits [] n lives fault now after) none is)) returned in
    record {
      reported = subst (λ (n : ℕ). IfOk lived.report (λ report. IsReport limits [] n lives report after)) none reported;
      images = images;
      returned = ended;
      fault = IfErr-weaker lived.report (λ fault. IsUnbegun fault after ⊎ IsCutShort limits [] 0 lives fault now after)
          IsFaultInMemory (λ fault is. ended_fault limits lives fault now after is) ended;
      sectors = sectors;
    }

pub not_begun : (limits : Limits) (lives : List Life) (device : MemoryDevice) (fault : StoreFault)
    → IsUnbegun fault device.failures → sector_count_of device ≡ need limits
    → IsLivedInMemory limits lives (record { dev = device; report = Err fault })
not_begun limits lives device fault is sectors = record {
  reported = tt;
  images = tt;
  returned = inl is;
  fault = unbegun_fault fault device.failures is;
  sectors = sectors;
}
