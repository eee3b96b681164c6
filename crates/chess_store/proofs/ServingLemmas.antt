-- Batches that are submitted one after the other.
use Rattle.std.specs.Prelude.{ℕ, ◌≡◌, ◌≤◌, ◌<◌, ◌+◌, ◌-◌, ◌^◌, zero, suc, min, List, [], ◌∷◌, ◌++◌, length, map, take, get_or, count_by, Option, Some, None}
use Rattle.std.proofs.Common.{arith, ap, sym, subst, ◌∙◌, refl, inl, inr, length-append}
use Rattle.std.proofs.lemmas.List.{map-append, append-nil, take_more}
use Rattle.chess_board.specs.Legal.{EachOf}
use Rattle.rec_codec.specs.declared.record.Entry.{Entry}
use Rattle.sector_dev.specs.Image.{Sectors}
use Rattle.sector_dev.specs.Device.{State, HasRisen}
use Rattle.chess_entry.specs.declared.commands.Command.{Command}
use Rattle.chess_entry.specs.State.{TableState}
use Rattle.chess_entry.specs.Table.{IsTable, followed}
use Rattle.chess_entry.specs.Follow.{follow}
use Rattle.chess_answer.specs.declared.reads.Reply.{Reply}
use Rattle.rec_codec.specs.declared.header.Header.{Header}
use Rattle.sector_journal.specs.declared.compactions.Compaction.{Compaction}
use Rattle.sector_journal.specs.Stands.{content}
use Rattle.chess_store.specs.Batch.{IsAnswered, IsWornOut, change_count}
use Rattle.chess_store.proofs.BatchLemmas.{answered_comes}
use Rattle.chess_store.specs.declared.fault.StoreFault.{StoreFault}
use Rattle.chess_store.specs.declared.fault.StoreFault.TheVariants.{Exists, TooSmall, NotOurs, Damaged, Device, NoMemory, Worn, Failed}
use Rattle.chess_store.specs.Faults.{IsSubmitFault, IsOpenFault, IsDevice, IsOfTheCall, CountsFault, MayLast}
use Rattle.chess_store.specs.Means.{MeansEither, AllMean, IsKept}
use Rattle.chess_store.specs.declared.plan.LifeReport.{LifeReport}
use Rattle.chess_store.specs.declared.serving.Submitted.{Submitted}
use Rattle.chess_store.specs.Courses.{Batch, entries_of, list_of, is_unsent, unsent_in}
use Rattle.chess_store.specs.Serving.{AreJudgedOn, ArePending, EndsWith, EndsUnopened, CountsEnd, IsTallied, HasRoomFor, pending_of, IsServed}
use Rattle.chess_store.specs.Stops.{IsFirstWorn, IsWornBefore, IsLivesFault}

-- the batches so far, all of them answered
pub record SoFar (before : TableState) (done : List (List Command)) (now : TableState) (shown refused : ℕ)
    : Type 0 where
  pub answered : List Batch
  pub order : done ≡ map (λ b. b.commands) answered
  pub judged : AreJudgedOn before answered now
  pub count : shown ≡ now.entries
  pub unsent : refused ≡ min (unsent_in answered) (2 ^ 64 - 1)

-- ---- one batch more

pub AreJudgedOn-more : (before : TableState) (batches : List Batch) (batch : Batch) (now new : TableState)
    → AreJudgedOn before batches now → IsAnswered now batch.commands batch.replies batch.entries new
    → AreJudgedOn before (batches ++ batch ∷ []) new
AreJudgedOn-more before [] batch now new same is = record {
  between = new;
  first = subst (λ (t : TableState). IsAnswered t batch.commands batch.replies batch.entries new) same is;
  rest = refl;
}
AreJudgedOn-more before (b ∷ batches) batch now new judged is = record {
  between = judged.between;
  first = judged.first;
  rest = AreJudgedOn-more judged.between batches batch now new judged.rest is;
}

unsent_in-more : (batches : List Batch) (batch : Batch)
    → unsent_in (batches ++ batch ∷ []) ≡ unsent_in batches + count_by is_unsent batch.replies
unsent_in-more [] batch = omega arith
unsent_in-more (b ∷ batches) batch = omega (arith, unsent_in-more batches batch)

pub so_far-none : (table : TableState) (shown : ℕ) → shown ≡ table.entries → SoFar table [] table shown 0
so_far-none table shown count = record {
  answered = [];
  order = refl;
  judged = refl;
  count = count;
  unsent = omega arith;
}

pub so_far-more : (before : TableState) (done : List (List Command)) (now new : TableState)
    (shown shown_now refused refused_now : ℕ) (commands : List Command) (replies : List Reply) (entries : List Entry)
    → SoFar before done now shown refused → IsAnswered now commands replies entries new → shown_now ≡ new.entries
    → refused_now ≡ min (refused + count_by is_unsent replies) (2 ^ 64 - 1)
    → SoFar before (done ++ commands ∷ []) new shown_now refused_now
so_far-more before done now new shown shown_now refused refused_now commands replies entries so_far is count unsent =
    let batch : Batch = record { commands = commands; replies = replies; entries = entries } in
    record {
      answered = so_far.answered ++ batch ∷ [];
      order = ap (λ (cs : List (List Command)). cs ++ commands ∷ []) so_far.order
          ∙ sym (map-append (λ (b : Batch). b.commands) so_far.answered (batch ∷ []));
      judged = AreJudgedOn-more before so_far.answered batch now new so_far.judged is;
      count = count;
      unsent = omega (arith, unsent, so_far.unsent, unsent_in-more so_far.answered batch);
    }

-- ---- the number of entries

followed-entries : (table : TableState) (es : List Entry) → (followed table es).entries ≡ table.entries + length es
followed-entries table [] = omega arith
followed-entries table (e ∷ es) = omega (arith, followed-entries (follow table e) es)

pub answered-entries : (before : TableState) (batch : Batch) (after : TableState)
    → IsAnswered before batch.commands batch.replies batch.entries after
    → after.entries ≡ before.entries + length batch.entries
answered-entries before batch after is =
    let come = answered_comes batch.commands before batch.replies batch.entries after is in
    ap (λ (t : TableState). t.entries) come.is ∙ followed-entries before batch.entries

pub judged-entries : (before : TableState) (batches : List Batch) (after : TableState) → AreJudgedOn before batches after
    → after.entries ≡ before.entries + length (entries_of batches)
judged-entries before [] after same = ap (λ (t : TableState). t.entries) same ∙ omega arith
judged-entries before (batch ∷ batches) after judged =
    omega (
      arith,
      answered-entries before batch judged.between judged.first,
      judged-entries judged.between batches after judged.rest,
      length-append batch.entries (entries_of batches),
    )

-- ---- a list at an index

pub EachOf-at : {A B : Type 0} (P : B → Type 0) (f : A → B) (xs : List A) (i : ℕ) (x : A) → EachOf P (map f xs)
    → i < length xs → x ≡ get_or xs i x → P (f x)
EachOf-at P f [] i x each lt is = absurd (omega arith)
EachOf-at {A = A} P f (y ∷ ys) zero x each lt is = subst (λ (z : A). P (f z)) (sym is) each.0
EachOf-at P f (y ∷ ys) (suc i) x each lt is = EachOf-at P f ys i x each.1 (omega arith) is

pub take_map-more : {A B : Type 0} (f : A → B) (xs : List A) (i : ℕ) (x : A) → i < length xs → x ≡ get_or xs i x
    → map f (take (i + 1) xs) ≡ map f (take i xs) ++ f x ∷ []
take_map-more {A = A} {B = B} f xs i x lt is =
    ap (map f) (take_more xs i x lt)
    ∙ map-append f (take i xs) (get_or xs i x ∷ [])
    ∙ ap (λ (z : A). map f (take i xs) ++ f z ∷ []) (sym is)

-- a list before and behind one of its elements
pub record IsAround {B : Type 0} (whole before : List B) (x : B) : Type 0 where
  pub rest : List B
  pub is : whole ≡ before ++ x ∷ rest

pub around-at : {A B : Type 0} (f : A → B) (xs : List A) (i : ℕ) (x : A) → i < length xs → x ≡ get_or xs i x
    → IsAround (map f xs) (map f (take i xs)) (f x)
around-at f [] i x lt is = absurd (omega arith)
around-at {A = A} {B = B} f (y ∷ ys) zero x lt is = record {
  rest = map f ys;
  is = ap (λ (z : A). f z ∷ map f ys) (sym is);
}
around-at {A = A} {B = B} f (y ∷ ys) (suc i) x lt is =
    let more = around-at f ys i x (omega arith) is in
    record { rest = more.rest; is = ap (λ (zs : List B). f y ∷ zs) more.is }

-- ---- a batch that is worn out

-- where every image stands for the store's records, each has the number of its header
pub worn_before : (now : State) (header : Header) (compaction : Compaction) (table : TableState)
    (commands : List Command) → IsKept now header compaction table
    → IsWornOut header.seq table.entries (change_count commands) → IsWornBefore now table.entries commands
worn_before now header compaction table commands kept worn = record {
  number = header.seq;
  each = λ image is. record {
    content = content header kept.base kept.tail;
    shows = kept.keeps.all image is;
    is = refl;
  };
  worn = worn;
}

-- ---- the end of the batches

module _ (before : TableState) (failures : ℕ) (WasKept : Type 0) (state : State) (after : ℕ) where
  -- none is left
  pub tallied-all : (batches : List (List Command)) (now : TableState) (shown refused : ℕ)
      → SoFar before batches now shown refused → after ≡ failures → (WasKept → AllMean state now)
      → IsTallied before batches (record { shown = shown; unsent = refused; fault = None }) failures WasKept state after
  tallied-all batches now shown refused so_far unfailed means = record {
    course = record { answered = so_far.answered; failed = None };
    left = [];
    kept = now;
    accepted = now;
    is_course = record {
      order = so_far.order ∙ sym (append-nil (map (λ b. b.commands) so_far.answered));
      answered = so_far.judged;
      failed = refl;
      some = tt;
    };
    ends = (refl, refl, unfailed);
    shown = so_far.count;
    unsent = so_far.unsent;
    worn = λ was is. absurd (cc);
    each = λ kept image is. inl (means kept image is);
  }

  -- one was refused, and nothing has changed
  tallied-refused : (done rest : List (List Command)) (commands : List Command) (now new : TableState)
      (shown refused : ℕ) (fault : StoreFault) → SoFar before done now shown refused → new ≡ now
      → EndsWith (Some fault) None (commands ∷ rest) failures after
      → (WasKept → fault ≡ Worn → IsWornBefore state now.entries commands)
      → (WasKept → (image : Sectors) → state.image image → MeansEither now new image)
      → IsTallied before (done ++ commands ∷ rest) (record { shown = shown; unsent = refused; fault = Some fault })
      failures WasKept state after
  tallied-refused done rest commands now new shown refused fault so_far same ends worn each = record {
    course = record { answered = so_far.answered; failed = None };
    left = commands ∷ rest;
    kept = now;
    accepted = now;
    is_course = record {
      order = ap (λ (cs : List (List Command)). cs ++ commands ∷ rest) so_far.order;
      answered = so_far.judged;
      failed = refl;
      some = tt;
    };
    ends = ends;
    shown = so_far.count;
    unsent = so_far.unsent;
    worn = λ was is. (let same : fault ≡ Worn = cc in worn was same);
    each = λ kept image is. subst (λ (t : TableState). MeansEither now t image) same (each kept image is);
  }

  pub tallied-err : (done rest : List (List Command)) (commands : List Command) (now new : TableState)
      (shown refused mid : ℕ) (fault : StoreFault) → SoFar before done now shown refused → IsSubmitFault fault
      → (fault ≡ Failed → ⊥) → MayLast fault now commands new → CountsFault fault mid after → mid ≡ failures
      → (WasKept → fault ≡ Worn → IsWornBefore state now.entries commands)
      → (WasKept → (image : Sectors) → state.image image → MeansEither now new image)
      → IsTallied before (done ++ commands ∷ rest) (record { shown = shown; unsent = refused; fault = Some fault })
      failures WasKept state after
  tallied-err done rest commands now new shown refused mid (Device pending) so_far may works last counts same worn each =
      let batch : Batch = record { commands = commands; replies = last.replies; entries = last.entries } in
      record {
        course = record { answered = so_far.answered; failed = Some batch };
        left = rest;
        kept = now;
        accepted = new;
        is_course = record {
          order = ap (λ (cs : List (List Command)). cs ++ commands ∷ rest) so_far.order;
          answered = so_far.judged;
          failed = record { between = new; first = last.answered; rest = refl };
          some = last.some;
        };
        ends = (last.counted, subst (λ (n : ℕ). HasRisen n after) same counts.0);
        shown = so_far.count;
        unsent = so_far.unsent;
        worn = λ was is. absurd (cc);
        each = each;
      }
  tallied-err done rest commands now new shown refused mid NoMemory so_far may works last counts same worn each =
      tallied-refused done rest commands now new shown refused NoMemory so_far last (refl, counts ∙ same) worn each
  tallied-err done rest commands now new shown refused mid Worn so_far may works last counts same worn each =
      tallied-refused done rest commands now new shown refused Worn so_far last (refl, counts ∙ same) worn each
  tallied-err done rest commands now new shown refused mid Failed so_far may works last counts same worn each =
      absurd (works refl)
  tallied-err done rest commands now new shown refused mid Exists so_far may works last counts same worn each = absurd may
  tallied-err done rest commands now new shown refused mid TooSmall so_far may works last counts same worn each = absurd may
  tallied-err done rest commands now new shown refused mid NotOurs so_far may works last counts same worn each = absurd may
  tallied-err done rest commands now new shown refused mid Damaged so_far may works last counts same worn each = absurd may

-- the entries that are pending still fit beside those that were shown
pub room-err : (fault : StoreFault) (now new : TableState) (commands : List Command) (shown : ℕ)
    → MayLast fault now commands new → IsTable new → shown ≡ now.entries → HasRoomFor shown (Some fault)
room-err (Device pending) now new commands shown last sound count =
    let batch : Batch = record { commands = commands; replies = last.replies; entries = last.entries } in
    omega (arith, answered-entries now batch new last.answered, last.counted, sound.entries, count)
room-err NoMemory now new commands shown last sound count = tt
room-err Worn now new commands shown last sound count = tt
room-err Failed now new commands shown last sound count = tt
room-err Exists now new commands shown last sound count = tt
room-err TooSmall now new commands shown last sound count = tt
room-err NotOurs now new commands shown last sound count = tt
room-err Damaged now new commands shown last sound count = tt

-- ---- an opened store

ArePending-length : (pending : ℕ) (failed : Option Batch) → ArePending pending failed
    → pending ≡ length (entries_of (list_of failed))
ArePending-length pending None is = absurd is
ArePending-length pending (Some batch) is = is ∙ ap length (sym (append-nil batch.entries))

none_pending : (failed : Option Batch) → failed ≡ None → 0 ≡ length (entries_of (list_of failed))
none_pending failed none = ap (λ (f : Option Batch). length (entries_of (list_of f))) (sym none)

pending-ends : (fault : Option StoreFault) (failed : Option Batch) (left : List (List Command)) (failures after : ℕ)
    → EndsWith fault failed left failures after → pending_of fault ≡ length (entries_of (list_of failed))
pending-ends None failed left failures after ends = none_pending failed ends.0
pending-ends (Some (Device pending)) failed left failures after ends = ArePending-length pending failed ends.0
pending-ends (Some NoMemory) failed left failures after ends = none_pending failed ends.0
pending-ends (Some Worn) failed left failures after ends = none_pending failed ends.0
pending-ends (Some Failed) failed left failures after ends = absurd ends
pending-ends (Some Exists) failed left failures after ends = absurd ends
pending-ends (Some TooSmall) failed left failures after ends = absurd ends
pending-ends (Some NotOurs) failed left failures after ends = absurd ends
pending-ends (Some Damaged) failed left failures after ends = absurd ends

pub served-opened : (table : TableState) (batches : List (List Command)) (submitted : Submitted) (failures : ℕ)
    (WasKept : Type 0) (now : State) (after begun : ℕ) (report : LifeReport)
    → IsTallied table batches submitted failures WasKept now after → WasKept → IsTable table → begun ≡ table.entries
    → report.opened ≡ Some begun → report.acknowledged ≡ submitted.shown - begun
    → report.accepted ≡ submitted.shown - begun + pending_of submitted.fault → report.unsent ≡ submitted.unsent
    → report.failures ≡ after → IsServed table batches failures report submitted.fault now after
served-opened table batches submitted failures WasKept now after begun report t was is_table count opened acknowledged accepted unsent counted =
    let shown = judged-entries table t.course.answered t.kept t.is_course.answered in
    let pending = pending-ends submitted.fault t.course.failed t.left failures after t.ends in
    record {
      course = t.course;
      left = t.left;
      kept = t.kept;
      accepted = t.accepted;
      is_course = t.is_course;
      how = inr (record {
        is_table = is_table;
        ends = t.ends;
        opened = opened ∙ ap (λ (n : ℕ). Some n) count;
        acknowledged = omega (arith, acknowledged, count, t.shown, shown);
        accepted = omega (arith, accepted, count, t.shown, shown, pending);
        unsent = unsent ∙ t.unsent;
        counted = counted;
      });
      worn = t.worn was;
      each = t.each was;
    }

-- ---- an opening that failed

abbrev zeros : ℕ → LifeReport
zeros failures = record { opened = None; acknowledged = 0; accepted = 0; unsent = 0; failures = failures }

-- why an opening failed where every image means a table
pub unopened : (fault : StoreFault) (failures after : ℕ) → IsOpenFault fault → IsOfTheCall fault
    → CountsFault fault failures after → EndsUnopened (Some fault) failures after
unopened (Device pending) failures after is may counts = (is, counts.0)
unopened NoMemory failures after is may counts = counts
unopened Worn failures after is may counts = absurd may
unopened Failed failures after is may counts = absurd may
unopened Exists failures after is may counts = absurd may
unopened TooSmall failures after is may counts = absurd may
unopened NotOurs failures after is may counts = absurd may
unopened Damaged failures after is may counts = absurd may

never_worn : (now : State) (entries : ℕ) (left : List (List Command)) (fault : StoreFault) (failures after : ℕ)
    → EndsUnopened (Some fault) failures after → Some fault ≡ Some Worn → IsFirstWorn now entries left
never_worn now entries left fault failures after ends is =
    absurd (subst (λ (f : Option StoreFault). EndsUnopened f failures after) is ends)

pub served-refused : (table : TableState) (batches : List (List Command)) (failures : ℕ) (fault : StoreFault)
    (now : State) (after count : ℕ) → EndsUnopened (Some fault) failures after → AllMean now table → count ≡ after
    → IsServed table batches failures (zeros count) (Some fault) now after
served-refused table batches failures fault now after count ends means counted = record {
  course = record { answered = []; failed = None };
  left = batches;
  kept = table;
  accepted = table;
  is_course = record { order = refl; answered = refl; failed = refl; some = tt };
  how = inl (record {
    ends = ends;
    answered = refl;
    failed = refl;
    opened = refl;
    acknowledged = refl;
    accepted = refl;
    unsent = refl;
    counted = counted;
  });
  worn = never_worn now table.entries batches fault failures after ends;
  each = λ image is. inl (means image is);
}

-- ---- faults, on any device

pub opening_fault : (fault : StoreFault) → IsOpenFault fault → IsLivesFault fault
opening_fault (Device pending) is = tt
opening_fault NoMemory is = tt
opening_fault NotOurs is = tt
opening_fault Damaged is = tt
opening_fault TooSmall is = tt
opening_fault Worn is = absurd is
opening_fault Failed is = absurd is
opening_fault Exists is = absurd is

pub batch_fault : (fault : StoreFault) → IsSubmitFault fault → (fault ≡ Failed → ⊥) → IsLivesFault fault
batch_fault (Device pending) is works = tt
batch_fault NoMemory is works = tt
batch_fault Worn is works = tt
batch_fault Failed is works = absurd (works refl)
batch_fault Exists is works = absurd is
batch_fault NotOurs is works = absurd is
batch_fault Damaged is works = absurd is
batch_fault TooSmall is works = absurd is

-- the count of failures never falls
pub counted-fault : (fault : StoreFault) (old new : ℕ) → CountsFault fault old new → old ≤ new
counted-fault (Device pending) old new counts = counts.1
counted-fault NoMemory old new counts = omega (arith, counts)
counted-fault Worn old new counts = omega (arith, counts)
counted-fault Failed old new counts = omega (arith, counts)
counted-fault Exists old new counts = omega (arith, counts)
counted-fault TooSmall old new counts = omega (arith, counts)
counted-fault NotOurs old new counts = omega (arith, counts)
counted-fault Damaged old new counts = omega (arith, counts)

pub counted-end : (fault : Option StoreFault) (old new : ℕ) → CountsEnd fault old new → old ≤ new
counted-end None old new counts = omega (arith, counts)
counted-end (Some fault) old new counts = counted-fault fault old new counts

-- it rises from what it was before
pub risen-fault : (fault : StoreFault) (first old new : ℕ) → first ≤ old → CountsFault fault old new → IsDevice fault
    → HasRisen first new
risen-fault (Device pending) first old new le counts is = (let risen = counts.0 in omega (arith, le, risen))
risen-fault NoMemory first old new le counts is = absurd is
risen-fault Worn first old new le counts is = absurd is
risen-fault Failed first old new le counts is = absurd is
risen-fault Exists first old new le counts is = absurd is
risen-fault TooSmall first old new le counts is = absurd is
risen-fault NotOurs first old new le counts is = absurd is
risen-fault Damaged first old new le counts is = absurd is

-- ---- what holds of each

pub EachOf-one : {A : Type 0} (P : A → Type 0) (xs : List A) (i : ℕ) (x : A) → EachOf P xs → i < length xs
    → x ≡ get_or xs i x → P x
EachOf-one P [] i x each lt is = absurd (omega arith)
EachOf-one P (y ∷ ys) zero x each lt is = subst P (sym is) each.0
EachOf-one P (y ∷ ys) (suc i) x each lt is = EachOf-one P ys i x each.1 (omega arith) is
