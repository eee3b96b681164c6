-- What tables say of the lists that they are of, and lives one after the other.
use Rattle.std.specs.Prelude.{ℕ, zero, suc, ◌≡◌, ◌⊎◌, ◌<◌, List, [], ◌∷◌, ◌++◌, length, take, get_or, Option, Some, None, IsSome, Result, Ok, Err, IfOk}
use Rattle.std.proofs.Common.{arith, ap, sym, subst, ◌∙◌, refl, inl, inr, append_assoc}
use Rattle.std.proofs.lemmas.List.{append-nil}
use Rattle.chess_board.specs.Legal.{EachOf}
use Rattle.rec_codec.specs.declared.limits.Limits.{Limits}
use Rattle.rec_codec.specs.declared.limits.Version.TheVariants.{Two}
use Rattle.rec_codec.specs.Limits.{IsInRange}
use Rattle.rec_codec.specs.declared.record.Entry.{Entry}
use Rattle.sector_dev.specs.Image.{Sectors}
use Rattle.sector_dev.specs.Device.{State, HasRisen}
use Rattle.chess_entry.specs.declared.commands.Command.{Command}
use Rattle.chess_entry.specs.State.{GameState, TableState}
use Rattle.chess_entry.specs.Games.{table_of}
use Rattle.chess_entry.specs.Lawful.{IsLawful}
use Rattle.chess_entry.specs.Table.{IsOnTable}
use Rattle.chess_table.proofs.StoredLemmas.{limits_same}
use Rattle.chess_store.specs.declared.fault.StoreFault.{StoreFault}
use Rattle.chess_store.specs.declared.fault.StoreFault.TheVariants.{Exists, TooSmall, NotOurs, Damaged, Device, NoMemory, Worn, Failed}
use Rattle.chess_store.specs.Batch.{IsAnswered}
use Rattle.chess_store.specs.Faults.{IsDevice}
use Rattle.chess_store.specs.Means.{Means, MeansEither, AllMean}
use Rattle.chess_store.proofs.BatchLemmas.{answered_comes}
use Rattle.chess_store.specs.declared.plan.Life.{Life}
use Rattle.chess_store.specs.declared.plan.LifeReport.{LifeReport}
use Rattle.chess_store.specs.declared.plan.Report.{Report}
use Rattle.chess_store.specs.Courses.{Batch, Course, IsCourse, IsLeft, AreJudged, acknowledged, accepted, entries_of, list_of}
use Rattle.chess_store.specs.Lives.{HasFailed, EndsBy, IsLife, IsLifeThen, AreLives, IsBegun, IsReport, HasLegalMoves, batches_of}
use Rattle.chess_store.specs.Stops.{IsReturned, IsPendingOf, IsFirstWorn, IsStopped, IsCutShort, MeansLeft, first_batches, IsFirstUnarmed}
use Rattle.chess_store.specs.Serving.{AreJudgedOn, ArePending, IsCourseOn, EndsWith, EndsUnopened, WasRefused, WasOpened, IsServed, IsShown, CountsEnd, returned}
use Rattle.chess_store.proofs.LawfulEntries.{Gives, Gives-more}

-- ---- the limits that an image names are in range

pub Means-in_range : (image : Sectors) (table : TableState) → Means image table → IsInRange Two table.limits
Means-in_range image table m =
    subst (λ (limits : Limits). IsInRange Two limits)
    (sym (ap (λ (t : TableState). t.limits) m.means.is ∙ limits_same m.means.snapshot m.means.list))
    m.means.bounds.limits

-- ---- batches that are judged on the table of a list

pub record AreGiven (limits : Limits) (k : List Entry) (batches : List Batch) (after : TableState) : Type 0 where
  pub judged : AreJudged limits k batches
  pub gives : Gives limits (k ++ entries_of batches) after

are_given : (limits : Limits) (k : List Entry) (batches : List Batch) (before after : TableState) → IsInRange Two limits
    → Gives limits k before → AreJudgedOn before batches after → AreGiven limits k batches after
are_given limits k [] before after in_range gives same = record {
  judged = tt;
  gives = subst (λ (all : List Entry). Gives limits all after) (sym (append-nil k))
      (subst (λ (t : TableState). Gives limits k t) (sym same) gives);
}
are_given limits k (batch ∷ batches) before after in_range gives judged =
    let come = answered_comes batch.commands before batch.replies batch.entries judged.between judged.first in
    let next : Gives limits (k ++ batch.entries) judged.between =
    subst (λ (t : TableState). Gives limits (k ++ batch.entries) t) (sym come.is)
    (Gives-more limits k batch.entries before in_range gives come.entered) in
    let first : IsAnswered (table_of limits k) batch.commands batch.replies batch.entries
    (table_of limits (k ++ batch.entries)) =
    subst (λ (t : TableState). IsAnswered t batch.commands batch.replies batch.entries
    (table_of limits (k ++ batch.entries))) gives.is
    (subst (λ (t : TableState). IsAnswered before batch.commands batch.replies batch.entries t) next.is
    judged.first) in
    let rest = are_given limits (k ++ batch.entries) batches judged.between after in_range next judged.rest in
    record {
      judged = (first, rest.judged);
      gives = subst (λ (all : List Entry). Gives limits all after)
          (append_assoc k batch.entries (entries_of batches)) rest.gives;
    }

-- a course on a table, as one on the list of which it is the table
record IsGivenCourse (limits : Limits) (k : List Entry) (batches : List (List Command)) (course : Course)
    (left : List (List Command)) (tabled entered : TableState) : Type 0 where
  is_course : IsCourse limits k batches course left
  answered : Gives limits (acknowledged k course) tabled
  all : Gives limits (accepted k course) entered

given_course : (limits : Limits) (k : List Entry) (batches : List (List Command)) (course : Course)
    (left : List (List Command)) (kept entered : TableState) → IsInRange Two limits → IsLawful limits k
    → IsCourseOn (table_of limits k) batches course left kept entered
    → IsGivenCourse limits k batches course left kept entered
given_course limits k batches course left kept entered in_range lawful on =
    let answered = are_given limits k course.answered (table_of limits k) kept in_range
    (record { lawful = lawful; is = refl }) on.answered in
    let failed = are_given limits (acknowledged k course) (list_of course.failed) kept entered in_range answered.gives
    on.failed in
    record {
      is_course = record { order = on.order; answered = answered.judged; failed = failed.judged; some = on.some };
      answered = answered.gives;
      all = failed.gives;
    }

what_is_left : (limits : Limits) (k : List Entry) (batches : List (List Command)) (course : Course)
    (left : List (List Command)) (kept entered : TableState) (image : Sectors)
    → IsGivenCourse limits k batches course left kept entered → MeansEither kept entered image
    → MeansLeft limits k course image
what_is_left limits k batches course left kept entered image given (inl means) = record {
  next = acknowledged k course;
  is_left = inl refl;
  lawful = given.answered.lawful;
  means = subst (λ (t : TableState). Means image t) given.answered.is means;
}
what_is_left limits k batches course left kept entered image given (inr means) = record {
  next = accepted k course;
  is_left = inr refl;
  lawful = given.all.lawful;
  means = subst (λ (t : TableState). Means image t) given.all.is means;
}

-- ---- why a life ends

-- it is the fault that ended the life, and the device's only where its calls were not limited
pub record IsPassedOn (calls : Option ℕ) (fault : Option StoreFault) (f : StoreFault) : Type 0 where
  pub is : fault ≡ Some f
  pub unarmed : IsDevice f → calls ≡ None

never_device : (x f : StoreFault) → (IsDevice x → ⊥) → Some x ≡ Some f → IsDevice f → ⊥
never_device x f never is device =
    let same : f ≡ x = cc in
    never (subst (λ (y : StoreFault). IsDevice y) same device)

passed_as : (n : ℕ) (x f : StoreFault) → (IsDevice x → ⊥) → Some x ≡ Some f → IsPassedOn (Some n) (Some x) f
passed_as n x f never is = record { is = is; unarmed = λ device. absurd (never_device x f never is device) }

pub passed_on : (calls : Option ℕ) (fault : Option StoreFault) (f : StoreFault) → returned calls fault ≡ Some f
    → IsPassedOn calls fault f
passed_on None None f is = absurd (cc)
passed_on (Some n) None f is = absurd (cc)
passed_on None (Some x) f is = record { is = is; unarmed = λ device. refl }
passed_on (Some n) (Some (Device pending)) f is = absurd (cc)
passed_on (Some n) (Some NoMemory) f is = passed_as n NoMemory f (λ none. none) is
passed_on (Some n) (Some Worn) f is = passed_as n Worn f (λ none. none) is
passed_on (Some n) (Some Failed) f is = passed_as n Failed f (λ none. none) is
passed_on (Some n) (Some Exists) f is = passed_as n Exists f (λ none. none) is
passed_on (Some n) (Some TooSmall) f is = passed_as n TooSmall f (λ none. none) is
passed_on (Some n) (Some NotOurs) f is = passed_as n NotOurs f (λ none. none) is
passed_on (Some n) (Some Damaged) f is = passed_as n Damaged f (λ none. none) is

pending_is : (pending : ℕ) (answered : List Batch) (failed : Option Batch) → ArePending pending failed
    → IsPendingOf pending answered failed
pending_is pending answered None are = absurd are
pending_is pending answered (Some batch) are = are

-- a store was opened, and a batch failed
returned-opened : (f : StoreFault) (IsUnarmed IsWorn : Type 0) (course : Course) (left : List (List Command))
    (failures after : ℕ) → EndsWith (Some f) course.failed left failures after → (IsDevice f → IsUnarmed)
    → (f ≡ Worn → IsWorn) → IsReturned f IsUnarmed IsWorn course failures after
returned-opened (Device pending) IsUnarmed IsWorn course left failures after ends unarmed worn =
    (unarmed tt, pending_is pending course.answered course.failed ends.0, ends.1)
returned-opened NoMemory IsUnarmed IsWorn course left failures after ends unarmed worn = ends
returned-opened Worn IsUnarmed IsWorn course left failures after ends unarmed worn = (ends.0, worn refl, ends.1)
returned-opened Failed IsUnarmed IsWorn course left failures after ends unarmed worn = absurd ends
returned-opened Exists IsUnarmed IsWorn course left failures after ends unarmed worn = absurd ends
returned-opened TooSmall IsUnarmed IsWorn course left failures after ends unarmed worn = absurd ends
returned-opened NotOurs IsUnarmed IsWorn course left failures after ends unarmed worn = absurd ends
returned-opened Damaged IsUnarmed IsWorn course left failures after ends unarmed worn = absurd ends

-- none was opened
returned-refused : (f : StoreFault) (IsUnarmed IsWorn : Type 0) (course : Course) (failures after : ℕ)
    → EndsUnopened (Some f) failures after → (IsDevice f → IsUnarmed) → course.answered ≡ [] → course.failed ≡ None
    → IsReturned f IsUnarmed IsWorn course failures after
returned-refused (Device pending) IsUnarmed IsWorn course failures after ends unarmed answered failed = (
  unarmed tt,
  subst (λ (b : Option Batch). IsPendingOf pending course.answered b) (sym failed) (ends.0, answered),
  ends.1,
)
returned-refused NoMemory IsUnarmed IsWorn course failures after ends unarmed answered failed = (failed, ends)
returned-refused Worn IsUnarmed IsWorn course failures after ends unarmed answered failed = absurd ends
returned-refused Failed IsUnarmed IsWorn course failures after ends unarmed answered failed = absurd ends
returned-refused Exists IsUnarmed IsWorn course failures after ends unarmed answered failed = absurd ends
returned-refused TooSmall IsUnarmed IsWorn course failures after ends unarmed answered failed = absurd ends
returned-refused NotOurs IsUnarmed IsWorn course failures after ends unarmed answered failed = absurd ends
returned-refused Damaged IsUnarmed IsWorn course failures after ends unarmed answered failed = absurd ends

returned-some : (table : TableState) (k : List Entry) (course : Course) (left : List (List Command))
    (report : LifeReport) (calls : Option ℕ) (fault : Option StoreFault) (f : StoreFault) (now : State)
    (failures after : ℕ) → returned calls fault ≡ Some f
    → (fault ≡ Some Worn → IsFirstWorn now (length (acknowledged k course)) left)
    → WasRefused course report fault failures after ⊎ WasOpened table course left report fault failures after
    → IsReturned f (calls ≡ None) (IsFirstWorn now (length (acknowledged k course)) left) course failures after
returned-some table k course left report calls fault f now failures after is worn (inl refused) =
    let passed = passed_on calls fault f is in
    returned-refused f (calls ≡ None) (IsFirstWorn now (length (acknowledged k course)) left) course failures after
    (subst (λ (x : Option StoreFault). EndsUnopened x failures after) passed.is refused.ends) passed.unarmed
    refused.answered refused.failed
returned-some table k course left report calls fault f now failures after is worn (inr opened) =
    let passed = passed_on calls fault f is in
    returned-opened f (calls ≡ None) (IsFirstWorn now (length (acknowledged k course)) left) course left failures after
    (subst (λ (x : Option StoreFault). EndsWith x course.failed left failures after) passed.is opened.ends)
    passed.unarmed (λ same. worn (passed.is ∙ ap (λ (x : StoreFault). Some x) same))

-- no fault, or the device's where its calls were limited
record IsStop (calls : Option ℕ) (fault : Option StoreFault) : Type 0 where
  armed : IsSome calls
  pending : ℕ
  is : fault ≡ Some (Device pending)

returned-none : (calls : Option ℕ) (fault : Option StoreFault) → returned calls fault ≡ None
    → (fault ≡ None) ⊎ IsStop calls fault
returned-none calls None is = inl refl
returned-none None (Some fault) is = absurd (cc)
returned-none (Some n) (Some (Device pending)) is = inr (record { armed = refl; pending = pending; is = refl })
returned-none (Some n) (Some NoMemory) is = absurd (cc)
returned-none (Some n) (Some Worn) is = absurd (cc)
returned-none (Some n) (Some Failed) is = absurd (cc)
returned-none (Some n) (Some Exists) is = absurd (cc)
returned-none (Some n) (Some TooSmall) is = absurd (cc)
returned-none (Some n) (Some NotOurs) is = absurd (cc)
returned-none (Some n) (Some Damaged) is = absurd (cc)

-- it has failed, where the store was not opened
pub failed_unopened : (calls : Option ℕ) (fault : Option StoreFault) (failures after : ℕ) → returned calls fault ≡ None → IsSome fault
    → CountsEnd fault failures after → HasRisen failures after
failed_unopened calls fault failures after is some counts =
    elim (returned-none calls fault is) [
      | inl none ↦ absurd (cc)
      | inr stop ↦ (subst (λ (f : Option StoreFault). CountsEnd f failures after) stop.is counts).0
    ]

-- and its calls were limited
pub armed_unopened : (calls : Option ℕ) (fault : Option StoreFault) → returned calls fault ≡ None → IsSome fault
    → IsSome calls
armed_unopened calls fault is some =
    elim (returned-none calls fault is) [
      | inl none ↦ absurd (cc)
      | inr stop ↦ stop.armed
    ]

fails_at : (life : Life) (failures after pending : ℕ) (failed : Option Batch) (left : List (List Command))
    → IsSome life.calls → ArePending pending failed → HasRisen failures after → EndsBy life failures after failed left
fails_at life failures after pending None left armed are risen = absurd are
fails_at life failures after pending (Some batch) left armed are risen = record { armed = armed; risen = risen }

ends_by : (life : Life) (fault : Option StoreFault) (failed : Option Batch) (left : List (List Command))
    (failures after : ℕ) → (fault ≡ None) ⊎ IsStop life.calls fault → EndsWith fault failed left failures after
    → EndsBy life failures after failed left
ends_by life fault failed left failures after (inl none) ends =
    let e = subst (λ (f : Option StoreFault). EndsWith f failed left failures after) none ends in
    subst (λ (f : Option Batch). EndsBy life failures after f left) (sym e.0) (e.1, e.2)
ends_by life fault failed left failures after (inr stop) ends =
    let e = subst (λ (f : Option StoreFault). EndsWith f failed left failures after) stop.is ends in
    fails_at life failures after stop.pending failed left stop.armed e.0 e.1

fails_opening : (life : Life) (fault : Option StoreFault) (failures after : ℕ)
    → (fault ≡ None) ⊎ IsStop life.calls fault → EndsUnopened fault failures after → HasFailed life failures after
fails_opening life fault failures after (inl none) ends =
    absurd (subst (λ (f : Option StoreFault). EndsUnopened f failures after) none ends)
fails_opening life fault failures after (inr stop) ends = record {
  armed = stop.armed;
  risen = (subst (λ (f : Option StoreFault). EndsUnopened f failures after) stop.is ends).1;
}

-- ---- one life

-- the games of a table are of legal moves
are_legal : (table : TableState) (games : List GameState) → EachOf (IsOnTable table) games
    → EachOf HasLegalMoves games
are_legal table [] each = tt
are_legal table (game ∷ games) each = (each.0.game.played.line.legal, are_legal table games each.1)

-- a life at whose end a crash left this image
pub record IsLivedTo (limits : Limits) (k : List Entry) (failures : ℕ) (life : Life) (report : LifeReport) (after : ℕ)
    (image : Sectors) : Type 0 where
  pub next : List Entry
  pub life_is : IsLife limits k failures life report next after
  pub lawful : IsLawful limits next
  pub means : Means image (table_of limits next)

-- where no batch was submitted, nothing else is left than what was kept
nothing_left : (k : List Entry) (course : Course) (next : List Entry) → course.answered ≡ [] → course.failed ≡ None
    → IsLeft k course next → next ≡ k
nothing_left k course next answered failed is =
    let first : acknowledged k course ≡ k =
    ap (λ (bs : List Batch). k ++ entries_of bs) answered ∙ append-nil k in
    let both : accepted k course ≡ acknowledged k course =
    ap (λ (f : Option Batch). acknowledged k course ++ entries_of (list_of f)) failed
    ∙ append-nil (acknowledged k course) in
    elim is [ inl one ↦ one ∙ first | inr other ↦ other ∙ both ∙ first ]

is_life : (limits : Limits) (k : List Entry) (failures : ℕ) (life : Life) (report : LifeReport)
    (fault : Option StoreFault) (course : Course) (left : List (List Command)) (next : List Entry) (after : ℕ)
    → (fault ≡ None) ⊎ IsStop life.calls fault → IsLawful limits k → IsCourse limits k (batches_of life) course left
    → IsLeft k course next
    → WasRefused course report fault failures after ⊎ WasOpened (table_of limits k) course left report fault failures after
    → IsLife limits k failures life report next after
is_life limits k failures life report fault course left next after stop lawful is_course is_left (inl refused) = inl (record {
  failed = fails_opening life fault failures after stop refused.ends;
  opened = refused.opened;
  acknowledged = refused.acknowledged;
  accepted = refused.accepted;
  unsent = refused.unsent;
  counted = refused.counted;
  kept = nothing_left k course next refused.answered refused.failed is_left;
})
is_life limits k failures life report fault course left next after stop lawful is_course is_left (inr opened) = inr (record {
  lawful = lawful;
  legal = are_legal (table_of limits k) (table_of limits k).games opened.is_table.games;
  course = course;
  left = left;
  is_course = is_course;
  ends = ends_by life fault course.failed left failures after stop opened.ends;
  opened = opened.opened;
  acknowledged = opened.acknowledged;
  accepted = opened.accepted;
  unsent = opened.unsent;
  counted = opened.counted;
  kept = is_left;
})

pub lived_to : (limits : Limits) (k : List Entry) (failures : ℕ) (life : Life) (report : LifeReport)
    (fault : Option StoreFault) (now : State) (after : ℕ) (image : Sectors) → IsInRange Two limits → IsLawful limits k
    → IsServed (table_of limits k) (batches_of life) failures report fault now after
    → returned life.calls fault ≡ None → now.image image → IsLivedTo limits k failures life report after image
lived_to limits k failures life report fault now after image in_range lawful served none possible =
    let given = given_course limits k (batches_of life) served.course served.left served.kept served.accepted in_range
    lawful served.is_course in
    let kept = what_is_left limits k (batches_of life) served.course served.left served.kept served.accepted image given
    (served.each image possible) in
    record {
      next = kept.next;
      life_is = is_life limits k failures life report fault served.course served.left kept.next after
          (returned-none life.calls fault none) lawful given.is_course kept.is_left served.how;
      lawful = kept.lawful;
      means = kept.means;
    }

pub life_stopped : (limits : Limits) (k : List Entry) (failures : ℕ) (life : Life) (report : LifeReport)
    (fault : Option StoreFault) (f : StoreFault) (now : State) (after : ℕ) → IsInRange Two limits → IsLawful limits k
    → IsServed (table_of limits k) (batches_of life) failures report fault now after
    → returned life.calls fault ≡ Some f → IsStopped limits k failures (life ∷ []) f now after
life_stopped limits k failures life report fault f now after in_range lawful served some =
    let given = given_course limits k (batches_of life) served.course served.left served.kept served.accepted in_range
    lawful served.is_course in
    record {
      course = served.course;
      left = served.left;
      is_course = given.is_course;
      returned = returned-some (table_of limits k) k served.course served.left report life.calls fault f now failures
          after some
          (λ worn. subst (λ (n : ℕ). IsFirstWorn now n served.left)
          (ap (λ (t : TableState). t.entries) given.answered.is) (served.worn worn)) served.how;
      each = λ image possible.
          what_is_left limits k (batches_of life) served.course served.left served.kept served.accepted image given
          (served.each image possible);
    }

-- ---- lives

-- some lives are over, and the next one begins
pub record AreOver (limits : Limits) (k : List Entry) (failures : ℕ) (over : List Life) (reports : List LifeReport)
    (now : State) (after : ℕ) : Type 0 where
  pub last : List Entry
  pub are_lives : AreLives limits k failures over reports last after
  pub begun : IsBegun limits last now

AreLives-more : (limits : Limits) (k : List Entry) (failures : ℕ) (over : List Life) (reports : List LifeReport)
    (last : List Entry) (count : ℕ) (life : Life) (report : LifeReport) (next : List Entry) (after : ℕ)
    → AreLives limits k failures over reports last count → IsLife limits last count life report next after
    → AreLives limits k failures (over ++ life ∷ []) (reports ++ report ∷ []) next after
AreLives-more limits k failures [] [] last count life report next after same is = record {
  next = next;
  after = after;
  first = subst (λ (n : ℕ). IsLife limits k n life report next after) same.1
      (subst (λ (es : List Entry). IsLife limits es count life report next after) same.0 is);
  rest = (refl, refl);
}
AreLives-more limits k failures [] (r ∷ reports) last count life report next after are is = absurd are
AreLives-more limits k failures (l ∷ over) [] last count life report next after are is = absurd are
AreLives-more limits k failures (l ∷ over) (r ∷ reports) last count life report next after are is = record {
  next = are.next;
  after = are.after;
  first = are.first;
  rest = AreLives-more limits are.next are.after over reports last count life report next after are.rest is;
}

pub are_over-none : (limits : Limits) (k : List Entry) (failures : ℕ) (now : State) → IsBegun limits k now
    → AreOver limits k failures [] [] now failures
are_over-none limits k failures now begun = record { last = k; are_lives = (refl, refl); begun = begun }

pub are_over-more : (limits : Limits) (k : List Entry) (failures : ℕ) (over : List Life) (reports : List LifeReport)
    (now new : State) (count after : ℕ) (life : Life) (report : LifeReport)
    → (so_far : AreOver limits k failures over reports now count)
    → IsLifeThen limits (λ next n. IsBegun limits next new × (n ≡ after)) so_far.last count life report
    → AreOver limits k failures (over ++ life ∷ []) (reports ++ report ∷ []) new after
are_over-more limits k failures over reports now new count after life report so_far then = record {
  last = then.next;
  are_lives = AreLives-more limits k failures over reports so_far.last count life report then.next after
      so_far.are_lives
      (subst (λ (n : ℕ). IsLife limits so_far.last count life report then.next n) then.rest.1 then.first);
  begun = then.rest.0;
}

-- a fault that was returned at the start of a life, before any batch, or in the last opening
stopped_at_start : (limits : Limits) (k : List Entry) (failures : ℕ) (lives : List Life) (fault : StoreFault)
    (now : State) (after : ℕ) → EndsUnopened (Some fault) failures after → (IsDevice fault → IsFirstUnarmed lives)
    → IsLawful limits k → AllMean now (table_of limits k) → IsStopped limits k failures lives fault now after
stopped_at_start limits k failures lives fault now after ends unarmed lawful means =
    let course : Course = record { answered = []; failed = None } in
    record {
      course = course;
      left = first_batches lives;
      is_course = record { order = refl; answered = tt; failed = tt; some = tt };
      returned = returned-refused fault (IsFirstUnarmed lives)
          (IsFirstWorn now (length (acknowledged k course)) (first_batches lives)) course failures after ends
          unarmed refl refl;
      each = λ image possible. record {
        next = acknowledged k course;
        is_left = inl refl;
        lawful = subst (λ (es : List Entry). IsLawful limits es) (sym (append-nil k)) lawful;
        means = subst (λ (es : List Entry). Means image (table_of limits es)) (sym (append-nil k))
            (means image possible);
      };
    }

-- the fault of one life is that of it with others behind it
stopped_before : (limits : Limits) (k : List Entry) (failures : ℕ) (life : Life) (others : List Life)
    (fault : StoreFault) (now : State) (after : ℕ) → IsStopped limits k failures (life ∷ []) fault now after
    → IsStopped limits k failures (life ∷ others) fault now after
stopped_before limits k failures life others fault now after stopped = record {
  course = stopped.course;
  left = stopped.left;
  is_course = stopped.is_course;
  returned = stopped.returned;
  each = stopped.each;
}

-- it was returned after some lives
pub cut_short : (limits : Limits) (k : List Entry) (failures : ℕ) (lives over others : List Life)
    (reports : List LifeReport) (now new : State) (count after : ℕ) (life : Life) (fault : StoreFault)
    → (so_far : AreOver limits k failures over reports now count) → lives ≡ over ++ life ∷ others
    → IsStopped limits so_far.last count (life ∷ []) fault new after
    → IsCutShort limits k failures lives fault new after
cut_short limits k failures lives over others reports now new count after life fault so_far order stopped = record {
  over = over;
  others = life ∷ others;
  order = order;
  reports = reports;
  last = so_far.last;
  count = count;
  are_lives = so_far.are_lives;
  stopped = stopped_before limits so_far.last count life others fault new after stopped;
}

-- it was returned before the first life
pub cut_at_start : (limits : Limits) (k : List Entry) (failures : ℕ) (lives : List Life) (now : State)
    → IsBegun limits k now → IsCutShort limits k failures lives NoMemory now failures
cut_at_start limits k failures lives now begun = record {
  over = [];
  others = lives;
  order = refl;
  reports = [];
  last = k;
  count = failures;
  are_lives = (refl, refl);
  stopped = stopped_at_start limits k failures lives NoMemory now failures refl (λ device. absurd device)
      begun.lawful begun.means;
}

-- it was returned by the last opening
pub cut_at_end : (limits : Limits) (k : List Entry) (failures : ℕ) (lives : List Life) (reports : List LifeReport)
    (now new : State) (count after : ℕ) (fault : StoreFault)
    → (so_far : AreOver limits k failures lives reports now count) → AllMean new (table_of limits so_far.last)
    → EndsUnopened (Some fault) count after → IsCutShort limits k failures lives fault new after
cut_at_end limits k failures lives reports now new count after fault so_far means ends = record {
  over = lives;
  others = [];
  order = sym (append-nil lives);
  reports = reports;
  last = so_far.last;
  count = count;
  are_lives = so_far.are_lives;
  stopped = stopped_at_start limits so_far.last count [] fault new after ends (λ device. tt)
      so_far.begun.lawful means;
}

-- what the last opening shows is the report of the lives
pub is_report : (limits : Limits) (k : List Entry) (failures : ℕ) (lives : List Life) (reports : List LifeReport)
    (now : State) (count after : ℕ) (report : Report) → (so_far : AreOver limits k failures lives reports now count)
    → IsShown (table_of limits so_far.last) count report.table report.kept after → report.lives.items ≡ reports
    → IsReport limits k failures lives report after
is_report limits k failures lives reports now count after report so_far shown same = record {
  last = so_far.last;
  are_lives =
      subst (λ (n : ℕ). AreLives limits k failures lives report.lives.items so_far.last n) (sym shown.unfailed)
      (subst (λ (rs : List LifeReport). AreLives limits k failures lives rs so_far.last count) (sym same)
      so_far.are_lives);
  kept = shown.count;
  shown = shown.same;
  lawful = so_far.begun.lawful;
  legal = are_legal report.table report.table.games shown.is_table.games;
}

-- ---- results, and lists at an index

pub IfOk-both : {T E : Type 0} (r : Result T E) (P Q R : T → Type 0) → IfOk r P → IfOk r Q
    → ((x : T) → P x → Q x → R x) → IfOk r R
IfOk-both (Ok x) P Q R p q both = both x p q
IfOk-both (Err e) P Q R p q both = tt

pub around-one : {A : Type 0} (xs : List A) (i : ℕ) (x : A) → i < length xs → x ≡ get_or xs i x
    → (rest : List A) × (xs ≡ take i xs ++ x ∷ rest)
around-one [] i x lt is = absurd (omega arith)
around-one {A = A} (y ∷ ys) zero x lt is = (ys, ap (λ (z : A). z ∷ ys) (sym is))
around-one {A = A} (y ∷ ys) (suc i) x lt is =
    let more = around-one ys i x (omega arith) is in
    (more.0, ap (λ (zs : List A). y ∷ zs) more.1)
