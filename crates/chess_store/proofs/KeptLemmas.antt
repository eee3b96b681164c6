-- What was kept stays kept.
use Rattle.std.specs.Prelude.{ℕ, List, [], ◌∷◌, ◌++◌}
use Rattle.std.proofs.Common.{ap, sym, ◌∙◌, refl, inl, inr, append_assoc}
use Rattle.std.proofs.lemmas.List.{append-nil}
use Rattle.rec_codec.specs.declared.limits.Limits.{Limits}
use Rattle.rec_codec.specs.declared.record.Entry.{Entry}
use Rattle.chess_store.specs.declared.plan.Life.{Life}
use Rattle.chess_store.specs.declared.plan.LifeReport.{LifeReport}
use Rattle.chess_store.specs.Courses.{Course, IsLeft, acknowledged, entries_of, list_of}
use Rattle.chess_store.specs.Lives.{IsLife, AreLives}
use Rattle.chess_store.specs.Laws.{BeginsWith}

begins_then : (k front whole : List Entry) → BeginsWith k front → BeginsWith front whole → BeginsWith k whole
begins_then k front whole one more = record {
  rest = one.rest ++ more.rest;
  is = more.is ∙ ap (λ (es : List Entry). es ++ more.rest) one.is ∙ append_assoc k one.rest more.rest;
}

pub stop_begins : (k next : List Entry) (course : Course) → IsLeft k course next
    → BeginsWith (acknowledged k course) next
stop_begins k next course (inl is) = record { rest = []; is = is ∙ sym (append-nil (acknowledged k course)) }
stop_begins k next course (inr is) = record { rest = entries_of (list_of course.failed); is = is }

life_begins : (limits : Limits) (k next : List Entry) (failures after : ℕ) (life : Life) (report : LifeReport)
    → IsLife limits k failures life report next after → BeginsWith k next
life_begins limits k next failures after life report (inl unopened) =
    record { rest = []; is = unopened.kept ∙ sym (append-nil k) }
life_begins limits k next failures after life report (inr opened) =
    begins_then k (acknowledged k opened.course) next
    (let front : BeginsWith k (acknowledged k opened.course) =
    record { rest = entries_of opened.course.answered; is = refl } in front)
    (stop_begins k next opened.course opened.kept)

pub lives_begin : (limits : Limits) (k last : List Entry) (failures after : ℕ) (lives : List Life)
    (reports : List LifeReport) → AreLives limits k failures lives reports last after → BeginsWith k last
lives_begin limits k last failures after [] [] are = record { rest = []; is = are.0 ∙ sym (append-nil k) }
lives_begin limits k last failures after [] (report ∷ reports) are = absurd are
lives_begin limits k last failures after (life ∷ lives) [] are = absurd are
lives_begin limits k last failures after (life ∷ lives) (report ∷ reports) are =
    begins_then k are.next last (life_begins limits k are.next failures are.after life report are.first)
    (lives_begin limits are.next last are.after after lives reports are.rest)
