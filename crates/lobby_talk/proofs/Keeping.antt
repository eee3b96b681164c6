-- What is kept, by what each answer and all of them are.
use Rattle.std.proofs.Common.{◌≡◌, ◌<◌, ◌≤◌, ◌+◌, ◌-◌, ℕ, Bool, zero, suc, List, [], ◌∷◌, ◌++◌, length, get_or, take, drop, inl, inr, refl, sym, ap, ◌∙◌, subst, arith}
use Rattle.std.specs.Prelude.{if◌then◌else◌}
use Rattle.std.proofs.lemmas.Bool.{le-leb, lt-leb}
use Rattle.std.proofs.lemmas.List.{take_more}
use Rattle.std.specs.String.{string_bytes}
use Rattle.lobby_desk.specs.declared.telling.Kind.{Kind}
use Rattle.lobby_desk.specs.declared.telling.Kind.TheVariants.{Whole, Line}
use Rattle.lobby_desk.specs.declared.telling.Message.{Message}
use Rattle.lobby_talk.specs.Making.{IsOfLine, IsMade}
use Rattle.lobby_talk.specs.declared.kept_answer.KeptAnswer.{KeptAnswer}
use Rattle.lobby_talk.specs.declared.kept.KeptAnswers.{KeptAnswers}
use Rattle.lobby_talk.specs.Keeping.{AllOfLine, AreKept, HasKept, HasNone, IsOfKept, IsMadeOf, IsPut}
use Rattle.lobby_talk.specs.Keeping.{size_of, size_of_all, kept_most, shown, newest, of_others}

each_of_line : (answers : List KeptAnswer) → AllOfLine answers
each_of_line [] = tt
each_of_line (one ∷ ones) = (one.made, each_of_line ones)

pub are_kept : (kept : KeptAnswers) → AreKept kept.answers.items
are_kept kept = record { within = kept.within; each = each_of_line kept.answers.items }

-- what one of these is, is among them
pub has_kept : (answers : List KeptAnswer) (i : ℕ) (one : KeptAnswer) (text new : List ℕ) → i < length answers →
    one ≡ get_or answers i one → string_bytes one.pgn ≡ text → string_bytes one.answer ≡ new → HasKept answers text new
has_kept [] i one text new below is pgn answer = absurd (omega (arith, below))
has_kept (first ∷ answers) zero one text new below is pgn answer =
    inl (subst (λ (k : KeptAnswer). (string_bytes k.pgn ≡ text) × (string_bytes k.answer ≡ new)) is (pgn, answer))
has_kept (first ∷ answers) (suc i) one text new below is pgn answer =
    inr (has_kept answers i one text new (omega (arith, below)) is pgn answer)

-- of a text is none of some, nor one behind them
none_behind : (front : List KeptAnswer) (one : KeptAnswer) (text : List ℕ) → HasNone front text →
    ¬ (string_bytes one.pgn ≡ text) → HasNone (front ++ one ∷ []) text
none_behind [] one text none other = λ answer has. elim has [ inl here ↦ other here.0 | inr absent ↦ absent ]
none_behind (first ∷ front) one text none other = λ answer has.
    elim has [
      | inl here ↦ none answer (inl here)
      | inr more ↦ none_behind front one text (λ a h. none a (inr h)) other answer more
    ]

pub none_more : (answers : List KeptAnswer) (i : ℕ) (one : KeptAnswer) (text : List ℕ) → i < length answers →
    one ≡ get_or answers i one → ¬ (string_bytes one.pgn ≡ text) → HasNone (take i answers) text →
    HasNone (take (i + 1) answers) text
none_more answers i one text below is other none =
    subst (λ (l : List KeptAnswer). HasNone l text)
    (sym (take_more answers i one below ∙ ap (λ (k : KeptAnswer). take i answers ++ k ∷ []) (sym is)))
    (none_behind (take i answers) one text none other)

-- ---- the newest of them

pub beyond : (n size most : ℕ) → size ≡ shown n → most < size → most < n
beyond n size most is more = omega (arith, is, more)

pub inside : (n size most : ℕ) → size ≡ shown n → most ≤ kept_most → size ≤ most → n ≤ most
inside n size most is few within = omega (arith, is, few, within)

-- where they take too many bytes, the oldest goes
pub newest_less : (most : ℕ) (old new : List KeptAnswer) → most < size_of_all old →
    new ≡ take 0 old ++ drop (0 + 1) old → newest most new ≡ newest most old
newest_less most [] new more is = absurd (omega (arith, more))
newest_less most (one ∷ ones) new more is =
    let gone : newest most (one ∷ ones) ≡ newest most ones =
    ap (λ (t : Bool). if t then one ∷ ones else newest most ones) (lt-leb (size_of_all (one ∷ ones)) most more) in
    ap (λ (l : List KeptAnswer). newest most l) is ∙ sym gone

pub some_there : (most : ℕ) (old : List KeptAnswer) → most < size_of_all old → 0 < length old
some_there most [] more = absurd (omega (arith, more))
some_there most (one ∷ ones) more = omega arith

-- where they take no more, they stay
newest_all : (most : ℕ) (answers : List KeptAnswer) → size_of_all answers ≤ most → newest most answers ≡ answers
newest_all most [] within = refl
newest_all most (one ∷ ones) within =
    ap (λ (t : Bool). if t then one ∷ ones else newest most ones) (le-leb (size_of_all (one ∷ ones)) most within)

pub newest_done : (most : ℕ) (old new : List KeptAnswer) → newest most new ≡ newest most old →
    size_of_all new ≤ most → new ≡ newest most old
newest_done most old new same within = sym (newest_all most new within) ∙ same

-- ---- one more is put behind them

pub put_small : (one : KeptAnswer) (old left front new : List KeptAnswer) (most : ℕ) → size_of one ≤ kept_most →
    most ≡ kept_most - size_of one → left ≡ of_others one.game old → front ≡ newest most left →
    new ≡ front ++ one ∷ [] → IsPut one old new
put_small one old left front new most small room others fits is =
    let put = newest (kept_most - size_of one) (of_others one.game old) in
    let front_is : front ≡ put =
    fits ∙ (ap (λ (n : ℕ). newest n left) room ∙ ap (λ (l : List KeptAnswer). newest (kept_most - size_of one) l) others) in
    is ∙ (ap (λ (l : List KeptAnswer). l ++ one ∷ []) front_is
    ∙ sym (ap (λ (t : Bool). if t then put ++ one ∷ [] else newest kept_most (of_others one.game old))
    (le-leb (size_of one) kept_most small)))

pub put_large : (one : KeptAnswer) (old left new : List KeptAnswer) → kept_most < size_of one →
    left ≡ of_others one.game old → new ≡ newest kept_most left → IsPut one old new
put_large one old left new large others is =
    is ∙ (ap (λ (l : List KeptAnswer). newest kept_most l) others
    ∙ sym (ap (λ (t : Bool). if t then newest (kept_most - size_of one) (of_others one.game old) ++ one ∷ []
    else newest kept_most (of_others one.game old)) (lt-leb (size_of one) kept_most large)))

pub kept_of_line : (answers : List KeptAnswer) (text new : List ℕ) → HasKept answers text new → ∥ IsOfLine text new ∥₁
kept_of_line [] text new none_such = absurd none_such
kept_of_line (one ∷ ones) text new (inl (pgn, answer)) =
    subst (λ (t : List ℕ). ∥ IsOfLine t new ∥₁) pgn (subst (λ (a : List ℕ). ∥ IsOfLine (string_bytes one.pgn) a ∥₁) answer one.made)
kept_of_line (one ∷ ones) text new (inr more) = kept_of_line ones text new more

-- a message that is whole by one of these
pub made_by : (kept : List KeptAnswer) (told made : Message) → made.to ≡ told.to → told.kind ≡ Line → made.kind ≡ Whole →
    HasKept kept (string_bytes told.text) (string_bytes made.text) → IsMadeOf kept told made
made_by kept told made to line whole has =
    let text = string_bytes told.text in
    let new = string_bytes made.text in
    record {
      to = to;
      text = subst (λ (k : Kind). IsMade told.kind text k new) (sym whole)
          (subst (λ (k : Kind). IsMade k text Whole new) (sym line) (kept_of_line kept text new has));
      of_kept = subst (λ (k : Kind). IsOfKept kept told.kind text k new) (sym whole)
          (subst (λ (k : Kind). IsOfKept kept k text Whole new) (sym line) has);
    }

-- one whose answer none of these is waits
pub still_waits : (kept : List KeptAnswer) (told : Message) → told.kind ≡ Line →
    HasNone kept (string_bytes told.text) → IsMadeOf kept told told
still_waits kept told line none =
    let text = string_bytes told.text in
    record {
      to = refl;
      text = subst (λ (k : Kind). IsMade k text k text) (sym line) (refl, refl);
      of_kept = subst (λ (k : Kind). IsOfKept kept k text k text) (sym line) none;
    }
