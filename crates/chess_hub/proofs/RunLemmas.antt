-- A run over a hub with one session.
use Rattle.std.proofs.Common.{◌≡◌, ℕ, suc, ◌≤◌, List, [], ◌∷◌, ◌++◌, sym, refl, ap, ◌∙◌, subst, arith, Option, None, Some, IfSome, Result, Ok, Err, inl, inr}
use Rattle.std.specs.Prelude.{◌⊎◌, Bool, option_map, is_some, count_by, IsErrOf, OnOk, slice_index_or}
use Rattle.std.specs.Io.KnownBytes.{Appends}
use Rattle.slab.specs.Slab.{get}
use Rattle.sector_dev.specs.Device.{State, measures}
use Rattle.chess_hub.specs.declared.sessions.Session.{Session}
use Rattle.chess_hub.specs.declared.sessions.Sessions.{Sessions}
use Rattle.chess_hub.specs.Session.{shown, session_at, session_count}
use Rattle.text_lines.specs.declared.answerer.LoopFault.{LoopFault}
use Rattle.text_lines.specs.declared.answerer.LoopFault.TheVariants as loop
use Rattle.text_lines.specs.Texts.{IsRun, IsText, AnswersAll, FindsNone, IsOfSource, Ended, Streams, streams}
use Rattle.chess_hub.specs.declared.fault.HubFault.{HubFault}
use Rattle.chess_hub.specs.declared.fault.HubFault.TheVariants.{Busy, NoMemory, LineTooLong, Store as OfStore}
use Rattle.chess_hub.specs.declared.running.RunFault.{RunFault}
use Rattle.chess_hub.specs.declared.running.RunFault.TheVariants as faults
use Rattle.chess_hub.specs.Faults.{IsConnectFault}
use Rattle.chess_hub.specs.Running.{Standing, stands, AnswersLine, RefusesLine, of_loop, IsRunText, RunsOn, RunEnds, RunIsOfSource}
use Rattle.chess_hub.specs.Turning.{Kept}

-- ---- the same, seen through a map of states

module _ {S T : Type 0} (A : S → List ℕ → List ℕ → S → Type 0) (B : T → List ℕ → List ℕ → T → Type 0) (f : S → T)
    (m : (s : S) (line text : List ℕ) (t : S) → A s line text t → B (f s) line text (f t)) where
  run-map : (s : S) (lines : List (List ℕ)) (text : List ℕ) (t : S) → IsRun A s lines text t →
      IsRun B (f s) lines text (f t)
  run-map s [] text t (none, same) = (none, ap f same)
  run-map s (line ∷ lines) text t (answer, between, more, first, rest, whole) =
      (answer, f between, more, m s line answer between first, run-map between lines more t rest, whole)

  pub text-map : (s : S) (input text : List ℕ) (t : S) → IsText A s input text t → IsText B (f s) input text (f t)
  text-map s input text t h = record {
    answers = h.answers;
    run = run-map s _ h.answers t h.run;
    whole = h.whole;
  }

  all-map : (old new : Streams) (s t : S) → AnswersAll A old new s t → AnswersAll B old new (f s) (f t)
  all-map old new s t h = record {
    taken = h.taken;
    consumed = h.consumed;
    text = h.text;
    is = text-map s h.taken h.text t h.is;
    appended = h.appended;
    short = h.short;
  }

  module _ {F : Type 0} (C : S → List ℕ → F → S → Type 0) (D : T → List ℕ → F → T → Type 0)
      (n : (s : S) (line : List ℕ) (fault : F) (t : S) → C s line fault t → D (f s) line fault (f t)) where
    last-map : (left : List (List ℕ)) (mid end : S) → (end ≡ mid) ⊎ FindsNone C left mid end →
        (f end ≡ f mid) ⊎ FindsNone D left (f mid) (f end)
    last-map left mid end (inl same) = inl (ap f same)
    last-map left mid end (inr finds) = inr (record {
      line = finds.line;
      left = finds.left;
      split = finds.split;
      fault = finds.fault;
      breaks = n mid finds.line finds.fault end finds.breaks;
    })

    pub ended-map : (result : Result (Unit {0}) (LoopFault F)) (old new : Streams) (s t : S) →
        Ended A C result old new s t → Ended B D result old new (f s) (f t)
    ended-map (Ok done) old new s t h = all-map old new s t h
    ended-map (Err loop.Read) old new s t h = all-map old new s t h
    ended-map (Err loop.Write) old new s t h = record {
      taken = h.taken;
      consumed = h.consumed;
      done = h.done;
      left = h.left;
      lines = h.lines;
      answers = h.answers;
      mid = f h.mid;
      run = run-map s h.done h.answers h.mid h.run;
      last = last-map h.left h.mid t h.last;
      is_long = h.is_long;
      long = h.long;
      front = h.front;
      lost = h.lost;
      text = h.text;
      some = h.some;
      appended = h.appended;
    }
    ended-map (Err loop.LineTooLong) old new s t h = record {
      taken = h.taken;
      consumed = h.consumed;
      text = h.text;
      is = λ more. text-map s (h.taken ++ more) h.text t (h.is more);
      appended = h.appended;
      long = h.long;
    }
    ended-map (Err (loop.Unanswered fault)) old new s t h = record {
      taken = h.taken;
      consumed = h.consumed;
      done = h.done;
      line = h.line;
      left = h.left;
      lines = h.lines;
      answers = h.answers;
      mid = f h.mid;
      run = run-map s h.done h.answers h.mid h.run;
      breaks = n h.mid h.line fault t h.breaks;
      appended = h.appended;
    }

-- ---- the run's own words

pub stands-is : {D M : Type 0} (a b : Kept D) (x y : Option (List ℕ)) (moments : M) → a ≡ b → x ≡ y →
    stands a x moments ≡ stands b y moments
stands-is a b x y moments e f = ap (λ (s : Kept _). stands s x moments) e
    ∙ ap (λ (n : Option (List ℕ)). stands b n moments) f

pub loop-long : (fault : LoopFault HubFault) → of_loop fault ≡ faults.LineTooLong → fault ≡ loop.LineTooLong
loop-long loop.Read e = absurd (let bad : faults.Read ≡ faults.LineTooLong = e in cc)
loop-long loop.Write e = absurd (let bad : faults.Write ≡ faults.LineTooLong = e in cc)
loop-long loop.LineTooLong e = refl
loop-long (loop.Unanswered fault) e = absurd (let bad : faults.Hub fault ≡ faults.LineTooLong = e in cc)

module _ {D M : Type 0} (state : D → State) (sector_count failures : D → ℕ) (gives : M → ℕ → M → Type 0)
    {S : Type 0} (end talk : S) (view : S → Standing D M) (store : Kept D) (moments : M)
    (begins : view talk ≡ stands store None moments) where
  abbrev Answers : S → List ℕ → List ℕ → S → Type 0
  Answers s line text t = AnswersLine (measures state sector_count failures) gives (view s) line text (view t)

  abbrev Breaks : S → List ℕ → HubFault → S → Type 0
  Breaks s line fault t = RefusesLine (measures state sector_count failures) gives (view s) line fault (view t)

  pub run-text : (old new : Option (List ℕ)) (before : Option (List ℕ)) →
      IfSome before (λ input. (text : List ℕ) × IsText Answers talk input text end × Appends old new text) →
      IfSome before (IsRunText (measures state sector_count failures) gives store moments old new)
  run-text old new None h = tt
  run-text old new (Some input) (text, is, appended) = record {
    text = text;
    end = view end;
    is = subst (λ (x : Standing D M). IsText (AnswersLine (measures state sector_count failures) gives) x input text (view end))
        begins (text-map Answers (AnswersLine (measures state sector_count failures) gives) view (λ s l x t h. h) talk input
        text end is);
    appended = appended;
  }

  pub runs-on : (result : Result (Unit {0}) (LoopFault HubFault)) (before after old new : Option (List ℕ)) →
      Ended Answers Breaks result (streams before old) (streams after new) talk end →
      RunsOn (measures state sector_count failures) gives result (streams before old) (streams after new) (stands store None moments)
  runs-on result before after old new h = record {
    end = view end;
    ended = subst (λ (x : Standing D M). Ended (AnswersLine (measures state sector_count failures) gives)
        (RefusesLine (measures state sector_count failures) gives) result (streams before old) (streams after new) x (view end)) begins
        (ended-map Answers (AnswersLine (measures state sector_count failures) gives) view (λ s l x t h. h) Breaks
        (RefusesLine (measures state sector_count failures) gives) (λ s l x t h. h) result (streams before old) (streams after new) talk end h);
  }

  pub run-fault : (fault : LoopFault HubFault) (before after old new : Option (List ℕ)) →
      RunsOn (measures state sector_count failures) gives (Err fault) (streams before old) (streams after new) (stands store None moments) →
      RunEnds (measures state sector_count failures) gives (Err (of_loop fault)) (streams before old) (streams after new) (stands store None moments)
  run-fault loop.Read before after old new h = h
  run-fault loop.Write before after old new h = h
  run-fault loop.LineTooLong before after old new h = h
  run-fault (loop.Unanswered fault) before after old new h = inl h

  pub whole-run : (given : Result (Unit {0}) (LoopFault HubFault)) (x : Unit {0}) (old new before : Option (List ℕ)) →
      given ≡ Ok x → OnOk given (IfSome before (λ input. (text : List ℕ) × IsText Answers talk input text end
      × Appends old new text)) → IfSome before (IsRunText (measures state sector_count failures) gives store moments old new)
  whole-run given x old new before was h =
      run-text old new before (subst (λ (r : Result (Unit {0}) (LoopFault HubFault)). OnOk r (IfSome before (λ input.
      (text : List ℕ) × IsText Answers talk input text end × Appends old new text))) was h)

  pub long-run : (given : Result (Unit {0}) (LoopFault HubFault)) (fault : LoopFault HubFault)
      (made : Result (Unit {0}) RunFault) (y : RunFault) (old new before : Option (List ℕ)) → given ≡ Err fault →
      made ≡ Err y → y ≡ of_loop fault → (IsErrOf given loop.LineTooLong → IfSome before (λ input. (text : List ℕ)
      × IsText Answers talk input text end × Appends old new text)) → IsErrOf made faults.LineTooLong →
      IfSome before (IsRunText (measures state sector_count failures) gives store moments old new)
  long-run given fault made y old new before was is same h long =
      let both : Err y ≡ Err faults.LineTooLong = sym is ∙ long in
      let here : y ≡ faults.LineTooLong = cc in
      run-text old new before (h (was ∙ ap (λ (f : LoopFault HubFault). Err f) (loop-long fault (sym same ∙ here))))

  pub ended-ok : (given : Result (Unit {0}) (LoopFault HubFault)) (x : Unit {0})
      (before after old new : Option (List ℕ)) → given ≡ Ok x →
      Ended Answers Breaks given (streams before old) (streams after new) talk end →
      RunsOn (measures state sector_count failures) gives (Ok x) (streams before old) (streams after new) (stands store None moments)
  ended-ok given x before after old new was h =
      runs-on (Ok x) before after old new (subst (λ (r : Result (Unit {0}) (LoopFault HubFault)).
      Ended Answers Breaks r (streams before old) (streams after new) talk end) was h)

  pub ended-err : (given : Result (Unit {0}) (LoopFault HubFault)) (fault : LoopFault HubFault)
      (made : Result (Unit {0}) RunFault) (y : RunFault) (before after old new : Option (List ℕ)) →
      given ≡ Err fault → made ≡ Err y → y ≡ of_loop fault →
      Ended Answers Breaks given (streams before old) (streams after new) talk end →
      RunEnds (measures state sector_count failures) gives made (streams before old) (streams after new) (stands store None moments)
  ended-err given fault made y before after old new was is same h =
      subst (λ (r : Result (Unit {0}) RunFault). RunEnds (measures state sector_count failures) gives r (streams before old) (streams after new) (stands store None moments)) (sym (is ∙ ap (λ (f : RunFault). Err f) same))
      (run-fault fault before after old new (runs-on (Err fault) before after old new
      (subst (λ (r : Result (Unit {0}) (LoopFault HubFault)). Ended Answers Breaks r (streams before old) (streams after new) talk end)
      was h)))

-- ---- where `Read` comes from

source-fault : (fault : LoopFault HubFault) (before after : Bool) → IsOfSource (Err fault) before after →
    RunIsOfSource (Err (of_loop fault)) before after
source-fault loop.Read before after h = h
source-fault loop.Write before after h = h
source-fault loop.LineTooLong before after h = h
source-fault (loop.Unanswered fault) before after h = h

pub of_source : (given : Result (Unit {0}) (LoopFault HubFault)) (fault : LoopFault HubFault)
    (made : Result (Unit {0}) RunFault) (y : RunFault) (before after : Bool) → given ≡ Err fault → made ≡ Err y →
    y ≡ of_loop fault → IsOfSource given before after → RunIsOfSource made before after
of_source given fault made y before after was is same h =
    subst (λ (r : Result (Unit {0}) RunFault). RunIsOfSource r before after)
    (sym (is ∙ ap (λ (f : RunFault). Err f) same))
    (source-fault fault before after
    (subst (λ (r : Result (Unit {0}) (LoopFault HubFault)). IsOfSource r before after) was h))

-- ---- faults

-- no session is seen where there is none
pub none-of : (o : Option Session) → option_map shown o ≡ None → o ≡ None
none-of None e = refl
none-of (Some x) e = absurd (let bad : Some (shown x) ≡ None = e in cc)

count-none : {T : Type 0} (slots : List (Option T)) → ((i : ℕ) → slice_index_or slots i None ≡ None) →
    count_by is_some slots ≡ 0
count-none [] h = refl
count-none (None ∷ slots) h = count-none slots (λ i. h (suc i))
count-none (Some v ∷ slots) h = absurd (let bad : Some v ≡ None = h 0 in cc)

pub few-none : (s : Sessions) → ((sid : ℕ) → session_at s sid ≡ None) → 64 ≤ session_count s → ⊥
few-none s none few =
    let zero_now : session_count s ≡ 0 = count-none s.slab.slots (λ i. none-of (get s.slab i) (none i)) in
    omega (arith, zero_now, few)

pub connect-fault : {T : Type 0} (result : Result T HubFault) (fault : HubFault) → result ≡ Err fault →
    IsConnectFault fault → (IsErrOf result Busy → ⊥) → fault ≡ NoMemory
connect-fault result Busy is known other = absurd (other is)
connect-fault result NoMemory is known other = refl
connect-fault result LineTooLong is known other = absurd known
connect-fault result (OfStore fault) is known other = absurd known
