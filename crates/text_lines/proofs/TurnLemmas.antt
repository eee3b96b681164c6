-- One turn of the loop after another.
use Rattle.std.proofs.Common.{◌≡◌, ℕ, ◌<◌, ◌≤◌, ◌+◌, ◌-◌, true, false, List, [], ◌∷◌, ◌++◌, length, sym, refl, ap, ◌∙◌, subst, append_assoc, append-nil, arith, length-append, Option, Result, Ok, Err, take, drop, get_or, inl, inr, take-append-drop}
use Rattle.std.proofs.lemmas.Bool.{false≢true}
use Rattle.std.proofs.lemmas.List.{take_more, take_rest}
use Rattle.std.proofs.lemmas.List.Elements.{All-append}
use Rattle.std.specs.Io.BufRead.{strip_last}
use Rattle.text_lines.specs.Lines.{is_feed, HasNoFeed, IsUnfinished}
use Rattle.text_lines.proofs.Wholes.{unfinished-none}
use Rattle.text_lines.specs.Texts.{IsRun, farewell}
use Rattle.text_lines.specs.Outlets.{IsSaid, IsLost, Says, Loses}
use Rattle.text_lines.specs.Turns.{Moment, IsHeard, IsTooLong, HasCome, AreAnswered, BreaksAt, HasLost, Came, MayGoOn, Takes}
use Rattle.text_lines.specs.declared.loops.Flow.{Flow}
use Rattle.text_lines.specs.declared.loops.Flow.TheVariants.{Open, TooLong, Broken}
use Rattle.text_lines.specs.declared.outlet.WriteFault.{WriteFault}
use Rattle.std.specs.Prelude.{◌⊎◌}
use Rattle.text_lines.proofs.Runs.{run-more, unfinished-more, heard-more, heard-feed, too-long, too-long-more, breaks-more}

-- no more is taken after this
abbrev pub IsOver : {F : Type 0} → Result (Flow F) WriteFault → Type 0
IsOver (Ok Open) = ⊥
IsOver (Ok TooLong) = Unit {0}
IsOver (Ok (Broken fault)) = Unit {0}
IsOver (Err fault) = Unit {0}

module _ {S F : Type 0} (Asked : S → Type 0) (Answers : S → List ℕ → List ℕ → S → Type 0)
    (Breaks : S → List ℕ → F → S → Type 0) where
  -- ---- what one call does

  -- bytes of a line, for which there is room
  pub took-part : (old : Moment S) (kept part : List ℕ) → Asked old.answerer → IsUnfinished old.held → HasNoFeed part →
      length old.held + length part ≤ 255 → kept ≡ old.held ++ part →
      Takes Asked Answers Breaks old part (Ok Open) (record old { held = kept })
  took-part old kept part asked u n l k = record {
    next = (asked, subst IsUnfinished (sym k) (unfinished-more old.held part u n l));
    came = λ start first taken h. record {
      done = h.done;
      heard = subst (IsHeard (taken ++ part) h.done) (sym k) (heard-more taken h.done old.held part h.heard);
      answers = h.answers;
      run = h.run;
      said = h.said;
    };
  }

  -- what was answered before further bytes
  answered-before : (start : S) (first : Option (List ℕ)) (taken more : List ℕ) (now : Moment S) (end : S) →
      end ≡ now.answerer → HasCome Answers start first taken now → AreAnswered Answers start (taken ++ more) end
  answered-before start first taken more now end same h = record {
    done = h.done;
    after = now.held ++ more;
    heard = heard-more taken h.done now.held more h.heard;
    answers = h.answers;
    run = subst (IsRun Answers start h.done h.answers) (sym same) h.run;
  }

  too_long-both : (held part : List ℕ) → IsUnfinished held → HasNoFeed part → 255 < length held + length part →
      IsTooLong (held ++ part)
  too_long-both held part u n l =
      too-long (held ++ part) (All-append (λ b. is_feed b ≡ false) held part u.no_feed n)
      (omega (arith, length-append held part))

  -- a line that is too long
  pub took-long : (old new : Moment S) (part : List ℕ) → new.answerer ≡ old.answerer → IsUnfinished old.held →
      HasNoFeed part → 255 < length old.held + length part →
      Says old.written old.ready (farewell true) new.written new.ready →
      Takes Asked Answers Breaks old part (Ok TooLong) new
  unfolding answered-before
  took-long old new part same u n l says = record {
    next = tt;
    came = λ start first taken h. record {
      lines = answered-before start first taken part old new.answerer same h;
      long = too_long-both old.held part u n l;
      said = says first h.answers h.said;
    };
  }

  pub lost-long : (old new : Moment S) (part : List ℕ) (fault : WriteFault) → new.answerer ≡ old.answerer →
      IsUnfinished old.held → HasNoFeed part → 255 < length old.held + length part →
      Loses old.written old.ready (farewell true) new.written →
      Takes Asked Answers Breaks old part (Err fault) new
  unfolding answered-before
  lost-long old new part fault same u n l loses = record {
    next = tt;
    came = λ start first taken h. record {
      mid = old.answerer;
      lines = answered-before start first taken part old old.answerer refl h;
      last = inl same;
      is_long = true;
      long = λ _. too_long-both old.held part u n l;
      lost = loses first h.answers h.said;
    };
  }

  -- a line that ends, and is answered
  pub took-feed : (old new : Moment S) (answer : List ℕ) → Asked new.answerer → IsUnfinished old.held →
      new.held ≡ [] → Answers old.answerer (strip_last 13 old.held) answer new.answerer →
      Says old.written old.ready answer new.written new.ready →
      Takes Asked Answers Breaks old (10 ∷ []) (Ok Open) new
  took-feed old new answer asked u none is says = record {
    next = (asked, subst IsUnfinished (sym none) unfinished-none);
    came = λ start first taken h. record {
      done = h.done ++ strip_last 13 old.held ∷ [];
      heard = subst (IsHeard (taken ++ 10 ∷ []) (h.done ++ strip_last 13 old.held ∷ [])) (sym none)
          (heard-feed taken h.done old.held h.heard u);
      answers = h.answers ++ answer;
      run = run-more Answers start h.done h.answers old.answerer (strip_last 13 old.held) answer new.answerer h.run is;
      said = says first h.answers h.said;
    };
  }

  pub lost-feed : (old new : Moment S) (answer : List ℕ) (fault : WriteFault) → IsUnfinished old.held →
      Answers old.answerer (strip_last 13 old.held) answer new.answerer →
      Loses old.written old.ready answer new.written →
      Takes Asked Answers Breaks old (10 ∷ []) (Err fault) new
  lost-feed old new answer fault u is loses = record {
    next = tt;
    came = λ start first taken h. record {
      mid = new.answerer;
      lines = record {
        done = h.done ++ strip_last 13 old.held ∷ [];
        after = [];
        heard = heard-feed taken h.done old.held h.heard u;
        answers = h.answers ++ answer;
        run = run-more Answers start h.done h.answers old.answerer (strip_last 13 old.held) answer new.answerer h.run is;
      };
      last = inl refl;
      is_long = false;
      long = λ e. absurd (false≢true e);
      lost = subst (IsLost first new.written) (sym (append-nil (h.answers ++ answer))) (loses first h.answers h.said);
    };
  }

  -- a line that ends, and finds no answer
  pub broke-feed : (old : Moment S) (t : S) (kept : List ℕ) (fault : F) → IsUnfinished old.held →
      Breaks old.answerer (strip_last 13 old.held) fault t →
      Takes Asked Answers Breaks old (10 ∷ []) (Ok (Broken fault)) (record old { answerer = t; held = kept })
  unfolding answered-before
  broke-feed old t kept fault u is = record {
    next = tt;
    came = λ start first taken h. record {
      mid = old.answerer;
      lines = answered-before start first taken (10 ∷ []) old old.answerer refl h;
      breaks = record { part = old.held; after = []; split = refl; unfinished = u; breaks = is };
      said = h.said;
    };
  }

  -- a fault that is passed on
  pub passed_on : (a b : Moment S) (bytes : List ℕ) (result : Result (Flow F) WriteFault) (fault : WriteFault) →
      result ≡ Err fault → Takes Asked Answers Breaks a bytes (Err fault) b →
      Takes Asked Answers Breaks a bytes result b
  passed_on a b bytes result fault is takes =
      subst (λ (x : Result (Flow F) WriteFault). Takes Asked Answers Breaks a bytes x b) (sym is) takes

  pub flow_is : (a b : Moment S) (bytes : List ℕ) (flow other : Flow F) → flow ≡ other →
      Takes Asked Answers Breaks a bytes (Ok flow) b → Takes Asked Answers Breaks a bytes (Ok other) b
  flow_is a b bytes flow other is takes =
      subst (λ (x : Flow F). Takes Asked Answers Breaks a bytes (Ok x) b) is takes

  -- ---- one call after another

  pub then-takes : (a b c : Moment S) (bytes more : List ℕ) (result : Result (Flow F) WriteFault) →
      Takes Asked Answers Breaks a bytes (Ok Open) b → Takes Asked Answers Breaks b more result c →
      Takes Asked Answers Breaks a (bytes ++ more) result c
  then-takes a b c bytes more result takes then = record {
    next = then.next;
    came = λ start first taken h. subst (λ (x : List ℕ). Came Asked Answers Breaks start first x result c)
        (append_assoc taken bytes more) (then.came start first (taken ++ bytes) (takes.came start first taken h));
  }

  -- what has come of a line is let go
  pub emptied : (old new : Moment S) (line bytes : List ℕ) (result : Result (Flow F) WriteFault) → line ≡ old.held →
      new.held ≡ [] → Takes Asked Answers Breaks (record old { held = line }) bytes result (record new { held = [] }) →
      Takes Asked Answers Breaks old bytes result new
  emptied old new line bytes result same none takes =
      subst (λ (x : List ℕ). Takes Asked Answers Breaks old bytes result (record new { held = x })) (sym none)
      (subst (λ (x : List ℕ). Takes Asked Answers Breaks (record old { held = x }) bytes result (record new { held = [] }))
      same takes)

  -- where nothing of a line waits it may come whole
  pub took-whole : (old new : Moment S) (part : List ℕ) (result : Result (Flow F) WriteFault) → Asked old.answerer →
      old.held ≡ [] → new.held ≡ [] → IsUnfinished part →
      Takes Asked Answers Breaks (record old { held = part }) (10 ∷ []) result (record new { held = [] }) →
      Takes Asked Answers Breaks old (part ++ 10 ∷ []) result new
  took-whole old new part result asked none none' u takes =
      emptied old new [] (part ++ 10 ∷ []) result (sym none) none'
      (then-takes (record old { held = [] }) (record old { held = part }) (record new { held = [] }) part (10 ∷ []) result
      (took-part (record old { held = [] }) part part asked unfinished-none u.no_feed (omega (arith, u.short)) refl)
      takes)

  -- bytes that come after its end change nothing
  answered-more : (start : S) (taken bytes more : List ℕ) (end : S) → AreAnswered Answers start (taken ++ bytes) end →
      AreAnswered Answers start (taken ++ (bytes ++ more)) end
  answered-more start taken bytes more end h = record {
    done = h.done;
    after = h.after ++ more;
    heard = subst (λ (x : List ℕ). IsHeard x h.done (h.after ++ more)) (append_assoc taken bytes more)
        (heard-more (taken ++ bytes) h.done h.after more h.heard);
    answers = h.answers;
    run = h.run;
  }

  last-more : (after more : List ℕ) (mid t : S) → (t ≡ mid) ⊎ ((fault : F) × BreaksAt Breaks fault after mid t) →
      (t ≡ mid) ⊎ ((fault : F) × BreaksAt Breaks fault (after ++ more) mid t)
  last-more after more mid t (inl same) = inl same
  last-more after more mid t (inr (fault, breaks)) = inr (fault, breaks-more Breaks fault after more mid t breaks)

  came-more : (start : S) (first : Option (List ℕ)) (taken bytes more : List ℕ) (result : Result (Flow F) WriteFault)
      (now : Moment S) → IsOver result → Came Asked Answers Breaks start first (taken ++ bytes) result now →
      Came Asked Answers Breaks start first (taken ++ (bytes ++ more)) result now
  unfolding answered-more
  came-more start first taken bytes more (Ok Open) now ends k = absurd ends
  came-more start first taken bytes more (Ok TooLong) now ends k = record {
    lines = answered-more start taken bytes more now.answerer k.lines;
    long = too-long-more k.lines.after more k.long;
    said = k.said;
  }
  came-more start first taken bytes more (Ok (Broken fault)) now ends k = record {
    mid = k.mid;
    lines = answered-more start taken bytes more k.mid k.lines;
    breaks = breaks-more Breaks fault k.lines.after more k.mid now.answerer k.breaks;
    said = k.said;
  }
  came-more start first taken bytes more (Err fault) now ends k = record {
    mid = k.mid;
    lines = answered-more start taken bytes more k.mid k.lines;
    last = last-more k.lines.after more k.mid now.answerer k.last;
    is_long = k.is_long;
    long = λ e. too-long-more k.lines.after more (k.long e);
    lost = k.lost;
  }

  pub over : (a b : Moment S) (bytes more : List ℕ) (result : Result (Flow F) WriteFault) → IsOver result →
      Takes Asked Answers Breaks a bytes result b → Takes Asked Answers Breaks a (bytes ++ more) result b
  over a b bytes more result ends takes = record {
    next = takes.next;
    came = λ start first taken h. came-more start first taken bytes more result b ends (takes.came start first taken h);
  }

  -- ---- what is ready is written behind a call

  handed : (start : S) (first : Option (List ℕ)) (taken : List ℕ) (flow : Flow F) (b : Moment S)
      (written : Option (List ℕ)) (left : List ℕ) → Came Asked Answers Breaks start first taken (Ok flow) b →
      Says b.written b.ready [] written left →
      Came Asked Answers Breaks start first taken (Ok flow) (record b { written = written; ready = left })
  handed start first taken Open b written left k says = record {
    done = k.done;
    heard = k.heard;
    answers = k.answers;
    run = k.run;
    said = subst (IsSaid first written left) (append-nil k.answers) (says first k.answers k.said);
  }
  handed start first taken TooLong b written left k says = record {
    lines = k.lines;
    long = k.long;
    said = subst (IsSaid first written left) (append-nil (k.lines.answers ++ farewell true))
        (says first (k.lines.answers ++ farewell true) k.said);
  }
  handed start first taken (Broken fault) b written left k says = record {
    mid = k.mid;
    lines = k.lines;
    breaks = k.breaks;
    said = subst (IsSaid first written left) (append-nil k.lines.answers) (says first k.lines.answers k.said);
  }

  goes-on : (flow : Flow F) (b : Moment S) (written : Option (List ℕ)) (left : List ℕ) →
      MayGoOn Asked Answers Breaks (Ok flow) b →
      MayGoOn Asked Answers Breaks (Ok flow) (record b { written = written; ready = left })
  goes-on Open b written left next = next
  goes-on TooLong b written left next = tt
  goes-on (Broken fault) b written left next = tt

  pub then-handed : (a b : Moment S) (written : Option (List ℕ)) (left bytes : List ℕ) (flow : Flow F) →
      Takes Asked Answers Breaks a bytes (Ok flow) b → Says b.written b.ready [] written left →
      Takes Asked Answers Breaks a bytes (Ok flow) (record b { written = written; ready = left })
  then-handed a b written left bytes flow takes says = record {
    next = goes-on flow b written left takes.next;
    came = λ start first taken h.
        handed start first (taken ++ bytes) flow b written left (takes.came start first taken h) says;
  }

  handed-lost : (start : S) (first : Option (List ℕ)) (taken : List ℕ) (flow : Flow F) (b : Moment S)
      (written : Option (List ℕ)) → Came Asked Answers Breaks start first taken (Ok flow) b →
      Loses b.written b.ready [] written → HasLost Answers Breaks start first written taken b.answerer
  handed-lost start first taken Open b written k loses = record {
    mid = b.answerer;
    lines = record { done = k.done; after = b.held; heard = k.heard; answers = k.answers; run = k.run };
    last = inl refl;
    is_long = false;
    long = λ e. absurd (false≢true e);
    lost = loses first k.answers k.said;
  }
  handed-lost start first taken TooLong b written k loses = record {
    mid = b.answerer;
    lines = k.lines;
    last = inl refl;
    is_long = true;
    long = λ _. k.long;
    lost = subst (IsLost first written) (append-nil (k.lines.answers ++ farewell true))
        (loses first (k.lines.answers ++ farewell true) k.said);
  }
  handed-lost start first taken (Broken broken) b written k loses = record {
    mid = k.mid;
    lines = k.lines;
    last = inr (broken, k.breaks);
    is_long = false;
    long = λ e. absurd (false≢true e);
    lost = loses first k.lines.answers k.said;
  }

  pub then-lost : (a b : Moment S) (written : Option (List ℕ)) (left bytes : List ℕ) (flow : Flow F)
      (fault : WriteFault) → Takes Asked Answers Breaks a bytes (Ok flow) b → Loses b.written b.ready [] written →
      Takes Asked Answers Breaks a bytes (Err fault) (record b { written = written; ready = left })
  then-lost a b written left bytes flow fault takes loses = record {
    next = tt;
    came = λ start first taken h.
        handed-lost start first (taken ++ bytes) flow b written (takes.came start first taken h) loses;
  }

-- ---- a piece, line by line

-- the end of a line, between the bytes before it and those after it
cut_at : (rest : List ℕ) (at : ℕ) → at < length rest → get_or rest at 0 ≡ 10 →
    rest ≡ (take at rest ++ 10 ∷ []) ++ drop (at + 1) rest
cut_at rest at l e =
    sym (take-append-drop (at + 1) rest)
    ∙ ap (λ (x : List ℕ). x ++ drop (at + 1) rest)
    (take_more rest at 0 l ∙ ap (λ (b : ℕ). take at rest ++ b ∷ []) e)

pub split_at : (all done rest : List ℕ) (at : ℕ) → all ≡ done ++ rest → at < length rest → get_or rest at 0 ≡ 10 →
    all ≡ (done ++ (take at rest ++ 10 ∷ [])) ++ drop (at + 1) rest
split_at all done rest at e l f =
    e ∙ ap (λ (x : List ℕ). done ++ x) (cut_at rest at l f)
    ∙ sym (append_assoc done (take at rest ++ 10 ∷ []) (drop (at + 1) rest))

-- what came of the front of a piece, before its rest
pub record Through {S F : Type 0} (Asked : S → Type 0) (Answers : S → List ℕ → List ℕ → S → Type 0)
    (Breaks : S → List ℕ → F → S → Type 0) (old now : Moment S) (all rest : List ℕ) : Type 0 where
  pub done : List ℕ
  pub split : all ≡ done ++ rest
  pub takes : Takes Asked Answers Breaks old done (Ok Open) now

module _ {S F : Type 0} (Asked : S → Type 0) (Answers : S → List ℕ → List ℕ → S → Type 0)
    (Breaks : S → List ℕ → F → S → Type 0) where
  pub through-nothing : (now : Moment S) (all : List ℕ) → Asked now.answerer → IsUnfinished now.held →
      Through Asked Answers Breaks now now all all
  through-nothing now all asked u = record {
    done = [];
    split = refl;
    takes = record {
      next = (asked, u);
      came = λ start first taken h. subst (λ (x : List ℕ). HasCome Answers start first x now) (sym (append-nil taken)) h;
    };
  }

  -- one line more
  pub through-line : (old now new : Moment S) (all rest next : List ℕ)
      (at : ℕ) → Through Asked Answers Breaks old now all rest →
      Takes Asked Answers Breaks now (take at rest ++ 10 ∷ []) (Ok Open) new →
      at < length rest → get_or rest at 0 ≡ 10 → next ≡ take (length rest - (at + 1)) (drop (at + 1) rest) →
      Through Asked Answers Breaks old new all next
  through-line old now new all rest next at h takes lt e f = record {
    done = h.done ++ (take at rest ++ 10 ∷ []);
    split = split_at all h.done rest at h.split lt e
        ∙ ap (λ (x : List ℕ). (h.done ++ (take at rest ++ 10 ∷ [])) ++ x) (sym (f ∙ take_rest rest (at + 1)));
    takes = then-takes Asked Answers Breaks old now new h.done (take at rest ++ 10 ∷ [])
        (Ok Open) h.takes takes;
  }

  -- a line at which it ends
  pub through-end : (old now new : Moment S) (all rest : List ℕ) (at : ℕ) (result : Result (Flow F) WriteFault) →
      IsOver result → Through Asked Answers Breaks old now all rest →
      Takes Asked Answers Breaks now (take at rest ++ 10 ∷ []) result new →
      at < length rest → get_or rest at 0 ≡ 10 →
      Takes Asked Answers Breaks old all result new
  through-end old now new all rest at result ends h takes lt e =
      subst (λ (x : List ℕ). Takes Asked Answers Breaks old x result new)
      (sym (split_at all h.done rest at h.split lt e))
      (over Asked Answers Breaks old new (h.done ++ (take at rest ++ 10 ∷ []))
      (drop (at + 1) rest) result ends (then-takes Asked Answers Breaks old now new h.done
      (take at rest ++ 10 ∷ []) result h.takes takes))

  -- the rest, which ends no line
  pub through-rest : (old now new : Moment S) (all rest : List ℕ)
      (result : Result (Flow F) WriteFault) → Through Asked Answers Breaks old now all rest →
      Takes Asked Answers Breaks now rest result new →
      Takes Asked Answers Breaks old all result new
  through-rest old now new all rest result h takes =
      subst (λ (x : List ℕ). Takes Asked Answers Breaks old x result new) (sym h.split)
      (then-takes Asked Answers Breaks old now new h.done rest result h.takes takes)
