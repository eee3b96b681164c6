-- Games that are safe or have left the table, one more; and what is so of a night behind a step.
use Rattle.std.proofs.Common.{ℕ, ◌≡◌, ◌<◌, Bool, true, false, not, ◌||◌, ◌&&◌, ◌==◌, List, [], ◌∷◌, ◌++◌, Option, None, Some, length, get_or, refl, sym, ap, ◌∙◌}
use Rattle.std.specs.Prelude.{is_some, is_none, if◌then◌else◌}
use Rattle.std.proofs.lemmas.Bool.{eq-eqb, false≢true, or_right, cond-true, cond-false}
use Rattle.std.proofs.lemmas.List.Folds.{list_any_at}
use Rattle.night_archive.specs.declared.clerk.Stage.{Stage}
use Rattle.night_archive.specs.declared.clerk.Stage.TheVariants.{Asked, Found}
use Rattle.night_archive.specs.Clerk.{View, IsStaged, is_asked, is_kept, asks, seen}
use Rattle.night_archive.specs.Files.{contains}
use Rattle.night_archive.specs.Night.{IsTold, IsAsking, AreSettled, AreSettledBut, IsLater, Stays, BecomesAt, StaysBut, AreDone}
use Rattle.night_archive.proofs.Lists.{contains_more}
use Rattle.night_archive.proofs.Runs.{same_game, either}

or_later : (a b c d : Bool) → (a ≡ true → c ≡ true) → (b ≡ true → d ≡ true) → (a || b) ≡ true → (c || d) ≡ true
or_later true b c d f k h = ap (λ (x : Bool). x || d) (f refl)
or_later false b c d f k h = or_right c d (k h)

pub done_more : (safe left safe_now left_now : ℕ → Bool) (game : ℕ) (games more : List ℕ) → IsLater safe safe_now → IsLater left left_now →
    AreDone safe left games → (safe_now game || left_now game) ≡ true → more ≡ games ++ game ∷ [] → AreDone safe_now left_now more
done_more safe left safe_now left_now game games more f k all one e = λ g h.
    either (game == g) (contains g games) (safe_now g || left_now g)
    (λ same. ap (λ (n : ℕ). safe_now n || left_now n) (sym (same_game game g same)) ∙ one)
    (λ m. or_later (safe g) (left g) (safe_now g) (left_now g) (f g) (k g) (all g m))
    (sym (contains_more g game games) ∙ (sym (ap (contains g) e) ∙ h))

-- two alike numbers, or two that are not
by_same : (b : Bool) (w : Type 0) → (b ≡ true → w) → (b ≡ false → w) → w
by_same true w f k = f refl
by_same false w f k = k refl

second_of : (b c : Bool) → b ≡ false → (if b then true else c) ≡ true → c ≡ true
second_of true c e h = absurd (false≢true (sym e))
second_of false c e h = h

pub settled_more : (settled left settled_now left_now : ℕ → Bool) (game : ℕ) (games more : List ℕ) → StaysBut game settled settled_now →
    IsLater left left_now → ((g : ℕ) → contains g games ≡ true → (settled g || left g) ≡ true) →
    (settled_now game || left_now game) ≡ true → more ≡ games ++ game ∷ [] →
    (g : ℕ) → contains g more ≡ true → (settled_now g || left_now g) ≡ true
settled_more settled left settled_now left_now game games more f k all one e = λ g h.
    by_same (game == g) ((settled_now g || left_now g) ≡ true)
    (λ same. ap (λ (n : ℕ). settled_now n || left_now n) (sym (same_game game g same)) ∙ one)
    (λ other. or_later (settled g) (left g) (settled_now g) (left_now g) (λ s. f g other ∙ s) (k g)
    (all g (second_of (game == g) (contains g games) other (sym (contains_more g game games) ∙ (sym (ap (contains g) e) ∙ h)))))

pub contains_at : (games : List ℕ) (i : ℕ) → i < length games → contains (get_or games i 0) games ≡ true
contains_at games i h = list_any_at (λ one. one == get_or games i 0) games i 0 h (eq-eqb (get_or games i 0) (get_or games i 0) refl)

asked_stage : (stage : Option Stage) (t : Bool) → (is_none stage && t) ≡ true →
    (if is_none stage then (if t then Some Asked else Some Found) else stage) ≡ Some Asked
asked_stage None true h = refl
asked_stage None false h = absurd (false≢true h)
asked_stage (Some x) t h = absurd (false≢true h)

-- a game is seen to be over, and its PGN is asked for
module _ (game : ℕ) (droppable : Bool) (old new : View) (asked : asks old game droppable ≡ true)
    (step : IsStaged old game (seen old game droppable) new) where
  new_stage : new.stage game ≡ Some Asked
  new_stage =
      step.stage_is game
      ∙ (cond-true (game == game) (seen old game droppable) (old.stage game) (eq-eqb game game refl)
      ∙ asked_stage (old.stage game) (droppable || not (old.has game)) asked)

  other_stage : (g : ℕ) → (game == g) ≡ false → new.stage g ≡ old.stage g
  other_stage g other = step.stage_is g ∙ cond-false (game == g) (seen old game droppable) (old.stage g) other

  pub over_asking : (safe matched : ℕ → Bool) → IsTold old safe matched → IsAsking game new safe matched
  over_asking safe matched told = record {
    fresh = step.fresh ∙ told.fresh;
    has = λ g. step.has g ∙ told.has g;
    seen = λ g other k. told.seen g (sym (ap is_some (other_stage g other)) ∙ k);
    matched = λ g k.
        by_same (game == g) (matched g ≡ true)
        (λ same. absurd (false≢true (sym (ap (λ (n : ℕ). is_kept (new.stage n)) (sym (same_game game g same)) ∙ ap is_kept new_stage) ∙ k)))
        (λ other. told.matched g (sym (ap is_kept (other_stage g other)) ∙ k));
    asked = ap is_asked new_stage;
  }

  pub over_settled_but : (drops : Bool) (settled : ℕ → Bool) → AreSettled old drops settled → AreSettledBut game new drops settled
  over_settled_but drops settled h = λ d g other some kept.
      h d g (sym (ap is_some (other_stage g other)) ∙ some) (sym (ap is_kept (other_stage g other)) ∙ kept)

-- the table has not the game any more
module _ (game : ℕ) (old new : View) (step : IsStaged old game None new) where
  gone_stage : (g : ℕ) → (game == g) ≡ true → new.stage g ≡ None
  gone_stage g same = step.stage_is g ∙ cond-true (game == g) None (old.stage g) same

  kept_stage : (g : ℕ) → (game == g) ≡ false → new.stage g ≡ old.stage g
  kept_stage g other = step.stage_is g ∙ cond-false (game == g) None (old.stage g) other

  pub refused_told : (safe safe_now matched matched_now : ℕ → Bool) → IsAsking game old safe matched → Stays safe safe_now →
      BecomesAt game false matched matched_now → IsTold new safe_now matched_now
  refused_told safe safe_now matched matched_now h stays becomes = record {
    fresh = step.fresh ∙ h.fresh;
    has = λ g. step.has g ∙ (h.has g ∙ sym (stays g));
    seen = λ g k.
        by_same (game == g) (safe_now g ≡ true)
        (λ same. absurd (false≢true (sym (ap is_some (gone_stage g same)) ∙ k)))
        (λ other. stays g ∙ h.seen g other (sym (ap is_some (kept_stage g other)) ∙ k));
    matched = λ g k.
        by_same (game == g) (matched_now g ≡ true)
        (λ same. absurd (false≢true (sym (ap is_kept (gone_stage g same)) ∙ k)))
        (λ other. becomes g ∙ (cond-false (game == g) false (matched g) other ∙ h.matched g (sym (ap is_kept (kept_stage g other)) ∙ k)));
  }

  pub refused_settled : (drops drops_now : Bool) (settled settled_now : ℕ → Bool) → AreSettledBut game old drops settled → drops_now ≡ drops →
      BecomesAt game false settled settled_now → AreSettled new drops_now settled_now
  refused_settled drops drops_now settled settled_now h same_drops becomes = λ d g some kept.
      by_same (game == g) (settled_now g ≡ true)
      (λ same. absurd (false≢true (sym (ap is_some (gone_stage g same)) ∙ some)))
      (λ other. becomes g
      ∙ (cond-false (game == g) false (settled g) other
      ∙ h (sym same_drops ∙ d) g other (sym (ap is_some (kept_stage g other)) ∙ some) (sym (ap is_kept (kept_stage g other)) ∙ kept)))
