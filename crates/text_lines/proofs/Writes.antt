-- What is said, one text after another.
use Rattle.std.proofs.Common.{◌≡◌, ℕ, ◌<◌, ◌-◌, List, [], ◌∷◌, ◌++◌, length, Option, Result, Ok, Err, OnErr, refl, sym, ap, ◌∙◌, subst, append_assoc, append-nil, length-append, take, drop, arith, take-append-drop}
use Rattle.std.proofs.lemmas.List.{take_rest}
use Rattle.std.proofs.KnownBytes.{Appends-nil, Appends-trans}
use Rattle.std.specs.Io.KnownBytes.{Appends}
use Rattle.text_lines.specs.Outlets.{IsSaid, IsLost, Says, Loses}

-- what is written of a text, after a write of n more bytes
pub split_on : (all done rest left : List ℕ) (n : ℕ) → all ≡ done ++ rest →
    left ≡ take (length rest - n) (drop n rest) → all ≡ (done ++ take n rest) ++ left
split_on all done rest left n e l =
    e ∙ ap (λ x. done ++ x) (sym (take-append-drop n rest)) ∙ sym (append_assoc done (take n rest) (drop n rest))
    ∙ ap (λ x. (done ++ take n rest) ++ x) (sym (l ∙ take_rest rest n))

-- nothing was said yet
pub said-nothing : (now : Option (List ℕ)) → IsSaid now now [] []
said-nothing now = record { front = []; appended = Appends-nil now; split = refl }

-- and a text behind it, where nothing is ready
pub says-sent : (now new : Option (List ℕ)) (text : List ℕ) → Appends now new text → Says now [] text new []
says-sent now new text a = λ old said h. record {
  front = h.front ++ text;
  appended = Appends-trans old now new h.front text h.appended a;
  split = ap (λ x. x ++ text) (h.split ∙ append-nil h.front) ∙ sym (append-nil (h.front ++ text));
}

-- one text after another
pub says-says : (a b c : Option (List ℕ)) (r s t text more : List ℕ) → Says a r text b s → Says b s more c t →
    Says a r (text ++ more) c t
says-says a b c r s t text more first second = λ old said h.
    subst (IsSaid old c t) (append_assoc said text more) (second old (said ++ text) (first old said h))

pub says-loses : (a b c : Option (List ℕ)) (r s text more : List ℕ) → Says a r text b s → Loses b s more c →
    Loses a r (text ++ more) c
says-loses a b c r s text more first second = λ old said h.
    subst (IsLost old c) (append_assoc said text more) (second old (said ++ text) (first old said h))

-- what is lost of a front is lost of the whole
pub lost-more : (old new : Option (List ℕ)) (said more : List ℕ) → IsLost old new said → IsLost old new (said ++ more)
lost-more old new said more h = record {
  front = h.front;
  lost = h.lost ++ more;
  appended = h.appended;
  split = ap (λ x. x ++ more) h.split ∙ append_assoc h.front h.lost more;
  some = let l = h.some in omega (arith, length-append h.lost more);
}

pub loses-more : (a c : Option (List ℕ)) (r text more : List ℕ) → Loses a r text c → Loses a r (text ++ more) c
loses-more a c r text more first = λ old said h.
    subst (IsLost old c) (append_assoc said text more) (lost-more old c (said ++ text) more (first old said h))

-- a front of a text was written, and nothing is ready
pub loses-sent : (now new : Option (List ℕ)) (ready text front rest : List ℕ) → ready ++ text ≡ front ++ rest →
    0 < length rest → Appends now new front → Loses now ready text new
loses-sent now new ready text front rest e l a = λ old said h. record {
  front = h.front ++ front;
  lost = rest;
  appended = Appends-trans old now new h.front front h.appended a;
  split = ap (λ x. x ++ text) h.split ∙ append_assoc h.front ready text ∙ ap (λ x. h.front ++ x) e
      ∙ sym (append_assoc h.front front rest);
  some = l;
}

-- ---- results

pub on_err : {T E : Type 0} (r : Result T E) (P : Type 0) → P → OnErr r P
on_err (Ok x) P p = tt
on_err (Err e) P p = p

pub map_err : {T E : Type 0} (r : Result T E) (P Q : Type 0) → (P → Q) → OnErr r P → OnErr r Q
map_err (Ok x) P Q f p = tt
map_err (Err e) P Q f p = f p

-- ---- what a call of `send` says

pub loses-front : (now new : Option (List ℕ)) (ready text : List ℕ)
    → ((front : List ℕ) × (rest : List ℕ) × (text ≡ front ++ rest) × (0 < length rest) × Appends now new front)
    → ready ≡ [] → Loses now ready text new
loses-front now new ready text (front, rest, e, l, a) none =
    loses-sent now new ready text front rest (ap (λ x. x ++ text) none ∙ e) l a

pub loses-ready : (now new : Option (List ℕ)) (ready : List ℕ)
    → ((front : List ℕ) × (rest : List ℕ) × (ready ≡ front ++ rest) × (0 < length rest) × Appends now new front)
    → Loses now ready [] new
loses-ready now new ready (front, rest, e, l, a) =
    loses-sent now new ready [] front rest (append-nil ready ∙ e) l a

-- a text that is sent behind what was ready
pub says-behind : (a b c : Option (List ℕ)) (r s text : List ℕ) → Says a r [] b [] → s ≡ [] → Appends b c text →
    Says a r text c s
says-behind a b c r s text first none sent = subst (Says a r text c) (sym none)
    (says-says a b c r [] [] [] text first (says-sent b c text sent))

pub loses-behind : (a b c : Option (List ℕ)) (r text : List ℕ) → Says a r [] b [] → Loses b [] text c →
    Loses a r text c
loses-behind a b c r text first second = says-loses a b c r [] [] text first second

-- ---- an answer is a line with its line feed, and a body

pub says-answer : (a b : Option (List ℕ)) (r s line body : List ℕ) → Says a r ((line ++ 10 ∷ []) ++ body) b s →
    Says a r (line ++ 10 ∷ body) b s
says-answer a b r s line body h =
    subst (λ (x : List ℕ). Says a r x b s) (append_assoc line (10 ∷ []) body) h

pub loses-answer : (a b : Option (List ℕ)) (r line body : List ℕ) → Loses a r ((line ++ 10 ∷ []) ++ body) b →
    Loses a r (line ++ 10 ∷ body) b
loses-answer a b r line body h = subst (λ (x : List ℕ). Loses a r x b) (append_assoc line (10 ∷ []) body) h
