-- Messages that a browser is told, one after the other.
use Rattle.std.proofs.Common.{◌≡◌, ◌<◌, ◌≤◌, ◌+◌, ◌∙◌, ℕ, Bool, true, false, List, Option, length, get_or, drop, take, refl, ap, subst, sym, add-one, arith}
use Rattle.std.proofs.Math.Seq.{drop-cons}
use Rattle.std.proofs.lemmas.List.{drop_all}
use Rattle.std.proofs.lemmas.List.Sums.{count_by_more_yes, count_by_more_no}
use Rattle.lobby_guests.specs.declared.guest.Guest.{Guest}
use Rattle.lobby_desk.specs.declared.telling.Message.{Message}
use Rattle.lobby_guests.specs.Guests.{IsTold, AreTold}
use Rattle.lobby_talk.specs.Counting.{one_if, counted_up, refuses, refusals_of}

-- What the rest of them make of a browser now, all of them make of it as it was.
abbrev pub IsToldTo : {S : Type 0} → ℕ → ℕ → List Message → Guest S → Guest S → Type 0
IsToldTo {S} at i made old now = (new : Guest S) → AreTold at (drop i made) now new → AreTold at made old new

module _ {S : Type 0} (at : ℕ) where
  pub told_further : (i : ℕ) (made : List Message) (d : Message) (old now next : Guest S) → i < length made →
      IsToldTo at i made old now → IsTold at (get_or made i d) now next → IsToldTo at (i + 1) made old next
  told_further i made d old now next lt so_far one = λ new are.
      so_far new (subst (λ (l : List Message). AreTold at l now new) (sym (drop-cons made i d lt))
      (next, one, subst (λ (n : ℕ). AreTold at (drop n made) next new) (add-one i) are))

  pub told_all : (i : ℕ) (made : List Message) (old now : Guest S) → length made ≤ i → IsToldTo at i made old now →
      AreTold at made old now
  told_all i made old now le so_far =
      so_far now (subst (λ (l : List Message). AreTold at l now now) (sym (drop_all i made le)) refl)

no_more : (n : ℕ) → n ≡ n + 0
no_more n = omega arith

more_by : (made : List Message) (number : Option ℕ) (i : ℕ) (d : Message) → i < length made → (b : Bool) →
    refuses number (get_or made i d) ≡ b →
    refusals_of (take (i + 1) made) number ≡ refusals_of (take i made) number + one_if (refuses number (get_or made i d))
more_by made number i d below true is =
    count_by_more_yes (refuses number) made i d below is
    ∙ ap (λ (n : ℕ). refusals_of (take i made) number + n) (sym (ap one_if is))
more_by made number i d below false is =
    count_by_more_no (refuses number) made i d below is
    ∙ (no_more (refusals_of (take i made) number)
    ∙ ap (λ (n : ℕ). refusals_of (take i made) number + n) (sym (ap one_if is)))

-- one message more is counted, if it refuses a login
pub refusals_more : (made : List Message) (number : Option ℕ) (i : ℕ) (d : Message) → i < length made →
    refusals_of (take (i + 1) made) number ≡ refusals_of (take i made) number + one_if (refuses number (get_or made i d))
refusals_more made number i d below =
    more_by made number i d below (refuses number (get_or made i d)) refl

pub counted_more : (n m a b k : ℕ) → m ≡ counted_up n a → k ≡ counted_up m b → k ≡ counted_up n (a + b)
counted_more n m a b k one two = omega (arith, one, two)
