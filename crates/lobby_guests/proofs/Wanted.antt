-- What waits longest, browser by browser.
use Rattle.std.proofs.Common.{◌≡◌, ◌<◌, ◌≤◌, ◌+◌, ◌∙◌, ℕ, Bool, true, false, List, [], ◌∷◌, Option, None, Some, length, get_or, drop, refl, ap, sym, arith, add-one, ltb, ltb-true, ltb-false, lt-ltb, le-ltb}
use Rattle.std.specs.Prelude.{if◌then◌else◌}
use Rattle.std.proofs.Math.Seq.{drop-cons}
use Rattle.std.proofs.lemmas.List.{drop_all}
use Rattle.lobby_guests.specs.declared.guest.Guest.{Guest}
use Rattle.lobby_guests.specs.declared.waiting.Waiting.{Waiting}
use Rattle.lobby_guests.specs.Waiting.{wanted, first_of}
use Rattle.lobby_guests.specs.Guests.{first_wanted}

-- the second waits longer, or the first is taken
second : (a b : Waiting) → ltb b.since a.since ≡ true → first_of (Some a) (Some b) ≡ Some b
second a b is = ap (λ (t : Bool). Some (if t then b else a)) is

the_first : (a b : Waiting) → ltb b.since a.since ≡ false → first_of (Some a) (Some b) ≡ Some a
the_first a b is = ap (λ (t : Bool). Some (if t then b else a)) is

three : (a b c : Waiting) (x y : Bool) → ltb b.since a.since ≡ x → ltb c.since b.since ≡ y →
    first_of (first_of (Some a) (Some b)) (Some c) ≡ first_of (Some a) (first_of (Some b) (Some c))
three a b c true true less one =
    ap (λ (o : Option Waiting). first_of o (Some c)) (second a b less)
    ∙ (second b c one
    ∙ sym (ap (λ (o : Option Waiting). first_of (Some a) o) (second b c one)
    ∙ second a c (lt-ltb c.since a.since (omega (arith, ltb-true b.since a.since less, ltb-true c.since b.since one)))))
three a b c true false less one =
    ap (λ (o : Option Waiting). first_of o (Some c)) (second a b less)
    ∙ (the_first b c one
    ∙ sym (ap (λ (o : Option Waiting). first_of (Some a) o) (the_first b c one) ∙ second a b less))
three a b c false true less one =
    ap (λ (o : Option Waiting). first_of o (Some c)) (the_first a b less)
    ∙ sym (ap (λ (o : Option Waiting). first_of (Some a) o) (second b c one))
three a b c false false less one =
    ap (λ (o : Option Waiting). first_of o (Some c)) (the_first a b less)
    ∙ (the_first a c (le-ltb c.since a.since (omega (arith, ltb-false b.since a.since less, ltb-false c.since b.since one)))
    ∙ sym (ap (λ (o : Option Waiting). first_of (Some a) o) (the_first b c one) ∙ the_first a b less))

both : (a b c : Option Waiting) → first_of (first_of a b) c ≡ first_of a (first_of b c)
both None b c = refl
both (Some a) None c = refl
both (Some a) (Some b) None = refl
both (Some a) (Some b) (Some c) = three a b c (ltb b.since a.since) (ltb c.since b.since) refl refl

none_behind : (a : Option Waiting) → first_of a None ≡ a
none_behind None = refl
none_behind (Some a) = refl

module _ {S : Type 0} (guests : List (Guest S)) where
  pub wanted_further : (i : ℕ) (d : Guest S) (so_far now : Option Waiting) → i < length guests →
      first_of so_far (first_wanted (drop i guests)) ≡ first_wanted guests →
      now ≡ first_of so_far (wanted (get_or guests i d).waits.items) →
      first_of now (first_wanted (drop (i + 1) guests)) ≡ first_wanted guests
  wanted_further i d so_far now below whole is =
      let rest = first_wanted (drop (i + 1) guests) in
      ap (λ (o : Option Waiting). first_of o rest) is
      ∙ (both so_far (wanted (get_or guests i d).waits.items) rest
      ∙ (ap (λ (l : List (Guest S)). first_of so_far (first_wanted l))
      (sym (drop-cons guests i d below ∙ ap (λ (n : ℕ). get_or guests i d ∷ drop n guests) (sym (add-one i))))
      ∙ whole))

  pub wanted_all : (i : ℕ) (so_far : Option Waiting) → length guests ≤ i →
      first_of so_far (first_wanted (drop i guests)) ≡ first_wanted guests → so_far ≡ first_wanted guests
  wanted_all i so_far le whole =
      sym (none_behind so_far)
      ∙ (ap (λ (l : List (Guest S)). first_of so_far (first_wanted l)) (sym (drop_all i guests le)) ∙ whole)
