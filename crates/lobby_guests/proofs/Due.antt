-- The earliest of moments, one after another.
use Rattle.std.proofs.Common.{◌≡◌, ◌<◌, ◌≤◌, ◌+◌, ◌∙◌, ℕ, List, [], ◌∷◌, Option, None, Some, length, get_or, drop, refl, ap, sym, subst, add-one, arith}
use Rattle.std.specs.Prelude.{min}
use Rattle.std.proofs.Math.Seq.{drop-cons}
use Rattle.std.proofs.lemmas.List.{drop_all}
use Rattle.lobby_guests.specs.declared.guest.Guest.{Guest}
use Rattle.lobby_guests.specs.Guests.{earlier, due_at, first_due}

min_both : (a b c : ℕ) → min (min a b) c ≡ min a (min b c)
min_both a b c = omega arith

both : (a b c : Option ℕ) → earlier (earlier a b) c ≡ earlier a (earlier b c)
both None b c = refl
both (Some a) None c = refl
both (Some a) (Some b) None = refl
both (Some a) (Some b) (Some c) = ap Some (min_both a b c)

none_behind : (a : Option ℕ) → earlier a None ≡ a
none_behind None = refl
none_behind (Some a) = refl

module _ {S : Type 0} (at : ℕ) (guests : List (Guest S)) where
  pub due_further : (i : ℕ) (d : Guest S) (so_far now : Option ℕ) → i < length guests →
      earlier so_far (first_due at (drop i guests)) ≡ first_due at guests →
      now ≡ earlier so_far (due_at at (get_or guests i d)) →
      earlier now (first_due at (drop (i + 1) guests)) ≡ first_due at guests
  due_further i d so_far now below whole is =
      let rest = first_due at (drop (i + 1) guests) in
      ap (λ (o : Option ℕ). earlier o rest) is
      ∙ (both so_far (due_at at (get_or guests i d)) rest
      ∙ (ap (λ (l : List (Guest S)). earlier so_far (first_due at l))
      (sym (drop-cons guests i d below ∙ ap (λ (n : ℕ). get_or guests i d ∷ drop n guests) (sym (add-one i))))
      ∙ whole))

  pub due_all : (i : ℕ) (so_far : Option ℕ) → length guests ≤ i →
      earlier so_far (first_due at (drop i guests)) ≡ first_due at guests → so_far ≡ first_due at guests
  due_all i so_far le whole =
      sym (none_behind so_far)
      ∙ (ap (λ (l : List (Guest S)). earlier so_far (first_due at l)) (sym (drop_all i guests le)) ∙ whole)
