-- For whom connections act.
use Rattle.std.proofs.Common.{ℕ, ◌≡◌, ◌==◌, ◌&&◌, ◌||◌, Bool, true, false, not, List, [], ◌∷◌, Option, None, Some, refl, ap, sym, ◌∙◌}
use Rattle.std.specs.Prelude.{◌↔◌, is_some, if◌then◌else◌, option_and_then, cond}
use Rattle.std.specs.Cmp.{nat_cmp_is, both_ways}
use Rattle.std.specs.Ordering.{is_eq, nat_cmp, eq_by_cmp}
use Rattle.std.specs.Set.{is_member}
use Rattle.std.specs.declared.cmp.Ordering.{Ordering}
use Rattle.std.specs.declared.cmp.Ordering.TheVariants.{Less, Equal, Greater}
use Rattle.std.proofs.lemmas.Bool.{false≢true}
use Rattle.std.proofs.lemmas.Map.Lookups.{exact_unsigned}
use Rattle.lobby_table.specs.declared.visitors.Visitor.{Visitor}
use Rattle.std.proofs.lemmas.Bool.Decides.{Decides-eqb}
use Rattle.lobby_words.specs.declared.planning.Plan.{Plan}
use Rattle.lobby_words.specs.declared.planning.Identity.{Identity}
use Rattle.lobby_table.specs.Watching.{at_table}
use Rattle.lobby_desk.specs.Who.{who_noted}
use Rattle.lobby_table.specs.Visitors.{until_at}

-- one test passes and the other does not
pub ready_if : (a b x y : Bool) → a ≡ x → b ≡ y → ((a && not b) ≡ true) ↔ ((x ≡ true) × (y ≡ false))
ready_if true true x y p q = (λ h. absurd (false≢true h), λ k. absurd (false≢true (sym k.1 ∙ sym q)))
ready_if true false x y p q = (λ _. (sym p, sym q), λ _. refl)
ready_if false b x y p q = (λ h. absurd (false≢true h), λ k. absurd (false≢true (p ∙ k.0)))

-- who is open stays so
open_at : (opens : ℕ → Bool) (from c : ℕ) → opens from ≡ true → (b : Bool) → (b ≡ true → from ≡ c) → (b || opens c) ≡ opens c
open_at opens from c is true same = sym is ∙ ap opens (same refl)
open_at opens from c is false same = refl

pub still_open : (opens : ℕ → Bool) (from c : ℕ) → opens from ≡ true → (from == c || opens c) ≡ opens c
still_open opens from c is = open_at opens from c is (from == c) (Decides-eqb from c).0

noted_at : (f : ℕ → Option Identity) (from c : ℕ) (plan : Plan) (before : Option Identity) → before ≡ f from →
    (b : Bool) → (b ≡ true → from ≡ c) →
    (if b then who_noted plan before else f c) ≡ (if b then who_noted plan (f c) else f c)
noted_at f from c plan before is true same = ap (who_noted plan) (is ∙ ap f (same refl))
noted_at f from c plan before is false same = refl

-- for whom a connection acts after a plan, where it acted for this player before
pub noted_is : (f : ℕ → Option Identity) (from c : ℕ) (plan : Plan) (before : Option Identity) → before ≡ f from →
    (if from == c then who_noted plan before else f c) ≡ (if from == c then who_noted plan (f c) else f c)
noted_is f from c plan before is = noted_at f from c plan before is (from == c) (Decides-eqb from c).0

-- the choice for another, and for oneself
pub for_other : (b : Bool) (x y : ℕ) → b ≡ false → (if b then x else y) ≡ y
for_other b x y other = ap (λ t. if t then x else y) other

pub for_self : (k x y : ℕ) → (if k == k then x else y) ≡ x
for_self k x y = ap (λ t. if t then x else y) ((Decides-eqb k k).1 refl)
