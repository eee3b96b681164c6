-- For whom connections act.
use Rattle.std.proofs.Common.{ℕ, ◌≡◌, ◌==◌, ◌||◌, true, false, List, [], ◌∷◌, Option, None, Some, refl, ap, sym, ◌∙◌}
use Rattle.std.specs.Prelude.{is_some, if◌then◌else◌, option_and_then, cond}
use Rattle.std.specs.Cmp.{nat_cmp_is, both_ways}
use Rattle.std.specs.Ordering.{is_eq, nat_cmp, eq_by_cmp}
use Rattle.std.specs.Set.{is_member}
use Rattle.std.specs.declared.cmp.Ordering.{Ordering}
use Rattle.std.specs.declared.cmp.Ordering.TheVariants.{Less, Equal, Greater}
use Rattle.std.proofs.lemmas.Bool.{false≢true}
use Rattle.std.proofs.lemmas.Bool.Decides.{Decides-eqb}
use Rattle.std.proofs.lemmas.Map.Lookups.{exact_unsigned}
use Rattle.lobby_table.specs.declared.visitors.Visitor.{Visitor}
use Rattle.lobby_table.specs.Watching.{at_table}
use Rattle.lobby_table.specs.Visitors.{until_at}

is_equal : (o : Ordering) → is_eq o ≡ true → o ≡ Equal
is_equal Less h = absurd (false≢true h)
is_equal Equal h = refl
is_equal Greater h = absurd (false≢true h)

same_key : (a b : ℕ) → is_eq (nat_cmp a b) ≡ (a == b)
same_key a b =
    both_ways (is_eq (nat_cmp a b)) (a == b)
    (λ h. (Decides-eqb a b).1 (exact_unsigned a b (is_equal (nat_cmp a b) h)))
    (λ h. ap is_eq (sym (nat_cmp_is a b Equal ((Decides-eqb a b).0 h))))

-- for whom connection q acts, where this is put at k
pub put_who : (k q : ℕ) (v : Visitor) (o : Option Visitor) →
    option_and_then (λ (w : Visitor). w.who) (cond (is_eq (nat_cmp k q)) (Some v) o)
    ≡ (if k == q then v.who else option_and_then (λ (w : Visitor). w.who) o)
put_who k q v o =
    ap (λ b. option_and_then (λ (w : Visitor). w.who) (cond b (Some v) o)) (same_key k q)
    ∙ elim (k == q) as (λ b. option_and_then (λ (w : Visitor). w.who) (cond b (Some v) o) ≡ (if b then v.who else option_and_then (λ (w : Visitor). w.who) o)) [
      | true ↦ refl
      | false ↦ refl
    ]

pub removed_who : (k q : ℕ) (o : Option Visitor) →
    option_and_then (λ (w : Visitor). w.who) (cond (is_eq (nat_cmp k q)) None o)
    ≡ (if k == q then None else option_and_then (λ (w : Visitor). w.who) o)
removed_who k q o =
    ap (λ b. option_and_then (λ (w : Visitor). w.who) (cond b None o)) (same_key k q)
    ∙ elim (k == q) as (λ b. option_and_then (λ (w : Visitor). w.who) (cond b None o) ≡ (if b then None else option_and_then (λ (w : Visitor). w.who) o)) [
      | true ↦ refl
      | false ↦ refl
    ]

-- whether connection q is open, where one is put at k, or taken off
pub put_open : (k q : ℕ) (v : Visitor) (o : Option Visitor) → is_some (cond (is_eq (nat_cmp k q)) (Some v) o) ≡ (k == q || is_some o)
put_open k q v o =
    ap (λ b. is_some (cond b (Some v) o)) (same_key k q)
    ∙ elim (k == q) as (λ b. is_some (cond b (Some v) o) ≡ (b || is_some o)) [ true ↦ refl | false ↦ refl ]

pub removed_open : (k q : ℕ) (o : Option Visitor) → is_some (cond (is_eq (nat_cmp k q)) None o) ≡ (if k == q then false else is_some o)
removed_open k q o =
    ap (λ b. is_some (cond b None o)) (same_key k q)
    ∙ elim (k == q) as (λ b. is_some (cond b None o) ≡ (if b then false else is_some o)) [ true ↦ refl | false ↦ refl ]

swap : (a b : ℕ) → (a == b) ≡ (b == a)
swap a b = both_ways (a == b) (b == a) (λ h. (Decides-eqb b a).1 (sym ((Decides-eqb a b).0 h))) (λ h. (Decides-eqb a b).1 (sym ((Decides-eqb b a).0 h)))

-- whether a number is among others
pub member_is : (xs : List ℕ) (q : ℕ) → is_member (eq_by_cmp nat_cmp) xs q ≡ at_table xs q
member_is [] q = refl
member_is (x ∷ xs) q =
    ap (λ b. b || is_member (eq_by_cmp nat_cmp) xs q) (same_key q x ∙ swap q x) ∙ ap (λ b. x == q || b) (member_is xs q)

-- until when the time of connection q is taken, where this is put at k, or taken off
pub put_until : (k q : ℕ) (v : Visitor) (o : Option Visitor) →
    until_at (cond (is_eq (nat_cmp k q)) (Some v) o) ≡ (if k == q then v.until else until_at o)
put_until k q v o =
    ap (λ b. until_at (cond b (Some v) o)) (same_key k q)
    ∙ elim (k == q) as (λ b. until_at (cond b (Some v) o) ≡ (if b then v.until else until_at o)) [ true ↦ refl | false ↦ refl ]

pub removed_until : (k q : ℕ) (o : Option Visitor) → (k == q) ≡ false → until_at (cond (is_eq (nat_cmp k q)) None o) ≡ until_at o
removed_until k q o other =
    ap (λ b. until_at (cond b None o)) (same_key k q ∙ other)
