-- The number that a text spells.
use Rattle.std.proofs.Common.{ℕ, ◌≡◌, ◌<◌, ◌≤◌, ◌^◌, Bool, true, false, ◌&&◌, List, Option, None, Some, IfSome, decimal, refl, sym, ap, subst, ◌∙◌, arith}
use Rattle.std.specs.Prelude.{if◌then◌else◌, nat_lt, SomeIff}
use Rattle.std.specs.Str.{bytes_eq}
use Rattle.std.specs.Str.Parse.{digits_value}
use Rattle.std.proofs.lemmas.Bool.{and_from}
use Rattle.std.proofs.lemmas.Bool.Decides.{nat_tests}
use Rattle.std.proofs.lemmas.Fmt.{digits_value-decimal}
use Rattle.std.proofs.lemmas.Option.{none-some, same_Some}
use Rattle.std.proofs.lemmas.Slice.Eq.{bytes_eq-Decides}
use Rattle.text_parts.specs.Numbers.{number_below}
use Rattle.text_parts.proofs.Digits.{own}

below : (bound v : ℕ) → nat_lt v bound ≡ true → v < bound
below bound v h = grind (arith, nat_tests)

is_below : (bound v : ℕ) → v < bound → nat_lt v bound ≡ true
is_below bound v h = grind (arith, nat_tests)

-- a number that is found is small, and spelled so
pub record Spells (bound : ℕ) (text : List ℕ) (v : ℕ) : Type 0 where
  pub small : v < bound
  pub spelled : text ≡ decimal v

found_at : (bound : ℕ) (text : List ℕ) (v : ℕ) (a b : Bool) → nat_lt v bound ≡ a → bytes_eq (decimal v) text ≡ b →
    IfSome (if a && b then Some v else None) (Spells bound text)
found_at bound text v true true small same =
    record { small = below bound v small; spelled = sym ((bytes_eq-Decides (decimal v) text).0 same) }
found_at bound text v true false small same = tt
found_at bound text v false b small same = tt

pub found : (bound : ℕ) (text : List ℕ) → IfSome (number_below bound text) (Spells bound text)
unfolding number_below
found bound text = let v = digits_value 10 text in
    found_at bound text (digits_value 10 text) (nat_lt (digits_value 10 text) bound) (bytes_eq (decimal (digits_value 10 text)) text) refl refl

-- what is written for a number spells it
pub number_spelled : (bound n : ℕ) → n < bound → n < 2 ^ 64 → number_below bound (decimal n) ≡ Some n
unfolding number_below
number_spelled bound n small wide =
    let value : digits_value 10 (decimal n) ≡ n = digits_value-decimal own n wide in
    let test : (nat_lt n bound && bytes_eq (decimal n) (decimal n)) ≡ true =
    and_from (nat_lt n bound) (bytes_eq (decimal n) (decimal n)) (is_below bound n small) ((bytes_eq-Decides (decimal n) (decimal n)).1 refl) in
    ap (λ (v : ℕ). if nat_lt v bound && bytes_eq (decimal v) (decimal n) then Some v else None) value
    ∙ ap (λ (b : Bool). if b then Some n else None) test

-- the number that a text spells is the one that reading it finds
number_of : (bound : ℕ) (text : List ℕ) (o r : Option ℕ) → bound ≤ 2 ^ 64 → IfSome o (Spells bound text) →
    IfSome r (λ n. (n < bound) × (text ≡ decimal n)) → ((n : ℕ) → n < bound → text ≡ decimal n → r ≡ Some n) →
    number_below bound text ≡ o → r ≡ o
number_of bound text None None most f some every is = refl
number_of bound text None (Some n) most f some every is =
    sym (number_spelled bound n some.0 (let small = some.0 in omega (arith, small))) ∙ (ap (number_below bound) (sym some.1) ∙ is)
number_of bound text (Some v) r most f some every is = every v f.small f.spelled

pub number_read : (bound : ℕ) (text : List ℕ) (r : Option ℕ) → bound ≤ 2 ^ 64 → IfSome r (λ n. (n < bound) × (text ≡ decimal n)) →
    ((n : ℕ) → n < bound → text ≡ decimal n → r ≡ Some n) → r ≡ number_below bound text
number_read bound text r most some every =
    number_of bound text (number_below bound text) r most (found bound text) some every refl

-- Of a number that was read, the same below a lower bound.
none_below : (n : ℕ) (text : List ℕ) → n < 2 ^ 64 → text ≡ decimal n → None ≡ number_below (2 ^ 64) text → ⊥
none_below n text small e none =
    none-some n (none ∙ (ap (number_below (2 ^ 64)) e ∙ number_spelled (2 ^ 64) n small small))

pub none_lower : (bound : ℕ) (text : List ℕ) → bound ≤ 2 ^ 64 → None ≡ number_below (2 ^ 64) text → None ≡ number_below bound text
none_lower bound text most none =
    number_read bound text None most tt (λ n small e. absurd (none_below n text (omega arith) e none))

spells_at : (bound n : ℕ) (text : List ℕ) → Some n ≡ number_below bound text → Spells bound text n
spells_at bound n text e = subst (λ (o : Option ℕ). IfSome o (Spells bound text)) (sym e) (found bound text)

some_at : (bound n : ℕ) (text : List ℕ) (r : Option ℕ) → SomeIff r (n < bound) n → text ≡ decimal n →
    IfSome r (λ m. (m < bound) × (text ≡ decimal m))
some_at bound n text None h e = tt
some_at bound n text (Some m) h e =
    let small : m < bound = subst (λ (k : ℕ). k < bound) (sym h.1) h.0 in (small, e ∙ ap decimal (sym h.1))

every_at : (bound n m : ℕ) (r : Option ℕ) → SomeIff r (n < bound) n → n ≡ m → m < bound → r ≡ Some m
every_at bound n m None h e small = absurd (h (subst (λ (k : ℕ). k < bound) (sym e) small))
every_at bound n m (Some k) h e small = ap Some (h.1 ∙ e)

pub some_lower : (bound n : ℕ) (text : List ℕ) (r : Option ℕ) → bound ≤ 2 ^ 64 → Some n ≡ number_below (2 ^ 64) text →
    SomeIff r (n < bound) n → r ≡ number_below bound text
some_lower bound n text r most e h =
    number_read bound text r most (some_at bound n text r h (spells_at (2 ^ 64) n text e).spelled)
    (λ m small f. every_at bound n m r h
    (same_Some n m (e ∙ (ap (number_below (2 ^ 64)) f ∙ number_spelled (2 ^ 64) m (omega arith) (omega arith)))) small)
