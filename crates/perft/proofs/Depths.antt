-- The depth that digits name.
use Rattle.std.proofs.Common.{ℕ, ◌≡◌, ◌≤◌, ◌^◌, ◌∙◌, List, Option, None, Some, IfSome, decimal, sym, ap, subst, arith}
use Rattle.std.specs.Prelude.{◌≢◌, IfNone}
use Rattle.std.proofs.lemmas.Option.{none-some}
use Rattle.text_parts.specs.Numbers.{number_below}
use Rattle.text_parts.proofs.Spelled.{Spells, found, number_spelled}

named_by : (text : List ℕ) (o : Option ℕ) → IfSome o (Spells (2 ^ 8) text) → IfSome o (λ n. text ≡ decimal n)
named_by text None h = tt
named_by text (Some n) h = h.spelled

pub named_some : (text : List ℕ) (r : Option ℕ) → r ≡ number_below (2 ^ 8) text → IfSome r (λ n. text ≡ decimal n)
named_some text r is =
    subst (λ (o : Option ℕ). IfSome o (λ n. text ≡ decimal n)) (sym is)
    (named_by text (number_below (2 ^ 8) text) (found (2 ^ 8) text))

every_named : (text : List ℕ) (r : Option ℕ) → r ≡ number_below (2 ^ 8) text → (n : ℕ) → n ≤ 255 → text ≡ decimal n →
    r ≡ Some n
every_named text r is n small e =
    is ∙ (ap (number_below (2 ^ 8)) e ∙ number_spelled (2 ^ 8) n (omega arith) (omega arith))

pub named_none : (text : List ℕ) (r : Option ℕ) → r ≡ number_below (2 ^ 8) text →
    IfNone r ((n : ℕ) → n ≤ 255 → text ≢ decimal n)
named_none text None is = λ n small e. none-some n (every_named text None is n small e)
named_none text (Some depth) is = tt
