-- The number that a field tells.
use Rattle.std.proofs.Common.{ℕ, ◌≡◌, ◌^◌, ◌∙◌, List, Option, None, Some, IfSome, decimal, sym, ap, subst, arith}
use Rattle.text_parts.specs.Numbers.{number_below}
use Rattle.text_parts.proofs.Spelled.{Spells, found, number_spelled}
use Rattle.chess_line.specs.Fields.{IsNumber}

told_by : (text : List ℕ) (o : Option ℕ) → IfSome o (Spells (2 ^ 32) text) → IfSome o (λ n. IsNumber n × (text ≡ decimal n))
told_by text None h = tt
told_by text (Some n) h = let small = h.small in (omega (arith, small), h.spelled)

pub some_told : (text : List ℕ) (r : Option ℕ) → r ≡ number_below (2 ^ 32) text →
    IfSome r (λ n. IsNumber n × (text ≡ decimal n))
some_told text r is =
    subst (λ (o : Option ℕ). IfSome o (λ n. IsNumber n × (text ≡ decimal n))) (sym is)
    (told_by text (number_below (2 ^ 32) text) (found (2 ^ 32) text))

pub every_told : (text : List ℕ) (r : Option ℕ) → r ≡ number_below (2 ^ 32) text → (n : ℕ) → IsNumber n →
    text ≡ decimal n → r ≡ Some n
every_told text r is n small e =
    is ∙ (ap (number_below (2 ^ 32)) e ∙ number_spelled (2 ^ 32) n (omega arith) (omega arith))
