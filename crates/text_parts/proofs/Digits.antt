-- What is written for a number has digits alone.
use Rattle.std.proofs.Common.{ℕ, ◌<◌, ◌^◌, decimal, refl, arith}
use Rattle.std.specs.Str.Parse.{AllDigits, digits_value}
use Rattle.std.proofs.lemmas.Fmt.{digits_decimal}
use Rattle.std.proofs.lemmas.Str.Parse.{IsNumeralModel, digit_at}
use Rattle.text_parts.proofs.Cuts.{Lacks, lacks_each}

pub own : IsNumeralModel (AllDigits 10) (digits_value 10)
own = record { to = λ _ h. h; from = λ _ h. h; same = λ _ _. refl }

pub lacks_below : (c n : ℕ) → c < 48 → n < 2 ^ 64 → Lacks c (decimal n)
lacks_below c n low small = lacks_each c (decimal n) (λ i below e.
    let digit = digit_at (decimal n) i (digits_decimal own n small) below in omega (arith, digit))

pub lacks_above : (c n : ℕ) → 57 < c → n < 2 ^ 64 → Lacks c (decimal n)
lacks_above c n high small = lacks_each c (decimal n) (λ i below e.
    let digit = digit_at (decimal n) i (digits_decimal own n small) below in omega (arith, digit))
