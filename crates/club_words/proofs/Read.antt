-- The number that an option's value is read as.
use Rattle.std.proofs.Common.{ℕ, ◌≡◌, ◌<◌, ◌^◌, List, Option, None, Some, Result, Ok, Err, decimal, refl, ap, arith}
use Rattle.std.specs.Prelude.{is_ok}
use Rattle.std.proofs.lemmas.Bool.{false≢true}
use Rattle.std.proofs.lemmas.Fmt.{parse-decimal}
use Rattle.std.specs.Str.Parse.{ParsesUnsigned}
use Rattle.clap.specs.Words.{ReadsOne}

abbrev or_0 : {E : Type 0} → Result ℕ E → ℕ
or_0 (Ok n) = n
or_0 (Err e) = 0

-- digits are read as their number
pub reads_number : {E : Type 0} (Gives : List ℕ → Result ℕ E → Type 0) (n : ℕ) (number : Option ℕ) → n < 2 ^ 32 →
    ReadsOne Gives (decimal n) number → ((text : List ℕ) (r : Result ℕ E) → Gives text r → ParsesUnsigned 32 10 text r) → number ≡ Some n
reads_number {E} Gives n None small h parses =
    absurd (false≢true (ap (λ (r : Result ℕ E). is_ok r) (parse-decimal 32 n (decimal n) (Err h.0) small (omega (arith, small)) refl (parses (decimal n) (Err h.0) h.1))))
reads_number {E} Gives n (Some m) small h parses =
    ap Some (ap (λ (r : Result ℕ E). or_0 r) (parse-decimal 32 n (decimal n) (Ok m) small (omega (arith, small)) refl (parses (decimal n) (Ok m) h)))
