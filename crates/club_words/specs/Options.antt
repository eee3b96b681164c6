-- What the options of a command line say.
use Rattle.std.specs.Prelude.{ℕ, ◌≡◌, ◌<◌, ◌^◌, List, Option, None, Some, codes, decimal}
use Rattle.clap.specs.declared.parser.matches.Found.{Found}
use Rattle.clap.specs.Words.{one_text}

-- An option says this number: the one below 2 ^ 32 whose digits are its value, and where it is not given the other.
pub record SaysNumber (found : Found) (option : List ℕ) (other number : ℕ) : Type 0 where
  pub absent : one_text found option ≡ None → number ≡ other
  pub given : (n : ℕ) → n < 2 ^ 32 → one_text found option ≡ Some (decimal n) → number ≡ n

-- the same, where there is no other
pub record MaySayNumber (found : Found) (option : List ℕ) (number : Option ℕ) : Type 0 where
  pub absent : one_text found option ≡ None → number ≡ None
  pub given : (n : ℕ) → n < 2 ^ 32 → one_text found option ≡ Some (decimal n) → number ≡ Some n
