-- The number that a text spells.
use Rattle.std.specs.Prelude.{ℕ, ◌^◌, ◌&&◌, nat_lt, List, decimal, Option, None, Some, if◌then◌else◌}
use Rattle.std.specs.Str.{bytes_eq}
use Rattle.std.specs.Str.Parse.{digits_value}

-- the number below a bound that a text spells without a leading zero, and nothing else
unfoldable pub number_below : ℕ → List ℕ → Option ℕ
number_below bound text =
    if nat_lt (digits_value 10 text) bound && bytes_eq (decimal (digits_value 10 text)) text
    then Some (digits_value 10 text)
    else None

-- the same of the numbers of 64 bits
abbrev pub u64_in : List ℕ → Option ℕ
u64_in text = number_below (2 ^ 64) text
