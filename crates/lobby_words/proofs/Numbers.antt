-- The number that a text spells.
use Rattle.std.proofs.Common.{ℕ, ◌≡◌, ◌<◌, ◌^◌, List, Option, None, Some, IfSome, decimal, ap, ◌∙◌, arith}
use Rattle.text_parts.specs.Numbers.{number_below}
use Rattle.text_parts.proofs.Spelled as decimals
use Rattle.text_parts.proofs.Cuts.{before_whole}
use Rattle.text_parts.proofs.Digits.{lacks_below}
use Rattle.lobby_words.specs.Words.{word_of, u32_in}
pub use Rattle.text_parts.proofs.Digits.{own}

-- a number that is found is small, and spelled so
abbrev pub Spells : List ℕ → ℕ → Type 0
Spells text v = decimals.Spells (2 ^ 32) text v

pub found : (text : List ℕ) → IfSome (u32_in text) (Spells text)
unfolding u32_in
found text = decimals.found (2 ^ 32) text

small_of : (text : List ℕ) (o : Option ℕ) → IfSome o (Spells text) → IfSome o (λ g. g < 2 ^ 32)
small_of text None h = tt
small_of text (Some v) h = h.small

pub number_small : (text : List ℕ) → IfSome (u32_in text) (λ g. g < 2 ^ 32)
number_small text = small_of text (u32_in text) (found text)

-- what is written for a number spells it
pub number_spelled : (n : ℕ) → n < 2 ^ 32 → u32_in (decimal n) ≡ Some n
unfolding u32_in
number_spelled n small = decimals.number_spelled (2 ^ 32) n small (omega arith)

-- a number that is read is the one that the text spells
pub spelled_in : (text : List ℕ) (r : Option ℕ) → r ≡ number_below (2 ^ 32) text → r ≡ u32_in text
unfolding u32_in
spelled_in text r is = is

-- and it is one word
pub number_word : (n : ℕ) → n < 2 ^ 32 → u32_in (word_of (decimal n)) ≡ Some n
number_word n small = ap u32_in (before_whole 32 (decimal n) (lacks_below 32 n (omega arith) (omega arith))) ∙ number_spelled n small
