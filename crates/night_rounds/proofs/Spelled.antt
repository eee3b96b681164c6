-- Numbers below 2 ^ 32, as they are spelled.
use Rattle.std.proofs.Common.{ℕ, ◌≡◌, ◌<◌, ◌^◌, decimal, ap, arith}
use Rattle.text_parts.proofs.Cuts.{Lacks}
use Rattle.text_parts.proofs.Digits as digits
use Rattle.lobby_words.specs.Words.{or_0, number_or_0}
use Rattle.lobby_words.proofs.Numbers.{number_spelled}

-- such a number has digits alone
pub lacks_below : (c n : ℕ) → c < 48 → n < 2 ^ 32 → Lacks c (decimal n)
lacks_below c n low small = digits.lacks_below c n low (omega arith)

pub lacks_above : (c n : ℕ) → 57 < c → n < 2 ^ 32 → Lacks c (decimal n)
lacks_above c n high small = digits.lacks_above c n high (omega arith)

pub number_back : (n : ℕ) → n < 2 ^ 32 → number_or_0 (decimal n) ≡ n
number_back n small = ap or_0 (number_spelled n small)
