-- How squares follow one another in the eight ways.
use Rattle.std.proofs.Common.{ℕ, zero, suc, ◌≡◌, ◌+◌, ◌<◌, arith}
use Rattle.chess_bits.specs.declared.steps.Step.{Step}
use Rattle.chess_bits.specs.Square.{Square, IsOnBoard, number_of}
use Rattle.chess_bits.specs.Attack.{along, north, east, south, west, north_east, south_east, south_west, north_west}
use Rattle.chess_bits.proofs.TableLemmas.{same_square}
use Rattle.chess_attacks.specs.Ways.{way_step, IsRising, IsFalling}

-- so many steps, and so many more from there, are all of them together
abbrev pub Adds : Step → Type 0
Adds step = (a : Square) (m k : ℕ) → along m step (along k step a) ≡ along (m + k) step a

-- the farther a square lies, the greater is its number
abbrev pub Rises : Step → Type 0
Rises step = (a : Square) (j k : ℕ) → IsOnBoard (along j step a) → IsOnBoard (along k step a) → j < k →
    number_of (along j step a) < number_of (along k step a)

-- the farther a square lies, the less is its number
abbrev pub Falls : Step → Type 0
Falls step = (a : Square) (j k : ℕ) → IsOnBoard (along j step a) → IsOnBoard (along k step a) → j < k →
    number_of (along k step a) < number_of (along j step a)

adds : (step : Step) → ((a : Square) (m k : ℕ) → (along m step (along k step a)).file ≡ (along (m + k) step a).file) →
    ((a : Square) (m k : ℕ) → (along m step (along k step a)).rank ≡ (along (m + k) step a).rank) → Adds step
adds step file rank a m k = same_square (along m step (along k step a)) (along (m + k) step a) (file a m k) (rank a m k)

pub rising-adds : (way : ℕ) → IsRising way → Adds (way_step way)
rising-adds zero rising = adds north (λ a m k. omega arith) (λ a m k. omega arith)
rising-adds (suc zero) rising = adds north_east (λ a m k. omega arith) (λ a m k. omega arith)
rising-adds (suc (suc zero)) rising = adds east (λ a m k. omega arith) (λ a m k. omega arith)
rising-adds (suc (suc (suc zero))) rising = absurd (omega arith)
rising-adds (suc (suc (suc (suc zero)))) rising = absurd (omega arith)
rising-adds (suc (suc (suc (suc (suc zero))))) rising = absurd (omega arith)
rising-adds (suc (suc (suc (suc (suc (suc zero)))))) rising = absurd (omega arith)
rising-adds (suc (suc (suc (suc (suc (suc (suc zero))))))) rising =
    adds north_west (λ a m k. omega arith) (λ a m k. omega arith)
rising-adds (suc (suc (suc (suc (suc (suc (suc (suc n)))))))) rising = absurd (omega arith)

pub rising-rises : (way : ℕ) → IsRising way → Rises (way_step way)
rising-rises zero rising a j k on_j on_k before = omega arith
rising-rises (suc zero) rising a j k on_j on_k before = omega arith
rising-rises (suc (suc zero)) rising a j k on_j on_k before = omega arith
rising-rises (suc (suc (suc zero))) rising a j k on_j on_k before = absurd (omega arith)
rising-rises (suc (suc (suc (suc zero)))) rising a j k on_j on_k before = absurd (omega arith)
rising-rises (suc (suc (suc (suc (suc zero))))) rising a j k on_j on_k before = absurd (omega arith)
rising-rises (suc (suc (suc (suc (suc (suc zero)))))) rising a j k on_j on_k before = absurd (omega arith)
rising-rises (suc (suc (suc (suc (suc (suc (suc zero))))))) rising a j k on_j on_k before = omega arith
rising-rises (suc (suc (suc (suc (suc (suc (suc (suc n)))))))) rising a j k on_j on_k before = absurd (omega arith)

pub falling-adds : (way : ℕ) → IsFalling way → Adds (way_step way)
falling-adds zero falling = absurd (omega arith)
falling-adds (suc zero) falling = absurd (omega arith)
falling-adds (suc (suc zero)) falling = absurd (omega arith)
falling-adds (suc (suc (suc zero))) falling = adds south_east (λ a m k. omega arith) (λ a m k. omega arith)
falling-adds (suc (suc (suc (suc zero)))) falling = adds south (λ a m k. omega arith) (λ a m k. omega arith)
falling-adds (suc (suc (suc (suc (suc zero))))) falling =
    adds south_west (λ a m k. omega arith) (λ a m k. omega arith)
falling-adds (suc (suc (suc (suc (suc (suc zero)))))) falling = adds west (λ a m k. omega arith) (λ a m k. omega arith)
falling-adds (suc (suc (suc (suc (suc (suc (suc n))))))) falling = absurd (omega arith)

pub falling-falls : (way : ℕ) → IsFalling way → Falls (way_step way)
falling-falls zero falling a j k on_j on_k before = absurd (omega arith)
falling-falls (suc zero) falling a j k on_j on_k before = absurd (omega arith)
falling-falls (suc (suc zero)) falling a j k on_j on_k before = absurd (omega arith)
falling-falls (suc (suc (suc zero))) falling a j k on_j on_k before = omega arith
falling-falls (suc (suc (suc (suc zero)))) falling a j k on_j on_k before = omega arith
falling-falls (suc (suc (suc (suc (suc zero))))) falling a j k on_j on_k before = omega arith
falling-falls (suc (suc (suc (suc (suc (suc zero)))))) falling a j k on_j on_k before = omega arith
falling-falls (suc (suc (suc (suc (suc (suc (suc n))))))) falling a j k on_j on_k before = absurd (omega arith)
