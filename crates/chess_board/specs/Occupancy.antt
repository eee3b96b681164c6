use Rattle.std.specs.Prelude.{◌≡◌, ◌↔◌, Bool, false, if◌then◌else◌, List, map, Option, Some, None}
use Rattle.chess_bits.specs.declared.men.Kind.{Kind}
use Rattle.chess_bits.specs.Square.{Square}
use Rattle.chess_bits.specs.Man.{Man, is_kind, holds}
use Rattle.chess_bits.specs.Table.{has}
use Rattle.chess_bits.specs.Placement.{Placement, man_at}

-- the squares whose men are so
abbrev pub squares_with : (Man → Bool) → Placement → List Bool
squares_with is placement = map (holds is) placement

-- whether a man is of the kind
abbrev pub is_a : Kind → Man → Bool
is_a kind man = is_kind kind man.1

-- The set has the squares on which the two placements differ: it lacks a square just where the same stands on it.
abbrev pub AreChanges : Placement → Placement → List Bool → Type 0
AreChanges old new set = (s : Square) → has set s ≡ false ↔ man_at old s ≡ man_at new s

-- the man, or none
abbrev pub there_if : Bool → Man → Option Man
there_if stands man = if stands then Some man else None
