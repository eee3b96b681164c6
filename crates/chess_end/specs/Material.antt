use Rattle.std.specs.Prelude.{◌≡◌, ◌≢◌, ◌+◌, ◌%◌, ◌==◌, ◌⊎◌, Bool, Some}
use Rattle.chess_bits.specs.declared.men.Colour.{Colour}
use Rattle.chess_bits.specs.declared.men.Kind.{Kind}
use Rattle.chess_bits.specs.declared.men.Kind.TheVariants.{Knight, Bishop, King}
use Rattle.chess_bits.specs.Square.{Square}
use Rattle.chess_bits.specs.Man.{Man}
use Rattle.chess_bits.specs.Placement.{Placement, man_at}

-- The squares are alternately light and dark, and a1 is dark (FIDE article 2.1).
abbrev pub is_dark : Square → Bool
is_dark s = (s.file + s.rank) % 2 == 0

-- every man, with the square on which it stands, is so
abbrev pub EachMan : (Square → Man → Type 0) → Placement → Type 0
EachMan P placement = (s : Square) (man : Man) → man_at placement s ≡ Some man → P s man

-- both kings alone
abbrev pub AreKingsAlone : Placement → Type 0
AreKingsAlone placement = EachMan (λ s man. man.1 ≡ King) placement

-- the kings and one knight, of either side
pub record AreKingsAndKnight (placement : Placement) : Type 0 where
  pub square : Square
  pub side : Colour
  pub knight : man_at placement square ≡ Some (side, Knight)
  pub others : EachMan (λ s man. s ≢ square → man.1 ≡ King) placement

-- a bishop on a square of the colour
abbrev pub IsBishopOn : Bool → Square → Man → Type 0
IsBishopOn dark s man = (man.1 ≡ Bishop) × (is_dark s ≡ dark)

-- the kings alone, or with any number of bishops of either side on squares of the colour
abbrev pub AreBishopsOn : Bool → Placement → Type 0
AreBishopsOn dark placement = EachMan (λ s man. (man.1 ≡ King) ⊎ IsBishopOn dark s man) placement

-- the kings and any number of bishops of either side, all on squares of one colour
abbrev pub AreKingsAndBishops : Placement → Type 0
AreKingsAndBishops placement = (dark : Bool) × AreBishopsOn dark placement

-- Material with which no series of legal moves leads to checkmate (FIDE articles 1.5 and 5.2.2). The list is this
-- project's own: other dead positions are not found. It is meant for valid positions, in which each side has its king.
abbrev pub IsListedDead : Placement → Type 0
IsListedDead placement = AreKingsAlone placement ⊎ AreKingsAndKnight placement ⊎ AreKingsAndBishops placement

-- the side has its king alone
abbrev pub HasKingAlone : Placement → Colour → Type 0
HasKingAlone placement side = (s : Square) (kind : Kind) → man_at placement s ≡ Some (side, kind) → kind ≡ King
