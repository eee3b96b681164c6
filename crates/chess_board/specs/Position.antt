use Rattle.std.specs.Prelude.{ℕ, ◌≡◌, ◌≢◌, ◌≤◌, Bool, true, false, ◌&&◌, length, Option, Some, None, count_by}
use Rattle.std.specs.List.{list_any}
use Rattle.chess_bits.specs.declared.men.Colour.{Colour}
use Rattle.chess_bits.specs.declared.men.Colour.TheVariants.{White, Black}
use Rattle.chess_bits.specs.declared.men.Kind.{Kind}
use Rattle.chess_bits.specs.declared.men.Kind.TheVariants.{Pawn, Rook, King}
use Rattle.chess_bits.specs.Square.{Square, IsOnBoard, squares}
use Rattle.chess_bits.specs.Man.{Man, other, is_man, is_of, holds}
pub use Rattle.chess_bits.specs.Placement.{Placement, man_at, occupied_of}
use Rattle.chess_bits.specs.Attack.{along, forward, Attacks, attacks}
use Rattle.chess_board.specs.declared.castling.Wing.{Wing}
use Rattle.chess_board.specs.declared.castling.Wing.TheVariants as wing

-- the castling rights that are left (FIDE article 3.8.2.1)
pub record Rights : Type 0 where
  pub white_king : Bool
  pub white_queen : Bool
  pub black_king : Bool
  pub black_queen : Bool

abbrev pub has_right : Rights → Colour → Wing → Bool
has_right rights White wing.King = rights.white_king
has_right rights White wing.Queen = rights.white_queen
has_right rights Black wing.King = rights.black_king
has_right rights Black wing.Queen = rights.black_queen

-- a placement, the side to move, castling rights, en passant target, halfmove clock and fullmove number
pub record Position : Type 0 where
  pub placement : Placement
  pub side : Colour
  pub rights : Rights
  pub target : Option Square
  pub halfmove : ℕ
  pub fullmove : ℕ

-- a man of the side on `a` attacks `b`
pub record IsAttacker (placement : Placement) (side : Colour) (b a : Square) : Type 0 where
  pub kind : Kind
  pub stands : man_at placement a ≡ Some (side, kind)
  pub attacks : Attacks (occupied_of placement) side kind a b

-- some man of the side attacks the square (FIDE article 3.1.3)
abbrev pub IsAttacked : Placement → Colour → Square → Type 0
IsAttacked placement side b = (a : Square) × IsAttacker placement side b a

-- a king of the side stands on a square that the opponent attacks (FIDE article 3.9.1)
abbrev pub IsInCheck : Placement → Colour → Type 0
IsInCheck placement side = (k : Square) × (man_at placement k ≡ Some (side, King)) × IsAttacked placement (other side) k

-- the rank on which a side's pieces start, and the squares from which king and rook castle (FIDE articles 2.3 and
-- 3.8.2)
abbrev pub home_rank : Colour → ℕ
home_rank White = 1
home_rank Black = 8

abbrev pub king_home : Colour → Square
king_home side = record { file = 5; rank = home_rank side }

abbrev pub rook_home : Colour → Wing → Square
rook_home side wing.King = record { file = 8; rank = home_rank side }
rook_home side wing.Queen = record { file = 1; rank = home_rank side }

-- how many men are so
abbrev pub count_of : (Man → Bool) → Placement → ℕ
count_of is placement = count_by (λ here. holds is here) placement

-- one king a side
abbrev pub HasKings : Position → Type 0
HasKings p = (side : Colour) → count_of (is_man (side, King)) p.placement ≡ 1

-- at most 16 men a side
abbrev pub HasFewMen : Position → Type 0
HasFewMen p = (side : Colour) → count_of (is_of side) p.placement ≤ 16

-- no pawn on ranks 1 and 8
abbrev pub HasPawnsInside : Position → Type 0
HasPawnsInside p = (s : Square) (side : Colour) → man_at p.placement s ≡ Some (side, Pawn) → (s.rank ≢ 1) × (s.rank ≢ 8)

-- the side that is not to move is not in check
abbrev pub HasNoCheck : Position → Type 0
HasNoCheck p = ¬ IsInCheck p.placement (other p.side)

-- a castling right has its king and rook at home
abbrev pub HasTrueRights : Position → Type 0
HasTrueRights p = (side : Colour) (wing : Wing) → has_right p.rights side wing ≡ true →
    (man_at p.placement (king_home side) ≡ Some (side, King)) × (man_at p.placement (rook_home side wing) ≡
    Some (side, Rook))

-- the rank of a target by the side to move
abbrev pub target_rank : Colour → ℕ
target_rank White = 6
target_rank Black = 3

-- The square that a pawn of the opponent has just crossed: with White to move an empty square of rank 6, with a
-- black pawn below it and an empty square above it; with Black to move the same, mirrored.
pub record IsTarget (p : Position) (t : Square) : Type 0 where
  pub on_board : IsOnBoard t
  pub rank : t.rank ≡ target_rank p.side
  pub crossed : man_at p.placement t ≡ None
  pub pawn : man_at p.placement (along 1 (forward (other p.side)) t) ≡ Some (other p.side, Pawn)
  pub left : man_at p.placement (along 1 (forward p.side) t) ≡ None

abbrev pub HasTrueTarget : Position → Type 0
HasTrueTarget p = (t : Square) → p.target ≡ Some t → IsTarget p t

-- the counters' ranges
abbrev pub HasCounters : Position → Type 0
HasCounters p = (p.halfmove ≤ 65535) × (1 ≤ p.fullmove) × (p.fullmove ≤ 65535)

-- a valid position
pub record IsValid (p : Position) : Type 0 where
  pub whole : length p.placement ≡ 64
  pub kings : HasKings p
  pub men : HasFewMen p
  pub pawns : HasPawnsInside p
  pub check : HasNoCheck p
  pub rights : HasTrueRights p
  pub target : HasTrueTarget p
  pub counters : HasCounters p

-- attacks on a square of the board and check as tests, which compute
abbrev pub is_attacker : Placement → Colour → Square → Option Man → Square → Bool
is_attacker placement side b None a = false
is_attacker placement side b (Some man) a = is_of side man && attacks (occupied_of placement) side man.1 a b

abbrev pub is_attacked : Placement → Colour → Square → Bool
is_attacked placement side b = list_any (λ a. is_attacker placement side b (man_at placement a) a) squares

abbrev pub is_in_check : Placement → Colour → Bool
is_in_check placement side = list_any (λ k. holds (is_man (side, King))
    (man_at placement k) && is_attacked placement (other side) k) squares
