use Rattle.std.specs.Prelude.{ℕ, ◌+◌, Bool, false, ◌&&◌, ◌||◌, ◌==◌, not, if◌then◌else◌, Option, Some, None, is_some}
use Rattle.chess_bits.specs.declared.men.Colour.{Colour}
use Rattle.chess_bits.specs.declared.men.Colour.TheVariants.{White, Black}
use Rattle.chess_bits.specs.declared.men.Kind.{Kind}
use Rattle.chess_bits.specs.declared.men.Kind.TheVariants.{Pawn, Rook, King}
use Rattle.chess_bits.specs.Square.{Square, is_square}
use Rattle.chess_bits.specs.Man.{Man, other, is_kind, holds}
use Rattle.chess_bits.specs.Table.{put}
use Rattle.chess_bits.specs.Attack.{along, forward}
use Rattle.chess_board.specs.declared.castling.Wing.{Wing}
use Rattle.chess_board.specs.declared.castling.Wing.TheVariants as wing
use Rattle.chess_board.specs.declared.moves.Move.{Move}
use Rattle.chess_board.specs.Position.{Position, Placement, Rights, has_right, man_at, king_home, rook_home, home_rank}

-- whether a man of the kind makes the move
abbrev pub moves_kind : Position → Move → Kind → Bool
moves_kind p m kind = holds (λ man. is_kind kind man.1) (man_at p.placement m.from)

-- whether the square is the target
abbrev pub is_target : Option Square → Square → Bool
is_target None s = false
is_target (Some t) s = is_square t s

-- A pawn that reaches the target from another file takes en passant (FIDE article 3.7.3.1).
abbrev pub is_en_passant : Position → Move → Bool
is_en_passant p m = moves_kind p m Pawn && not (m.from.file == m.to.file) && is_target p.target m.to

-- the square of the pawn that is taken en passant: beside the square left, on the file of the square reached
abbrev pub beside : Move → Square
beside m = record { file = m.to.file; rank = m.from.rank }

-- where king and rook stand after castling
abbrev pub castled_king : Colour → Wing → Square
castled_king side wing.King = record { file = 7; rank = home_rank side }
castled_king side wing.Queen = record { file = 3; rank = home_rank side }

-- A king that goes from its home by two files castles, to the wing on whose side it goes (FIDE article 3.8.2).
abbrev pub castles_to : Position → Move → Wing → Bool
castles_to p m wing = moves_kind p m King && is_square m.from (king_home p.side) && is_square m.to
    (castled_king p.side wing)

abbrev pub castled_rook : Colour → Wing → Square
castled_rook side wing.King = record { file = 6; rank = home_rank side }
castled_rook side wing.Queen = record { file = 4; rank = home_rank side }

-- a pawn that goes two squares forward
abbrev pub is_double_advance : Position → Move → Bool
is_double_advance p m = moves_kind p m Pawn && is_square m.to (along 2 (forward p.side) m.from)

-- what a man becomes
abbrev pub became_of : Colour → Option Kind → Option Man → Option Man
became_of side (Some kind) man = Some (side, kind)
became_of side None man = man

-- the man that stands on the square reached: what a pawn became, or the man that moved (FIDE article 3.7.3.3)
abbrev pub became : Position → Move → Option Man
became p m = became_of p.side m.promotion (man_at p.placement m.from)

-- The placement after the move. It loses the square left, the square of a pawn taken en passant and, in castling,
-- the rook's home. It gains the man on the square reached, in place of a man taken there, and, in castling, the
-- rook on the square that the king crossed.
abbrev pub without_taken : Position → Move → Placement → Placement
without_taken p m placement = if is_en_passant p m then put placement (beside m) None else placement

abbrev pub rook_moved : Colour → Wing → Placement → Placement
rook_moved side wing placement = put (put placement (rook_home side wing) None) (castled_rook side wing)
    (Some (side, Rook))

abbrev pub with_rook : Position → Move → Wing → Placement → Placement
with_rook p m wing placement =
    if castles_to p m wing then rook_moved p.side wing placement else placement

unfoldable pub placement_after : Position → Move → Placement
placement_after p m =
    with_rook p m wing.Queen (with_rook p m wing.King
    (put (without_taken p m (put p.placement m.from None)) m.to (became p m)))

-- A right is lost where the move starts or ends on its king's or its rook's home: one of them has moved, or the rook is
-- taken (FIDE article 3.8.2.1).
abbrev pub touches : Move → Square → Bool
touches m s = is_square m.from s || is_square m.to s

abbrev pub keeps_right : Position → Move → Colour → Wing → Bool
keeps_right p m side wing = has_right p.rights side wing && not (touches m (king_home side)) && not (touches m
    (rook_home side wing))

unfoldable pub rights_after : Position → Move → Rights
rights_after p m = record {
  white_king = keeps_right p m White wing.King;
  white_queen = keeps_right p m White wing.Queen;
  black_king = keeps_right p m Black wing.King;
  black_queen = keeps_right p m Black wing.Queen;
}

-- the square that a pawn crossed in a two-square advance
unfoldable pub target_after : Position → Move → Option Square
target_after p m = if is_double_advance p m then Some (along 1 (forward p.side) m.from) else None

-- the clock of moves without a capture or a pawn move (FIDE article 9.3)
unfoldable pub halfmove_after : Position → Move → ℕ
halfmove_after p m =
    if moves_kind p m Pawn || is_some (man_at p.placement m.to) then 0 else p.halfmove + 1

-- the number of the full move, one more after Black's move
abbrev pub fullmove_after : Colour → ℕ → ℕ
fullmove_after White n = n
fullmove_after Black n = n + 1

-- The position after a move by the rules of the man's kind. Of other moves it says nothing of chess.
abbrev pub next : Position → Move → Position
next p m = record {
  placement = placement_after p m;
  side = other p.side;
  rights = rights_after p m;
  target = target_after p m;
  halfmove = halfmove_after p m;
  fullmove = fullmove_after p.side p.fullmove;
}
