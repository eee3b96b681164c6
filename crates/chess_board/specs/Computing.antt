use Rattle.std.specs.Prelude.{Bool, true, false, ◌&&◌, ◌||◌, ◌==◌, not, nat_le, List, [], ◌∷◌, length, filter, flat_map}
use Rattle.std.specs.Prelude.{Option, Some, None, is_none}
use Rattle.std.specs.List.{list_all}
use Rattle.chess_bits.specs.declared.men.Colour.{Colour}
use Rattle.chess_bits.specs.declared.men.Colour.TheVariants.{White, Black}
use Rattle.chess_bits.specs.declared.men.Kind.{Kind}
use Rattle.chess_bits.specs.declared.men.Kind.TheVariants.{Pawn, Knight, Bishop, Rook, Queen, King}
use Rattle.chess_bits.specs.Square.{Square, on_board, is_square, squares}
use Rattle.chess_bits.specs.Man.{other, is_man, is_of, is_kind, holds}
use Rattle.chess_bits.specs.Attack.{along, forward, pawn_attacks, reaches, attacks}
use Rattle.chess_board.specs.declared.castling.Wing.{Wing}
use Rattle.chess_board.specs.declared.castling.Wing.TheVariants as wing
use Rattle.chess_board.specs.declared.moves.Move.{Move}
use Rattle.chess_board.specs.Position.{Position, has_right, man_at, occupied_of, king_home, rook_home, target_rank}
use Rattle.chess_board.specs.Position.{count_of, is_attacked, is_in_check}
use Rattle.chess_board.specs.Next.{next, is_target, castled_king, castled_rook}
use Rattle.chess_board.specs.Legal.{last_rank, pawn_rank, between}

-- The relations of `Legal` and the conditions of a valid position as tests, which compute.

-- a man of the colour stands on the square
abbrev pub holds_colour : Position → Square → Colour → Bool
holds_colour p s side = holds (is_of side) (man_at p.placement s)

abbrev pub is_empty : Position → Square → Bool
is_empty p s = is_none (man_at p.placement s)

abbrev pub is_promotion_kind : Kind → Bool
is_promotion_kind Queen = true
is_promotion_kind Rook = true
is_promotion_kind Bishop = true
is_promotion_kind Knight = true
is_promotion_kind _ = false

abbrev pub is_promotion : Colour → Square → Option Kind → Bool
is_promotion side to None = not (to.rank == last_rank side)
is_promotion side to (Some kind) = (to.rank == last_rank side) && is_promotion_kind kind

abbrev pub advances : Position → Move → Bool
advances p m = is_square m.to (along 1 (forward p.side) m.from) && is_empty p m.to

abbrev pub advances_two : Position → Move → Bool
advances_two p m =
    (m.from.rank == pawn_rank p.side) && (is_square m.to (along 2 (forward p.side) m.from)
    && (is_empty p (along 1 (forward p.side) m.from) && is_empty p m.to))

abbrev pub pawn_takes : Position → Move → Bool
pawn_takes p m = reaches (pawn_attacks p.side) m.from m.to && holds_colour p m.to (other p.side)

abbrev pub takes_en_passant : Position → Move → Bool
takes_en_passant p m = reaches (pawn_attacks p.side) m.from m.to && is_target p.target m.to

abbrev pub is_pawn_move : Position → Move → Bool
is_pawn_move p m =
    is_promotion p.side m.to m.promotion
    && (advances p m || (advances_two p m || (pawn_takes p m || takes_en_passant p m)))

abbrev pub is_piece_move : Position → Move → Kind → Bool
is_piece_move p m kind =
    is_none m.promotion && (not (holds_colour p m.to p.side)
    && attacks (occupied_of p.placement) p.side kind m.from m.to)

abbrev pub is_unattacked : Position → Square → Bool
is_unattacked p s = not (is_attacked p.placement (other p.side) s)

abbrev pub castles : Position → Move → Wing → Bool
castles p m wing =
    has_right p.rights p.side wing && (is_square m.from (king_home p.side)
    && (is_square m.to (castled_king p.side wing) && (is_none m.promotion
    && (list_all (is_empty p) (between p.side wing)
    && list_all (is_unattacked p) (king_home p.side ∷ castled_rook p.side wing ∷ castled_king p.side wing ∷ [])))))

abbrev pub is_move_of : Position → Move → Kind → Bool
is_move_of p m Pawn = is_pawn_move p m
is_move_of p m Knight = is_piece_move p m Knight
is_move_of p m Bishop = is_piece_move p m Bishop
is_move_of p m Rook = is_piece_move p m Rook
is_move_of p m Queen = is_piece_move p m Queen
is_move_of p m King = is_piece_move p m King || (castles p m wing.King || castles p m wing.Queen)

abbrev pub is_candidate : Position → Move → Bool
is_candidate p m =
    holds (λ man. is_of p.side man && is_move_of p m man.1) (man_at p.placement m.from) && on_board m.to

abbrev pub is_legal : Position → Move → Bool
is_legal p m = is_candidate p m && not (is_in_check (next p m).placement p.side)

-- the moves from a square to another, with each promotion and without
abbrev pub moves_between : Square → Square → List Move
moves_between from to =
    record { from = from; to = to; promotion = None } ∷
    record { from = from; to = to; promotion = Some Queen } ∷
    record { from = from; to = to; promotion = Some Rook } ∷
    record { from = from; to = to; promotion = Some Bishop } ∷
    record { from = from; to = to; promotion = Some Knight } ∷ []

-- those from a square to any other
abbrev pub moves_from : Square → List Move
moves_from from = flat_map (moves_between from) squares

-- the legal moves, by rising number of the square left and of the square reached
abbrev pub legal_moves_of : Position → List Move
legal_moves_of p = filter (is_legal p) (flat_map moves_from (filter (λ s. holds_colour p s p.side) squares))

-- whether it is so of both sides
abbrev pub of_both : (Colour → Bool) → Bool
of_both test = test White && test Black

-- the conditions of a valid position
abbrev pub is_whole : Position → Bool
is_whole p = length p.placement == 64

abbrev pub has_kings : Position → Bool
has_kings p = of_both (λ side. count_of (is_man (side, King)) p.placement == 1)

abbrev pub has_few_men : Position → Bool
has_few_men p = of_both (λ side. nat_le (count_of (is_of side) p.placement) 16)

abbrev pub is_inside : Square → Bool
is_inside s = not (s.rank == 1) && not (s.rank == 8)

abbrev pub has_pawns_inside : Position → Bool
has_pawns_inside p =
    list_all (λ s. not (holds (λ man. is_kind Pawn man.1) (man_at p.placement s)) || is_inside s) squares

abbrev pub has_no_check : Position → Bool
has_no_check p = not (is_in_check p.placement (other p.side))

abbrev pub has_true_right : Position → Colour → Wing → Bool
has_true_right p side wing =
    not (has_right p.rights side wing) || (holds (is_man (side, King)) (man_at p.placement (king_home side))
    && holds (is_man (side, Rook)) (man_at p.placement (rook_home side wing)))

abbrev pub has_true_rights : Position → Bool
has_true_rights p = of_both (λ side. has_true_right p side wing.King && has_true_right p side wing.Queen)

abbrev pub is_true_target : Position → Option Square → Bool
is_true_target p None = true
is_true_target p (Some t) =
    on_board t && ((t.rank == target_rank p.side) && (is_empty p t
    && (holds (is_man (other p.side, Pawn)) (man_at p.placement (along 1 (forward (other p.side)) t))
    && is_empty p (along 1 (forward p.side) t))))

abbrev pub has_true_target : Position → Bool
has_true_target p = is_true_target p p.target

abbrev pub has_counters : Position → Bool
has_counters p = nat_le p.halfmove 65535 && (nat_le 1 p.fullmove && nat_le p.fullmove 65535)

abbrev pub is_valid : Position → Bool
is_valid p =
    is_whole p && (has_kings p && (has_few_men p && (has_pawns_inside p && (has_no_check p
    && (has_true_rights p && (has_true_target p && has_counters p))))))
