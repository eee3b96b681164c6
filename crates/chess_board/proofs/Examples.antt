use Prim.Native.String.{String as Text}
use Rattle.std.specs.Prelude.{ℕ, ◌≡◌, ◌+◌, ◌-◌, ◌==◌, ◌&&◌, nat_le, if◌then◌else◌, Bool, true, false, not, List, [], ◌∷◌, ◌++◌, map, replicate, length, slice_index, codes, Option, Some, None, refl}
use Rattle.std.specs.List.{list_any, list_all}
use Rattle.chess_bits.specs.declared.men.Colour.{Colour}
use Rattle.chess_bits.specs.declared.men.Colour.TheVariants.{White, Black}
use Rattle.chess_bits.specs.declared.men.Kind.{Kind}
use Rattle.chess_bits.specs.declared.men.Kind.TheVariants.{Pawn, Knight, Bishop, Rook, Queen, King}
use Rattle.chess_bits.specs.Square.{Square, squares}
use Rattle.chess_bits.specs.Man.{Man}
use Rattle.chess_bits.specs.Table.{at, put}
use Rattle.chess_board.specs.declared.moves.Move.{Move}
use Rattle.chess_board.specs.Position.{Position, Rights}
use Rattle.chess_board.specs.Next.{next, placement_after, rights_after, target_after, halfmove_after}
use Rattle.chess_board.specs.Initial.{initial}
use Rattle.chess_board.specs.Computing.{is_candidate, is_legal, legal_moves_of, is_valid, has_kings, has_few_men, has_pawns_inside, has_no_check, has_true_rights, has_true_target, has_counters}

-- Positions and moves on which the definitions are computed. A position is written by the fields of its FEN, and a
-- move by the squares left and reached, with the letter of what a pawn becomes behind them.

kind_of : ℕ → Kind
kind_of letter =
    if letter == 110 then Knight else if letter == 98 then Bishop else if letter == 114 then Rook
    else if letter == 113 then Queen else if letter == 107 then King else Pawn

-- a digit counts empty squares, a capital letter is a white man, and another letter a black one
men_of : ℕ → List (Option Man)
men_of c =
    if nat_le c 57 then replicate (c - 48) None
    else if nat_le c 90 then Some (White, kind_of (c + 32)) ∷ []
    else Some (Black, kind_of c) ∷ []

-- what is read of the rank, and the ranks below it; a text begins with rank 8, and a `/` (47) ends a rank
add : ℕ → List (Option Man) × List (Option Man) → List (Option Man) × List (Option Man)
add c read = if c == 47 then ([], read.1 ++ read.0) else (men_of c ++ read.0, read.1)

ranks_of : List ℕ → List (Option Man) × List (Option Man)
ranks_of [] = ([], [])
ranks_of (c ∷ cs) = add c (ranks_of cs)

placement_of : Text → List (Option Man)
placement_of text = (ranks_of (codes text)).1 ++ (ranks_of (codes text)).0

square_of : ℕ → ℕ → Square
square_of letter digit = record { file = letter - 96; rank = digit - 48 }

rights_of : List ℕ → Rights
rights_of letters = record {
  white_king = list_any (λ c. c == 75) letters;
  white_queen = list_any (λ c. c == 81) letters;
  black_king = list_any (λ c. c == 107) letters;
  black_queen = list_any (λ c. c == 113) letters;
}

target_of : List ℕ → Option Square
target_of (letter ∷ digit ∷ []) = Some (square_of letter digit)
target_of _ = None

position : Text → Colour → Text → Text → ℕ → ℕ → Position
position men side rights target halfmove fullmove = record {
  placement = placement_of men;
  side = side;
  rights = rights_of (codes rights);
  target = target_of (codes target);
  halfmove = halfmove;
  fullmove = fullmove;
}

promotion_of : List ℕ → Option Kind
promotion_of (a ∷ b ∷ c ∷ d ∷ letter ∷ []) = Some (kind_of letter)
promotion_of _ = None

move : Text → Move
move text = record {
  from = square_of (slice_index (codes text) 0) (slice_index (codes text) 1);
  to = square_of (slice_index (codes text) 2) (slice_index (codes text) 3);
  promotion = promotion_of (codes text);
}

-- opens what reads positions and moves
written : Bool
unfolding kind_of men_of add ranks_of placement_of square_of rights_of target_of position promotion_of move
written = true

-- whether the first moves are legal, and the others not
judges : Position → List Text → List Text → Bool
judges p legal others =
    list_all (λ text. is_legal p (move text)) legal && list_all (λ text. not (is_legal p (move text))) others

-- opens all that the examples compute with
opened : Bool
unfolding at put squares placement_after rights_after target_after halfmove_after written judges
opened = true

-- The start, and positions with well-known numbers of moves.

initial-written : initial ≡ position "rnbqkbnr/pppppppp/8/8/8/8/PPPPPPPP/RNBQKBNR" White "KQkq" "-" 0 1
unfolding opened
initial-written = refl

initial-valid : is_valid initial ≡ true
unfolding opened
initial-valid = refl

initial-moves : length (legal_moves_of initial) ≡ 20
unfolding opened
initial-moves = refl

castling_and_pins :
    length (legal_moves_of
    (position "r3k2r/p1ppqpb1/bn2pnp1/3PN3/1p2P3/2N2Q1p/PPPBBPPP/R3K2R" White "KQkq" "-" 0 1)) ≡ 48
unfolding opened
castling_and_pins = refl

promotion_and_check :
    length (legal_moves_of (position "r3k2r/Pppp1ppp/1b3nbN/nP6/BBP1P3/q4N2/Pp1P2PP/R2Q1RK1" White "kq" "-" 0 1)) ≡ 6
unfolding opened
promotion_and_check = refl

pawns_and_rooks : length (legal_moves_of (position "8/2p5/3p4/KP5r/1R3p1k/8/4P1P1/8" White "-" "-" 0 1)) ≡ 14
unfolding opened
pawns_and_rooks = refl

capturing_promotion :
    length (legal_moves_of (position "rnbq1k1r/pp1Pbppp/2p5/8/2B5/8/PPP1NnPP/RNBQK2R" White "KQ" "-" 1 8)) ≡ 44
unfolding opened
capturing_promotion = refl

middle_game :
    length (legal_moves_of
    (position "r4rk1/1pp1qppp/p1np1n2/2b1p1B1/2B1P1b1/P1NP1N2/1PP1QPPP/R4RK1" White "-" "-" 0 10)) ≡ 46
unfolding opened
middle_game = refl

-- The squares that a pawn crosses and reaches are empty, and it is on its first square (FIDE article 3.7.2).

advances_over : judges (position "4k3/8/8/8/8/4n3/4P3/4K3" White "-" "-" 0 1) [] ("e2e3" ∷ "e2e4" ∷ []) ≡ true
unfolding opened
advances_over = refl

advances_onto : judges (position "4k3/8/8/8/4n3/8/4P3/4K3" White "-" "-" 0 1) ("e2e3" ∷ []) ("e2e4" ∷ []) ≡ true
unfolding opened
advances_onto = refl

advances_later :
    judges (position "4k3/8/8/8/8/4P3/8/4K3" White "-" "-" 0 1) ("e3e4" ∷ []) ("e3e5" ∷ "e3e2" ∷ "e3d4" ∷ []) ≡ true
unfolding opened
advances_later = refl

advances-next :
    next initial (move "e2e4") ≡ position "rnbqkbnr/pppppppp/8/8/4P3/8/PPPP1PPP/RNBQKBNR" Black "KQkq" "e3" 0 1
unfolding opened
advances-next = refl

advances_black-next :
    next (position "4k3/3p4/8/8/8/8/8/4K3" Black "-" "-" 5 7) (move "d7d5") ≡
    position "4k3/8/8/3p4/8/8/8/4K3" White "-" "d6" 0 8
unfolding opened
advances_black-next = refl

-- En passant only on the move after the advance, and the pawn beside is removed (FIDE article 3.7.3.1).

en_passant :
    judges (position "4k3/8/8/3pP3/8/8/8/4K3" White "-" "d6" 0 1) ("e5d6" ∷ "e5e6" ∷ []) ("e5f6" ∷ "e5d5" ∷ []) ≡ true
unfolding opened
en_passant = refl

en_passant_late : judges (position "4k3/8/8/3pP3/8/8/8/4K3" White "-" "-" 0 1) ("e5e6" ∷ []) ("e5d6" ∷ []) ≡ true
unfolding opened
en_passant_late = refl

en_passant-next :
    next (position "4k3/8/8/3pP3/8/8/8/4K3" White "-" "d6" 0 1) (move "e5d6") ≡
    position "4k3/8/3P4/8/8/8/8/4K3" Black "-" "-" 0 1
unfolding opened
en_passant-next = refl

en_passant_black :
    judges (position "4k3/8/8/8/3pP3/8/8/4K3" Black "-" "e3" 0 1) ("d4e3" ∷ "d4d3" ∷ []) ("d4c3" ∷ "d4e4" ∷ []) ≡ true
unfolding opened
en_passant_black = refl

en_passant_black_late :
    judges (position "4k3/8/8/8/3pP3/8/8/4K3" Black "-" "-" 0 1) ("d4d3" ∷ []) ("d4e3" ∷ []) ≡ true
unfolding opened
en_passant_black_late = refl

en_passant_black-next :
    next (position "4k3/8/8/8/3pP3/8/8/4K3" Black "-" "e3" 0 1) (move "d4e3") ≡
    position "4k3/8/8/8/8/4p3/8/4K3" White "-" "-" 0 2
unfolding opened
en_passant_black-next = refl

-- Where two pawns leave the rank together, the rook behind them attacks the king.

uncovering : Position
unfolding opened
uncovering = position "8/8/8/K1pP3r/8/8/8/7k" White "-" "c6" 0 1

uncovering-candidate : is_candidate uncovering (move "d5c6") ≡ true
unfolding opened uncovering
uncovering-candidate = refl

uncovering-legal : judges uncovering ("d5d6" ∷ []) ("d5c6" ∷ []) ≡ true
unfolding opened uncovering
uncovering-legal = refl

-- On the last rank a pawn becomes a queen, a rook, a bishop or a knight, and elsewhere nothing (FIDE article 3.7.3.3).

promotes :
    judges (position "1r5k/P7/6K1/8/8/8/8/8" White "-" "-" 0 1)
    ("a7b8q" ∷ "a7b8r" ∷ "a7b8b" ∷ "a7b8n" ∷ "a7a8q" ∷ []) ("a7b8" ∷ "a7b8k" ∷ "a7b8p" ∷ "a7a8" ∷ []) ≡ true
unfolding opened
promotes = refl

promotes_early :
    judges (position "7k/8/P5K1/8/8/8/8/8" White "-" "-" 0 1) ("a6a7" ∷ "g6f6" ∷ []) ("a6a7q" ∷ "g6f6q" ∷ []) ≡ true
unfolding opened
promotes_early = refl

promotes-next :
    next (position "1r5k/P7/6K1/8/8/8/8/8" White "-" "-" 3 1) (move "a7b8n") ≡
    position "1N5k/8/6K1/8/8/8/8/8" Black "-" "-" 0 1
unfolding opened
promotes-next = refl

-- Castling to both wings, of both colours, also where the rooks are attacked (FIDE article 3.8.2).

castles_white :
    judges (position "r3k2r/8/8/8/8/8/8/R3K2R" White "KQkq" "-" 0 1) ("e1g1" ∷ "e1c1" ∷ []) ("e1h1" ∷ "e1a1" ∷ []) ≡
    true
unfolding opened
castles_white = refl

castles_black :
    judges (position "r3k2r/8/8/8/8/8/8/R3K2R" Black "KQkq" "-" 0 1) ("e8g8" ∷ "e8c8" ∷ []) ("e1g1" ∷ "e8b8" ∷ []) ≡
    true
unfolding opened
castles_black = refl

castles-next :
    next (position "r3k2r/8/8/8/8/8/8/4K3" Black "kq" "-" 0 1) (move "e8g8") ≡
    position "r4rk1/8/8/8/8/8/8/4K3" White "-" "-" 1 2
unfolding opened
castles-next = refl

-- Not with an attack on the square that the king leaves, crosses or reaches.

castles_from_attacked :
    judges (position "4k3/4r3/8/8/8/8/8/R3K2R" White "KQ" "-" 0 1) [] ("e1g1" ∷ "e1c1" ∷ []) ≡ true
unfolding opened
castles_from_attacked = refl

castles_over_attacked_f1 :
    judges (position "4k3/5r2/8/8/8/8/8/R3K2R" White "KQ" "-" 0 1) ("e1c1" ∷ []) ("e1g1" ∷ []) ≡ true
unfolding opened
castles_over_attacked_f1 = refl

castles_to_attacked_g1 :
    judges (position "4k3/6r1/8/8/8/8/8/R3K2R" White "KQ" "-" 0 1) ("e1c1" ∷ []) ("e1g1" ∷ []) ≡ true
unfolding opened
castles_to_attacked_g1 = refl

castles_over_attacked_d1 :
    judges (position "4k3/3r4/8/8/8/8/8/R3K2R" White "KQ" "-" 0 1) ("e1g1" ∷ []) ("e1c1" ∷ []) ≡ true
unfolding opened
castles_over_attacked_d1 = refl

castles_to_attacked_c1 :
    judges (position "4k3/2r5/8/8/8/8/8/R3K2R" White "KQ" "-" 0 1) ("e1g1" ∷ []) ("e1c1" ∷ []) ≡ true
unfolding opened
castles_to_attacked_c1 = refl

castles_black_from_attacked :
    judges (position "r3k2r/8/8/8/8/8/4R3/4K3" Black "kq" "-" 0 1) [] ("e8g8" ∷ "e8c8" ∷ []) ≡ true
unfolding opened
castles_black_from_attacked = refl

castles_black_over_attacked :
    judges (position "r3k2r/8/8/8/8/8/3R1R2/4K3" Black "kq" "-" 0 1) [] ("e8g8" ∷ "e8c8" ∷ []) ≡ true
unfolding opened
castles_black_over_attacked = refl

castles_black_to_attacked :
    judges (position "r3k2r/8/8/8/8/8/2R3R1/4K3" Black "kq" "-" 0 1) [] ("e8g8" ∷ "e8c8" ∷ []) ≡ true
unfolding opened
castles_black_to_attacked = refl

-- Not with a man between, nor without the right. An attack on b1 does not prevent it.

castles_past_knights : judges (position "4k3/8/8/8/8/8/8/RN2K1NR" White "KQ" "-" 0 1) [] ("e1g1" ∷ "e1c1" ∷ []) ≡ true
unfolding opened
castles_past_knights = refl

castles_past_bishops :
    judges (position "r1b1kb1r/8/8/8/8/8/8/4K3" Black "kq" "-" 0 1) [] ("e8g8" ∷ "e8c8" ∷ []) ≡ true
unfolding opened
castles_past_bishops = refl

castles_past_queen : judges (position "4k3/8/8/8/8/8/8/R2QK3" White "Q" "-" 0 1) [] ("e1c1" ∷ []) ≡ true
unfolding opened
castles_past_queen = refl

castles_without_right :
    judges (position "r3k2r/8/8/8/8/8/8/R3K2R" White "Qkq" "-" 0 1) ("e1c1" ∷ []) ("e1g1" ∷ []) ≡ true
unfolding opened
castles_without_right = refl

castles_black_without_right :
    judges (position "r3k2r/8/8/8/8/8/8/R3K2R" Black "KQk" "-" 0 1) ("e8g8" ∷ []) ("e8c8" ∷ []) ≡ true
unfolding opened
castles_black_without_right = refl

castles_past_attacked_b1 : judges (position "4k3/8/8/8/8/8/1r6/R3K3" White "Q" "-" 0 1) ("e1c1" ∷ []) [] ≡ true
unfolding opened
castles_past_attacked_b1 = refl

castles_past_attacked_b1-next :
    next (position "4k3/8/8/8/8/8/1r6/R3K3" White "Q" "-" 0 1) (move "e1c1") ≡
    position "4k3/8/8/8/8/8/1r6/2KR4" Black "-" "-" 1 1
unfolding opened
castles_past_attacked_b1-next = refl

-- A pinned man may move along its pin alone (FIDE article 3.9.2).

pinned_knight : judges (position "4k3/8/8/8/1b6/2N5/8/4K1N1" White "-" "-" 0 1) ("g1e2" ∷ []) ("c3e2" ∷ []) ≡ true
unfolding opened
pinned_knight = refl

pinned_on_file :
    judges (position "k3r3/8/8/8/8/8/4R3/4K3" White "-" "-" 0 1) ("e2e5" ∷ "e2e8" ∷ []) ("e2d2" ∷ "e2h2" ∷ []) ≡ true
unfolding opened
pinned_on_file = refl

pinned_on_rank :
    judges (position "k7/8/8/8/8/8/8/r1R1K3" White "-" "-" 0 1) ("c1d1" ∷ "c1a1" ∷ []) ("c1c2" ∷ "c1c8" ∷ []) ≡ true
unfolding opened
pinned_on_rank = refl

pinned_on_diagonal :
    judges (position "k7/8/8/8/1b6/8/3B4/4K3" White "-" "-" 0 1) ("d2c3" ∷ "d2b4" ∷ []) ("d2e3" ∷ "d2c1" ∷ []) ≡ true
unfolding opened
pinned_on_diagonal = refl

-- Attacked by two men at once the king has to move, and two kings never adjoin. Checkmate and stalemate leave no move.

attacked_twice :
    legal_moves_of (position "k3r3/8/8/8/1b6/8/8/3QK3" White "-" "-" 0 1) ≡ map move ("e1f1" ∷ "e1f2" ∷ [])
unfolding opened
attacked_twice = refl

kings_apart :
    judges (position "8/8/8/4k3/8/4K3/8/8" White "-" "-" 0 1)
    ("e3d3" ∷ "e3f2" ∷ []) ("e3d4" ∷ "e3e4" ∷ "e3f4" ∷ []) ≡ true
unfolding opened
kings_apart = refl

checkmated : legal_moves_of (position "rnb1kbnr/pppp1ppp/8/4p3/6Pq/5P2/PPPPP2P/RNBQKBNR" White "KQkq" "-" 1 3) ≡ []
unfolding opened
checkmated = refl

stalemated : legal_moves_of (position "7k/5Q2/6K1/8/8/8/8/8" Black "-" "-" 0 1) ≡ []
unfolding opened
stalemated = refl

-- Rights are lost where a rook is taken at home, and where a rook or the king moves. The halfmove clock goes on, but
-- for a capture and for a pawn's move, and the number of the full move is one more after Black's move.

rook_takes_rook-next :
    next (position "r3k2r/8/8/8/8/8/4P3/R3K2R" White "KQkq" "-" 7 9) (move "a1a8") ≡
    position "R3k2r/8/8/8/8/8/4P3/4K2R" Black "Kk" "-" 0 9
unfolding opened
rook_takes_rook-next = refl

rook_moves-next :
    next (position "r3k2r/8/8/8/8/8/4P3/R3K2R" White "KQkq" "-" 7 9) (move "h1g1") ≡
    position "r3k2r/8/8/8/8/8/4P3/R3K1R1" Black "Qkq" "-" 8 9
unfolding opened
rook_moves-next = refl

king_moves-next :
    next (position "r3k2r/8/8/8/8/8/4P3/R3K2R" White "KQkq" "-" 7 9) (move "e1d1") ≡
    position "r3k2r/8/8/8/8/8/4P3/R2K3R" Black "kq" "-" 8 9
unfolding opened
king_moves-next = refl

king_castles-next :
    next (position "r3k2r/8/8/8/8/8/4P3/R3K2R" White "KQkq" "-" 7 9) (move "e1g1") ≡
    position "r3k2r/8/8/8/8/8/4P3/R4RK1" Black "kq" "-" 8 9
unfolding opened
king_castles-next = refl

pawn_moves-next :
    next (position "r3k2r/8/8/8/8/8/4P3/R3K2R" White "KQkq" "-" 7 9) (move "e2e3") ≡
    position "r3k2r/8/8/8/8/4P3/8/R3K2R" Black "KQkq" "-" 0 9
unfolding opened
pawn_moves-next = refl

black_king_moves-next :
    next (position "r3k2r/8/8/8/8/8/8/R3K2R" Black "KQkq" "-" 7 9) (move "e8d8") ≡
    position "r2k3r/8/8/8/8/8/8/R3K2R" White "KQ" "-" 8 10
unfolding opened
black_king_moves-next = refl

black_rook_takes_rook-next :
    next (position "r3k2r/8/8/8/8/8/8/R3K2R" Black "KQkq" "-" 7 9) (move "h8h1") ≡
    position "r3k3/8/8/8/8/8/8/R3K2r" White "Qq" "-" 0 10
unfolding opened
black_rook_takes_rook-next = refl

-- Positions that break a condition of a valid position, and their neighbours that do not.

no_king : has_kings (position "8/8/8/8/8/8/8/4K3" White "-" "-" 0 1) ≡ false
unfolding opened
no_king = refl

two_kings : has_kings (position "4k3/8/8/8/8/8/8/3KK3" White "-" "-" 0 1) ≡ false
unfolding opened
two_kings = refl

seventeen_men : has_few_men (position "4k3/8/8/8/8/N7/PPPPPPPP/RNBQKBNR" White "-" "-" 0 1) ≡ false
unfolding opened
seventeen_men = refl

pawn_on_rank_1 : has_pawns_inside (position "4k3/8/8/8/8/8/8/p3K3" White "-" "-" 0 1) ≡ false
unfolding opened
pawn_on_rank_1 = refl

pawn_on_rank_8 : has_pawns_inside (position "P3k3/8/8/8/8/8/8/4K3" White "-" "-" 0 1) ≡ false
unfolding opened
pawn_on_rank_8 = refl

check_passed_over : has_no_check (position "4k3/8/8/8/8/8/8/4RK2" White "-" "-" 0 1) ≡ false
unfolding opened
check_passed_over = refl

check_to_answer : is_valid (position "4k3/8/8/8/8/8/8/4RK2" Black "-" "-" 0 1) ≡ true
unfolding opened
check_to_answer = refl

right_without_rook : has_true_rights (position "4k3/8/8/8/8/8/8/R3K3" White "K" "-" 0 1) ≡ false
unfolding opened
right_without_rook = refl

right_without_king : has_true_rights (position "r2k4/8/8/8/8/8/8/R3K3" White "q" "-" 0 1) ≡ false
unfolding opened
right_without_king = refl

target_without_pawn : has_true_target (position "4k3/8/8/8/8/8/8/4K3" White "-" "d6" 0 1) ≡ false
unfolding opened
target_without_pawn = refl

target_of_other_side : has_true_target (position "4k3/8/8/8/3P4/8/8/4K3" White "-" "d3" 0 1) ≡ false
unfolding opened
target_of_other_side = refl

target_with_way_closed : has_true_target (position "4k3/8/8/8/3P4/8/3B4/4K3" Black "-" "d3" 0 1) ≡ false
unfolding opened
target_with_way_closed = refl

target_of_pawn : is_valid (position "4k3/8/8/8/3P4/8/8/4K3" Black "-" "d3" 0 1) ≡ true
unfolding opened
target_of_pawn = refl

fullmove_zero : has_counters (position "4k3/8/8/8/8/8/8/4K3" White "-" "-" 0 0) ≡ false
unfolding opened
fullmove_zero = refl

halfmove_past_range : has_counters (position "4k3/8/8/8/8/8/8/4K3" White "-" "-" 65536 1) ≡ false
unfolding opened
halfmove_past_range = refl
