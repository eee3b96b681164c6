-- Keys of worked positions, computed.
use Rattle.std.proofs.Common.{◌≡◌, false, List, [], ◌∷◌, Option, None, Some, replicate, refl}
use Rattle.chess_bits.specs.declared.men.Colour.TheVariants.{White, Black}
use Rattle.chess_bits.specs.declared.men.Kind.TheVariants.{Pawn, King}
use Rattle.chess_bits.specs.Square.{square, squares}
use Rattle.chess_bits.specs.Man.{Man}
use Rattle.chess_bits.specs.Table.{at, put}
use Rattle.chess_board.specs.declared.moves.Move.{Move}
use Rattle.chess_board.specs.Initial.{initial}
use Rattle.chess_board.specs.Position.{Position}
use Rattle.chess_board.specs.Next.{next, placement_after, rights_after, target_after, halfmove_after}
use Rattle.chess_repeat.specs.Key.{men_byte, men_bytes, state_byte, target_byte, key_of}
use Rattle.chess_repeat.specs.QuietRun.{quiet_run}

-- a rook on a1 and a knight on b1; a king on e1 and a bishop on f1; a black knight on g8 and a rook on h8
first_byte : men_byte initial.placement 0 ≡ 36
unfolding at
first_byte = refl

third_byte : men_byte initial.placement 2 ≡ 54
unfolding at
third_byte = refl

last_byte : men_byte initial.placement 31 ≡ 202
unfolding at
last_byte = refl

-- rank 1, rank 2, four empty ranks, rank 7, rank 8; White to move with every right, and no target
initial_key : key_of initial ≡
    0x24 ∷ 0x53 ∷ 0x36 ∷ 0x42 ∷ 0x11 ∷ 0x11 ∷ 0x11 ∷ 0x11
    ∷ 0 ∷ 0 ∷ 0 ∷ 0 ∷ 0 ∷ 0 ∷ 0 ∷ 0 ∷ 0 ∷ 0 ∷ 0 ∷ 0 ∷ 0 ∷ 0 ∷ 0 ∷ 0
    ∷ 0x99 ∷ 0x99 ∷ 0x99 ∷ 0x99 ∷ 0xac ∷ 0xdb ∷ 0xbe ∷ 0xca ∷ 0x1e ∷ 64 ∷ []
unfolding at key_of men_bytes target_byte
initial_key = refl

e4 : Move
e4 = record { from = square 5 2; to = square 5 4; promotion = None }

-- Black to move with every right
state_after_e4 : state_byte (next initial e4).side (next initial e4).rights ≡ 31
unfolding e4 rights_after
state_after_e4 = refl

-- after e4 no black pawn can take on e3
no_capture : target_byte (next initial e4) ≡ 64
unfolding at put squares placement_after rights_after target_after halfmove_after target_byte e4
no_capture = refl

-- 4k3/8/8/8/3p4/8/4P3/4K3 w - - 0 1
with_pawn_on_d4 : Position
with_pawn_on_d4 =
    let none : List (Option Man) = replicate 64 None in
    record {
      placement = put (put (put (put none (square 5 1) (Some (White, King))) (square 5 2) (Some (White, Pawn)))
          (square 4 4) (Some (Black, Pawn))) (square 5 8) (Some (Black, King));
      side = White;
      rights = record { white_king = false; white_queen = false; black_king = false; black_queen = false };
      target = None;
      halfmove = 0;
      fullmove = 1;
    }

-- after e4 the pawn on d4 can take on e3, which is square 20
capture : target_byte (next with_pawn_on_d4 e4) ≡ 20
unfolding at put squares placement_after rights_after target_after halfmove_after target_byte e4 with_pawn_on_d4
capture = refl

-- a knight's move is quiet, a pawn's is not
nf3 : Move
nf3 = record { from = square 7 1; to = square 6 3; promotion = None }

quiet_after_nf3 : quiet_run (initial ∷ next initial nf3 ∷ []) ≡ 1
unfolding at put squares placement_after rights_after target_after halfmove_after nf3
quiet_after_nf3 = refl

quiet_after_e4 : quiet_run (next initial nf3 ∷ next initial e4 ∷ []) ≡ 0
unfolding at put squares placement_after rights_after target_after halfmove_after nf3 e4
quiet_after_e4 = refl
