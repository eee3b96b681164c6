-- A move that can be kept is that of its number.
use Rattle.std.proofs.Common.{◌≡◌, ◌/◌, ◌%◌, ◌<◌, Option, Some, None, refl, ap, ◌∙◌, arith}
use Rattle.chess_bits.specs.declared.men.Kind.{Kind}
use Rattle.chess_bits.specs.declared.men.Kind.TheVariants.{Pawn, Knight, Bishop, Rook, Queen, King}
use Rattle.chess_bits.specs.Square.{Square, number_of, square_at}
use Rattle.chess_bits.proofs.TableLemmas.{number_of-below, square_at-number_of}
use Rattle.chess_board.specs.declared.moves.Move.{Move}
use Rattle.rec_codec.specs.Moves.{CanBecome, IsStorable, promotion_number, move_code, promotion_of, move_of}

pub promotion_number-below : (p : Option Kind) → promotion_number p < 5
promotion_number-below None = omega arith
promotion_number-below (Some Pawn) = omega arith
promotion_number-below (Some Knight) = omega arith
promotion_number-below (Some Bishop) = omega arith
promotion_number-below (Some Rook) = omega arith
promotion_number-below (Some Queen) = omega arith
promotion_number-below (Some King) = omega arith

pub promotion_of-promotion_number : (p : Option Kind) → CanBecome p → promotion_of (promotion_number p) ≡ p
promotion_of-promotion_number None h = refl
promotion_of-promotion_number (Some Pawn) h = elim h [ ]
promotion_of-promotion_number (Some Knight) h = refl
promotion_of-promotion_number (Some Bishop) h = refl
promotion_of-promotion_number (Some Rook) h = refl
promotion_of-promotion_number (Some Queen) h = refl
promotion_of-promotion_number (Some King) h = elim h [ ]

same_move : (f g t u : Square) (p q : Option Kind) → f ≡ g → t ≡ u → p ≡ q →
    (let a : Move = record { from = f; to = t; promotion = p } in
    a) ≡ (let b : Move = record { from = g; to = u; promotion = q } in b)
same_move f g t u p q a b c = cc

pub move_code-below : (m : Move) → IsStorable m → move_code m < 20480
move_code-below m h =
    omega (arith, number_of-below m.from h.from, number_of-below m.to h.to, promotion_number-below m.promotion)

pub move_of-move_code : (m : Move) → IsStorable m → move_of (move_code m) ≡ m
move_of-move_code m h =
    let f = number_of-below m.from h.from in
    let t = number_of-below m.to h.to in
    let low : move_code m % 64 ≡ number_of m.from = omega arith in
    let mid : move_code m / 64 % 64 ≡ number_of m.to = omega (arith, promotion_number-below m.promotion) in
    let high : move_code m / 4096 ≡ promotion_number m.promotion = omega (arith, promotion_number-below m.promotion) in
    same_move _ m.from _ m.to _ m.promotion (ap square_at low ∙ square_at-number_of m.from h.from)
    (ap square_at mid ∙ square_at-number_of m.to h.to)
    (ap promotion_of high ∙ promotion_of-promotion_number m.promotion h.promotion)
