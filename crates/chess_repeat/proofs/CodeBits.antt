-- The bits of what stands on a square, as sets of squares tell them.
use Rattle.std.specs.Prelude.{ℕ, ◌≡◌, ◌+◌, ◌*◌, ◌<◌, Bool, ◌||◌, List, length, Option, Some, None}
use Rattle.std.specs.Int.{from_bool}
use Rattle.std.proofs.Common.{arith, refl, sym, ap, ◌∙◌}
use Rattle.std.proofs.lemmas.List.{length-map}
use Rattle.chess_bits.specs.declared.men.Colour.TheVariants.{White, Black}
use Rattle.chess_bits.specs.declared.men.Kind.{Kind}
use Rattle.chess_bits.specs.declared.men.Kind.TheVariants.{Pawn, Knight, Bishop, Rook, Queen, King}
use Rattle.chess_bits.specs.Square.{Square}
use Rattle.chess_bits.specs.Man.{Man, holds, is_of}
use Rattle.chess_bits.specs.Table.{has, union}
use Rattle.chess_bits.proofs.SetLemmas.{has-union, length-union}
use Rattle.chess_board.specs.Occupancy.{squares_with, is_a}
use Rattle.chess_board.specs.Position.{Placement, man_at}
use Rattle.chess_board.proofs.AttackLemmas.{has-squares_with}
use Rattle.chess_repeat.specs.Key.{squares_of_kinds, here_code}

-- a man of one of three kinds is there
is_one : Kind → Kind → Kind → Option Man → Bool
is_one a b c here = holds (is_a a) here || (holds (is_a b) here || holds (is_a c) here)

has-kinds : (a b c : Kind) (placement : Placement) (s : Square) →
    has (squares_of_kinds a b c placement) s ≡ is_one a b c (man_at placement s)
unfolding is_one
has-kinds a b c placement s =
    let A : List Bool = squares_with (is_a a) placement in
    let B : List Bool = squares_with (is_a b) placement in
    let C : List Bool = squares_with (is_a c) placement in
    let same : length B ≡ length C =
    length-map placement (holds (is_a b)) ∙ sym (length-map placement (holds (is_a c))) in
    let all : length A ≡ length (union B C) =
    length-map placement (holds (is_a a)) ∙ sym (length-union B C same ∙ length-map placement (holds (is_a b))) in
    has-union A (union B C) s all
    ∙ rw (
      has-union B C s same,
      has-squares_with (is_a a) placement s,
      has-squares_with (is_a b) placement s,
      has-squares_with (is_a c) placement s,
    ) refl

bits : Option Man → ℕ
bits here =
    from_bool (is_one Pawn Bishop Queen here) + 2 * from_bool (is_one Knight Bishop King here)
    + 4 * from_bool (is_one Rook Queen King here) + 8 * from_bool (holds (is_of Black) here)

bits-code : (here : Option Man) → bits here ≡ here_code here
unfolding bits is_one
bits-code None = refl
bits-code (Some (White, Pawn)) = refl
bits-code (Some (White, Knight)) = refl
bits-code (Some (White, Bishop)) = refl
bits-code (Some (White, Rook)) = refl
bits-code (Some (White, Queen)) = refl
bits-code (Some (White, King)) = refl
bits-code (Some (Black, Pawn)) = refl
bits-code (Some (Black, Knight)) = refl
bits-code (Some (Black, Bishop)) = refl
bits-code (Some (Black, Rook)) = refl
bits-code (Some (Black, Queen)) = refl
bits-code (Some (Black, King)) = refl

pub set_bits-code : (placement : Placement) (s : Square) →
    from_bool (has (squares_of_kinds Pawn Bishop Queen placement) s)
    + 2 * from_bool (has (squares_of_kinds Knight Bishop King placement) s)
    + 4 * from_bool (has (squares_of_kinds Rook Queen King placement) s)
    + 8 * from_bool (has (squares_with (is_of Black) placement) s) ≡ here_code (man_at placement s)
unfolding bits
set_bits-code placement s =
    rw (
      has-kinds Pawn Bishop Queen placement s,
      has-kinds Knight Bishop King placement s,
      has-kinds Rook Queen King placement s,
      has-squares_with (is_of Black) placement s,
    )
    (bits-code (man_at placement s))

pub here_code-below : (here : Option Man) → here_code here < 16
here_code-below None = omega arith
here_code-below (Some (White, Pawn)) = omega arith
here_code-below (Some (White, Knight)) = omega arith
here_code-below (Some (White, Bishop)) = omega arith
here_code-below (Some (White, Rook)) = omega arith
here_code-below (Some (White, Queen)) = omega arith
here_code-below (Some (White, King)) = omega arith
here_code-below (Some (Black, Pawn)) = omega arith
here_code-below (Some (Black, Knight)) = omega arith
here_code-below (Some (Black, Bishop)) = omega arith
here_code-below (Some (Black, Rook)) = omega arith
here_code-below (Some (Black, Queen)) = omega arith
here_code-below (Some (Black, King)) = omega arith
