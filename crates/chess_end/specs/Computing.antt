use Rattle.std.specs.Prelude.{Bool, true, false, ◌&&◌, ◌||◌, not, List, [], ◌∷◌, Option, Some, None}
use Rattle.std.specs.List.{list_any, list_all}
use Rattle.chess_bits.specs.declared.men.Colour.{Colour}
use Rattle.chess_bits.specs.declared.men.Kind.TheVariants.{Knight, Bishop, King}
use Rattle.chess_bits.specs.Square.{Square, is_square, squares}
use Rattle.chess_bits.specs.Man.{Man, is_of, is_kind, holds}
use Rattle.chess_bits.specs.Placement.{Placement, man_at}
use Rattle.chess_board.specs.Position.{Position, is_in_check}
use Rattle.chess_board.specs.Computing.{legal_moves_of}
use Rattle.chess_end.specs.Material.{is_dark}

-- The relations of `Material`, checkmate and stalemate as tests, which compute.

-- a man other than a king
abbrev pub is_other : Man → Bool
is_other man = not (is_kind King man.1)

-- no man stands there, or it is so
abbrev pub fits : (Man → Bool) → Option Man → Bool
fits is None = true
fits is (Some man) = is man

abbrev pub each_man : (Square → Man → Bool) → Placement → Bool
each_man is placement = list_all (λ s. fits (is s) (man_at placement s)) squares

abbrev pub are_kings_alone : Placement → Bool
are_kings_alone placement = each_man (λ s man. is_kind King man.1) placement

abbrev pub are_others_kings : Placement → Square → Bool
are_others_kings placement square = each_man (λ s man. is_square s square || is_kind King man.1) placement

abbrev pub are_kings_and_knight : Placement → Bool
are_kings_and_knight placement =
    list_any (λ s. holds (λ man. is_kind Knight man.1) (man_at placement s) && are_others_kings placement s) squares

abbrev pub is_shade : Bool → Square → Bool
is_shade true s = is_dark s
is_shade false s = not (is_dark s)

abbrev pub are_bishops_on : Bool → Placement → Bool
are_bishops_on dark placement =
    each_man (λ s man. is_kind King man.1 || (is_kind Bishop man.1 && is_shade dark s)) placement

abbrev pub is_listed_dead : Placement → Bool
is_listed_dead placement =
    are_kings_alone placement || (are_kings_and_knight placement || (are_bishops_on true placement || are_bishops_on
    false placement))

abbrev pub has_king_alone : Placement → Colour → Bool
has_king_alone placement side = each_man (λ s man. not (is_of side man) || is_kind King man.1) placement

abbrev pub is_stuck_of : {A : Type 0} → List A → Bool
is_stuck_of [] = true
is_stuck_of (m ∷ ms) = false

abbrev pub is_checkmate : Position → Bool
is_checkmate p = is_in_check p.placement p.side && is_stuck_of (legal_moves_of p)

abbrev pub is_stalemate : Position → Bool
is_stalemate p = not (is_in_check p.placement p.side) && is_stuck_of (legal_moves_of p)
