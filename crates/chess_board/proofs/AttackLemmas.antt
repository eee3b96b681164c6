use Rattle.std.proofs.Common.{◌≡◌, ◌⊎◌, Bool, true, false, ◌&&◌, ◌||◌, not, List, Option, None, Some, refl, ap, sym, ◌∙◌, inl, inr}
use Rattle.std.specs.List.{list_all}
use Rattle.chess_bits.specs.declared.men.Colour.{Colour}
use Rattle.chess_bits.specs.declared.men.Kind.{Kind}
use Rattle.chess_bits.specs.declared.men.Kind.TheVariants.{Pawn}
use Rattle.chess_bits.specs.Square.{Square, squares}
use Rattle.chess_bits.specs.Man.{Man, is_of, is_man, holds}
use Rattle.chess_bits.specs.Table.{has, meet, members}
use Rattle.chess_bits.proofs.TableLemmas.{at-map}
use Rattle.chess_bits.proofs.ManLemmas.{holds-is_man, holds-is_man_same, is_colour-same}
use Rattle.chess_bits.proofs.AlongLemmas.{list_all-filter, list_all-same}
use Rattle.chess_board.specs.Occupancy.{squares_with, is_a}
use Rattle.chess_board.specs.Position.{Placement, man_at}
use Rattle.chess_board.specs.Computing.{is_inside}
use Rattle.chess_board.proofs.MenLemmas.{each-map, map-same}

-- whether a square is in a set tells of the man on it
pub has-squares_with : (is : Man → Bool) (placement : List (Option Man)) (s : Square) →
    has (squares_with is placement) s ≡ holds is (man_at placement s)
has-squares_with is placement s = at-map (holds is) None false placement s refl

pub has-own : (placement : List (Option Man)) (side : Colour) (kind : Kind) (s : Square) →
    man_at placement s ≡ Some (side, kind) → has (squares_with (is_of side) placement) s ≡ true
has-own placement side k s e = has-squares_with (is_of side) placement s ∙ ap (holds (is_of side)) e
    ∙ is_colour-same side

-- the squares of the men of a side that are of a kind
pub meet-is_man : (placement : Placement) (side : Colour) (kind : Kind) →
    meet (squares_with (is_of side) placement) (squares_with (is_a kind) placement) ≡
    squares_with (is_man (side, kind)) placement
unfolding meet
meet-is_man placement side kind =
    each-map (λ x y. x && y) (holds (is_of side)) (holds (is_a kind)) placement
    ∙ map-same (λ here. holds (is_of side) here && holds (is_a kind) here) (holds (is_man (side, kind))) same placement
  where
    same : (here : Option Man) →
        (holds (is_of side) here && holds (is_a kind) here) ≡ holds (is_man (side, kind)) here
    same None = refl
    same (Some man) = refl

-- a square is among those of a man exactly where the man stands there
pub has-man : (placement : Placement) (side : Colour) (kind : Kind) (s : Square) →
    man_at placement s ≡ Some (side, kind) → has (squares_with (is_man (side, kind)) placement) s ≡ true
has-man placement side kind s e =
    has-squares_with (is_man (side, kind)) placement s
    ∙ holds-is_man_same (side, kind) (man_at placement s) e

pub man-has : (placement : Placement) (side : Colour) (kind : Kind) (s : Square) →
    has (squares_with (is_man (side, kind)) placement) s ≡ true → man_at placement s ≡ Some (side, kind)
man-has placement side kind s e =
    holds-is_man (side, kind) (man_at placement s) (sym (has-squares_with (is_man (side, kind)) placement s) ∙ e)

-- the pawns are inside where each square with a pawn is
pub pawns_inside : (placement : List (Option Man)) → list_all is_inside (members (squares_with (is_a Pawn) placement)) ≡
    list_all (λ s. not (holds (is_a Pawn) (man_at placement s)) || is_inside s) squares
unfolding members
pawns_inside placement =
    list_all-filter is_inside (has (squares_with (is_a Pawn) placement)) squares
    ∙ list_all-same (λ s. not (has (squares_with (is_a Pawn) placement) s) || is_inside s)
    (λ s. not (holds (is_a Pawn) (man_at placement s)) || is_inside s) squares
    (λ s. ap (λ (b : Bool). not b || is_inside s) (has-squares_with (is_a Pawn) placement s))

pub outside : (s : Square) → (s.rank ≡ 1) ⊎ (s.rank ≡ 8) → is_inside s ≡ false
outside s (inl e) = rw e refl
outside s (inr e) = rw e refl
