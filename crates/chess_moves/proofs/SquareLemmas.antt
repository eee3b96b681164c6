-- What the sets of squares tell of the men.
use Rattle.std.specs.Prelude.{◌≡◌, true, false, not, List, Option, Some, None, is_some}
use Rattle.std.proofs.Common.{refl, sym, ap, ◌∙◌}
use Rattle.std.proofs.lemmas.Bool.{false≢true, not-true}
use Rattle.chess_bits.specs.declared.men.Colour.{Colour}
use Rattle.chess_bits.specs.declared.men.Kind.{Kind}
use Rattle.chess_bits.specs.Square.{Square}
use Rattle.chess_bits.specs.Man.{Man, is_of, holds}
use Rattle.chess_bits.specs.Table.{has}
use Rattle.chess_bits.proofs.TableLemmas.{at-map}
use Rattle.chess_bits.proofs.ManLemmas.{is_colour-true}
use Rattle.chess_board.specs.Occupancy.{squares_with}
use Rattle.chess_board.specs.Position.{man_at, occupied_of}
use Rattle.chess_board.proofs.AttackLemmas.{has-squares_with}

is_some-false : (here : Option Man) → is_some here ≡ false → here ≡ None
is_some-false None e = refl
is_some-false (Some man) e = absurd (false≢true (sym e))

-- a square is empty exactly where the occupied squares lack it
pub empty-from_test : (placement : List (Option Man)) (s : Square) → not (has (occupied_of placement) s) ≡ true →
    man_at placement s ≡ None
empty-from_test placement s e =
    is_some-false (man_at placement s)
    (sym (at-map is_some None false placement s refl) ∙ not-true (has (occupied_of placement) s) e)

pub empty-test : (placement : List (Option Man)) (s : Square) → man_at placement s ≡ None →
    not (has (occupied_of placement) s) ≡ true
empty-test placement s e = ap not (at-map is_some None false placement s refl ∙ ap is_some e)

colour_there : (colour : Colour) (here : Option Man) → holds (is_of colour) here ≡ true →
    (kind : Kind) × (here ≡ Some (colour, kind))
colour_there colour None e = absurd (false≢true e)
colour_there colour (Some (own, kind)) e =
    (kind, ap (λ (c : Colour). Some (c, kind)) (sym (is_colour-true colour own e)))

-- the set of a colour's squares has those that hold the colour
pub colour-from_test : (placement : List (Option Man)) (colour : Colour) (s : Square) →
    has (squares_with (is_of colour) placement) s ≡ true →
    (kind : Kind) × (man_at placement s ≡ Some (colour, kind))
colour-from_test placement colour s e =
    colour_there colour (man_at placement s) (sym (has-squares_with (is_of colour) placement s) ∙ e)
