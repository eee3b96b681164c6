-- What an empty set of squares tells of every man.
use Rattle.std.specs.Prelude.{◌≡◌, ◌⊎◌, ◌↔◌, Bool, true, false, not, ◌&&◌, List, [], Option, Some, None, is_some}
use Rattle.std.specs.Bool.{Decides}
use Rattle.std.proofs.Common.{refl, sym, ap, ◌∙◌, inl, inr}
use Rattle.std.proofs.lemmas.Bool.{false≢true}
use Rattle.chess_moves.proofs.Paths.{no_members}
use Rattle.chess_bits.specs.declared.men.Colour.{Colour}
use Rattle.chess_bits.specs.declared.men.Kind.{Kind}
use Rattle.chess_bits.specs.declared.men.Kind.TheVariants.{King}
use Rattle.chess_bits.specs.Square.{Square, IsOnBoard}
use Rattle.chess_bits.specs.Man.{Man, is_of, is_colour, is_kind, holds}
use Rattle.chess_bits.specs.Table.{has, without, members}
use Rattle.chess_bits.specs.Placement.{Placement, man_at}
use Rattle.chess_bits.proofs.ManLemmas.{Decides-is_colour, Decides-is_kind}
use Rattle.chess_bits.proofs.SetLemmas.{has-none}
use Rattle.chess_bits.proofs.Deciding.{like_decides, Decides-is_false}
use Rattle.chess_board.specs.Occupancy.{squares_with, is_a}
use Rattle.chess_board.specs.Position.{occupied_of}
use Rattle.chess_board.proofs.MenLemmas.{each-map, map-same}
use Rattle.chess_board.proofs.AttackLemmas.{has-squares_with}
use Rattle.chess_board.proofs.Candidates.{IsOnBoard-from_man}
use Rattle.chess_end.specs.Material.{EachMan, HasKingAlone}
use Rattle.chess_end.specs.Computing.{is_other}

no_bad : (bad : Man → Bool) (P : Man → Type 0) → ((man : Man) → Decides (not (bad man)) (P man)) → (here : Option Man) →
    ((man : Man) → here ≡ Some man → P man) → holds bad here ≡ false
no_bad bad P decides None each = refl
no_bad bad P decides (Some man) each = (Decides-is_false (bad man)).0 ((decides man).1 (each man refl))

-- A set of the squares whose men are bad is empty just where every man is so.
pub each_man-empty : (set : List Bool) (b : Bool) (placement : Placement) (bad : Square → Man → Bool)
    (P : Square → Man → Type 0) → (b ≡ true) ↔ (members set ≡ []) →
    ((s : Square) → IsOnBoard s → has set s ≡ holds (bad s) (man_at placement s)) →
    ((s : Square) (man : Man) → Decides (not (bad s man)) (P s man)) → (b ≡ true) ↔ EachMan P placement
each_man-empty set b placement bad P is told decides = (
  λ e s man here.
      let on = IsOnBoard-from_man placement s man here in
      let none : has set s ≡ false = has-none set s on (is.0 e) in
      let good : bad s man ≡ false = sym (ap (holds (bad s)) here) ∙ sym (told s on) ∙ none in
      (decides s man).0 (ap not good),
  λ each.
      is.1 (no_members set (λ s on.
      told s on ∙ no_bad (bad s) (P s) (decides s) (man_at placement s) (λ man here. each s man here))),
)

pub Decides-kind : (kind here : Kind) → Decides (is_kind kind here) (here ≡ kind)
Decides-kind kind here = like_decides (λ e. sym e) (λ e. sym e) (Decides-is_kind kind here)

pub Decides-colour : (side here : Colour) → Decides (is_colour side here) (here ≡ side)
Decides-colour side here = like_decides (λ e. sym e) (λ e. sym e) (Decides-is_colour side here)

-- neither is bad
pub either : (a b : Bool) {P Q : Type 0} → Decides a P → Decides b Q → Decides (not (not a && not b)) (P ⊎ Q)
either true b d e = (λ _. inl (d.0 refl), λ _. refl)
either false true d e = (λ _. inr (e.0 refl), λ _. refl)
either false false d e = (λ x. absurd (false≢true x), λ h. elim h [ inl p ↦ d.1 p | inr q ↦ e.1 q ])

-- the one without the other is bad
pub implied : (a b : Bool) {P Q : Type 0} → Decides a P → Decides b Q → Decides (not (a && not b)) (P → Q)
implied true true d e = (λ _ _. e.0 refl, λ _. refl)
implied true false d e = (λ x. absurd (false≢true x), λ f. e.1 (f (d.0 refl)))
implied false b d e = (λ _ p. absurd (false≢true (d.1 p)), λ _. refl)

same_without : (f g : Man → Bool) (here : Option Man) →
    (holds f here && not (holds g here)) ≡ holds (λ man. f man && not (g man)) here
same_without f g None = refl
same_without f g (Some man) = refl

-- the squares of the men that are so, and not so
pub without-squares_with : (f g : Man → Bool) (placement : Placement) →
    without (squares_with f placement) (squares_with g placement) ≡ squares_with (λ man. f man && not (g man)) placement
unfolding without
without-squares_with f g placement =
    each-map (λ x y. x && not y) (holds f) (holds g) placement
    ∙ map-same (λ here. holds f here && not (holds g here)) (holds (λ man. f man && not (g man))) (same_without f g)
    placement

not_king : (here : Option Man) → (is_some here && not (holds (is_a King) here)) ≡ holds is_other here
not_king None = refl
not_king (Some man) = refl

-- the squares of men other than kings
pub others-set : (placement : Placement) →
    without (occupied_of placement) (squares_with (is_a King) placement) ≡ squares_with is_other placement
unfolding without
others-set placement =
    each-map (λ x y. x && not y) is_some (holds (is_a King)) placement
    ∙ map-same (λ here. is_some here && not (holds (is_a King) here)) (holds is_other) not_king placement

-- what is left of a side without kings
pub king_alone-empty : (placement : Placement) (side : Colour) (set : List Bool) (b : Bool) →
    set ≡ without (squares_with (is_of side) placement) (squares_with (is_a King) placement) →
    (b ≡ true) ↔ (members set ≡ []) → (b ≡ true) ↔ HasKingAlone placement side
king_alone-empty placement side set b made is =
    let bad : Man → Bool = λ man. is_of side man && not (is_a King man) in
    let told = made ∙ without-squares_with (is_of side) (is_a King) placement in
    let each = each_man-empty set b placement (λ s man. bad man) (λ s man. man.0 ≡ side → man.1 ≡ King) is
    (λ s on. ap (λ (bs : List Bool). has bs s) told ∙ has-squares_with bad placement s)
    (λ s man. implied (is_colour side man.0) (is_kind King man.1) (Decides-colour side man.0) (Decides-kind King man.1)) in (
      λ e s kind here. each.0 e s (side, kind) here refl,
      λ alone. each.1 (λ s man here same. alone s man.1 (here ∙ ap (λ (c : Colour). there c man.1) same)),
    )
  where
    there : Colour → Kind → Option Man
    there colour kind = Some (colour, kind)
