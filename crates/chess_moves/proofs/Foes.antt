-- The sets of the opponent's men that slide and leap.
use Rattle.std.specs.Prelude.{ℕ, ◌≡◌, ◌⊎◌, ◌%◌, Bool, true, List, [], length, Option, Some, None}
use Rattle.std.proofs.Common.{arith, refl, sym, ap, subst, ◌∙◌, inl, inr}
use Rattle.std.proofs.lemmas.Bool.{false≢true}
use Rattle.std.proofs.lemmas.List.{length-map}
use Rattle.chess_bits.specs.declared.men.Colour.{Colour}
use Rattle.chess_bits.specs.declared.men.Kind.{Kind}
use Rattle.chess_bits.specs.declared.men.Kind.TheVariants.{Pawn, Knight, Bishop, Rook, Queen, King}
use Rattle.chess_bits.specs.Square.{Square, IsOnBoard}
use Rattle.chess_bits.specs.Man.{Man, other, is_man, holds}
use Rattle.chess_bits.specs.Table.{union, meet, empty, members, IsSetOf}
use Rattle.chess_bits.specs.Attack.{pawn_attacks, knight_steps, adjoining, Reaches}
use Rattle.chess_bits.proofs.ManLemmas.{is_kind-true, is_kind-same, same_kind}
use Rattle.chess_bits.proofs.SetLemmas.{IsSetOf-union, IsSetOf-like}
use Rattle.chess_bits.proofs.MemberLemmas.{length-members_map}
use Rattle.chess_bits.proofs.Reversal.{Attacks-back}
use Rattle.chess_bits.proofs.ManLemmas.{other-other}
use Rattle.chess_board.specs.Occupancy.{squares_with, is_a}
use Rattle.chess_board.specs.Position.{Position, man_at, IsValid}
use Rattle.chess_board.specs.Legal.{HoldsColour}
use Rattle.chess_board.proofs.AttackLemmas.{has-squares_with}
use Rattle.chess_board.proofs.Candidates.{IsOnBoard-from_man}
use Rattle.chess_moves.specs.Masks.{SlidesIn, IsSlider, Leaps, IsLeaper}
use Rattle.chess_moves.proofs.SetForms.{both_set}

-- a man of the kind stands on the square
abbrev pub HoldsKind : Position → Kind → Square → Type 0
HoldsKind p kind s = (colour : Colour) × (man_at p.placement s ≡ Some (colour, kind))

kind_there : (kind : Kind) (here : Option Man) → holds (is_a kind) here ≡ true →
    (colour : Colour) × (here ≡ Some (colour, kind))
kind_there kind None e = absurd (false≢true e)
kind_there kind (Some (colour, own)) e =
    (colour, ap (λ (k : Kind). Some (colour, k)) (sym (is_kind-true kind own e)))

pub kind_set : (p : Position) (kind : Kind) → length p.placement ≡ 64 →
    IsSetOf (squares_with (is_a kind) p.placement) (HoldsKind p kind)
kind_set p kind whole = record {
  whole = length-map p.placement (holds (is_a kind)) ∙ whole;
  exact = λ s on. (
    (λ here. kind_there kind (man_at p.placement s) (sym (has-squares_with (is_a kind) p.placement s) ∙ here)),
    (λ held. has-squares_with (is_a kind) p.placement s ∙ ap (holds (is_a kind)) held.1 ∙ is_kind-same kind),
  );
}

kind_of : (p : Position) (s : Square) (side : Colour) (kind own : Kind) → HoldsKind p kind s →
    man_at p.placement s ≡ Some (side, own) → own ≡ kind
kind_of p s side kind own held stands =
    sym (same_kind (man_at p.placement s) (held.0, kind) (side, own) held.1 stands)

-- ---- sliders

straight_slides : (kind : Kind) (way : ℕ) → (kind ≡ Rook) ⊎ (kind ≡ Queen) → way % 2 ≡ 0 → SlidesIn kind way
straight_slides kind way (inl e) even = rw e even
straight_slides kind way (inr e) even = rw e tt

slides_straight : (kind : Kind) (way : ℕ) → SlidesIn kind way → way % 2 ≡ 0 → (kind ≡ Rook) ⊎ (kind ≡ Queen)
slides_straight Pawn way slides even = absurd slides
slides_straight Knight way slides even = absurd slides
slides_straight King way slides even = absurd slides
slides_straight Bishop way slides even = absurd (omega arith)
slides_straight Rook way slides even = inl refl
slides_straight Queen way slides even = inr refl

diagonal_slides : (kind : Kind) (way : ℕ) → (kind ≡ Bishop) ⊎ (kind ≡ Queen) → way % 2 ≡ 1 → SlidesIn kind way
diagonal_slides kind way (inl e) odd = rw e odd
diagonal_slides kind way (inr e) odd = rw e tt

slides_diagonal : (kind : Kind) (way : ℕ) → SlidesIn kind way → way % 2 ≡ 1 → (kind ≡ Bishop) ⊎ (kind ≡ Queen)
slides_diagonal Pawn way slides odd = absurd slides
slides_diagonal Knight way slides odd = absurd slides
slides_diagonal King way slides odd = absurd slides
slides_diagonal Rook way slides odd = absurd (omega arith)
slides_diagonal Bishop way slides odd = inl refl
slides_diagonal Queen way slides odd = inr refl

of_kinds : (p : Position) (s : Square) (side : Colour) (a b own : Kind) → man_at p.placement s ≡ Some (side, own) →
    HoldsKind p a s ⊎ HoldsKind p b s → (own ≡ a) ⊎ (own ≡ b)
of_kinds p s side a b own stands (inl held) = inl (kind_of p s side a own held stands)
of_kinds p s side a b own stands (inr held) = inr (kind_of p s side b own held stands)

kinds_of : (p : Position) (s : Square) (side : Colour) (a b own : Kind) → man_at p.placement s ≡ Some (side, own) →
    (own ≡ a) ⊎ (own ≡ b) → HoldsKind p a s ⊎ HoldsKind p b s
kinds_of p s side a b own stands (inl e) = inl (side, stands ∙ ap (λ (k : Kind). Some (side, k)) e)
kinds_of p s side a b own stands (inr e) = inr (side, stands ∙ ap (λ (k : Kind). Some (side, k)) e)

-- the foes of two kinds, where these are the kinds that slide in the way
foes_set : (p : Position) (theirs : List Bool) (way : ℕ) (piece : Kind) → length p.placement ≡ 64 →
    ((own : Kind) → (own ≡ piece) ⊎ (own ≡ Queen) → SlidesIn own way) →
    ((own : Kind) → SlidesIn own way → (own ≡ piece) ⊎ (own ≡ Queen)) →
    IsSetOf theirs (λ s. HoldsColour p s (other p.side)) →
    IsSetOf (meet (union (squares_with (is_a piece) p.placement) (squares_with (is_a Queen) p.placement)) theirs)
    (IsSlider p way)
foes_set p theirs way piece whole slides of_slides of_theirs =
    let pieces : List Bool = squares_with (is_a piece) p.placement in
    let queens : List Bool = squares_with (is_a Queen) p.placement in
    IsSetOf-like (meet (union pieces queens) theirs)
    (λ s. (HoldsKind p piece s ⊎ HoldsKind p Queen s) × HoldsColour p s (other p.side)) (IsSlider p way)
    (both_set (union pieces queens) theirs (λ s. HoldsKind p piece s ⊎ HoldsKind p Queen s)
    (λ s. HoldsColour p s (other p.side))
    (IsSetOf-union pieces queens (HoldsKind p piece) (HoldsKind p Queen) (kind_set p piece whole)
    (kind_set p Queen whole)) of_theirs)
    (λ s on both. (
      both.1.0,
      both.1.1,
      slides both.1.0 (of_kinds p s (other p.side) piece Queen both.1.0 both.1.1 both.0),
    ))
    (λ s on slider. (
      kinds_of p s (other p.side) piece Queen slider.0 slider.1 (of_slides slider.0 slider.2),
      (slider.0, slider.1),
    ))

pub straight_set : (p : Position) (theirs : List Bool) (way : ℕ) → length p.placement ≡ 64 → way % 2 ≡ 0 →
    IsSetOf theirs (λ s. HoldsColour p s (other p.side)) →
    IsSetOf (meet (union (squares_with (is_a Rook) p.placement) (squares_with (is_a Queen) p.placement)) theirs)
    (IsSlider p way)
straight_set p theirs way whole even of_theirs =
    foes_set p theirs way Rook whole (λ own is. straight_slides own way is even)
    (λ own slides. slides_straight own way slides even) of_theirs

pub diagonal_set : (p : Position) (theirs : List Bool) (way : ℕ) → length p.placement ≡ 64 → way % 2 ≡ 1 →
    IsSetOf theirs (λ s. HoldsColour p s (other p.side)) →
    IsSetOf (meet (union (squares_with (is_a Bishop) p.placement) (squares_with (is_a Queen) p.placement)) theirs)
    (IsSlider p way)
diagonal_set p theirs way whole odd of_theirs =
    foes_set p theirs way Bishop whole (λ own is. diagonal_slides own way is odd)
    (λ own slides. slides_diagonal own way slides odd) of_theirs

-- ---- leapers

-- a man of some kind where it sees the square
abbrev SeenLeaper : Position → Square → Square → Type 0
SeenLeaper p k c =
    (Reaches (pawn_attacks p.side) k c × HoldsKind p Pawn c) ⊎
    ((Reaches knight_steps k c × HoldsKind p Knight c) ⊎ (Reaches adjoining k c × HoldsKind p King c))

leaps_to : (p : Position) (k c : Square) (own : Kind) → IsOnBoard c → man_at p.placement c ≡ Some (other p.side, own) →
    SeenLeaper p k c → Leaps (other p.side) own c k
leaps_to p k c own on stands (inl pawn) =
    rw (kind_of p c (other p.side) Pawn own pawn.1 stands) (Attacks-back empty p.side Pawn k c on pawn.0)
leaps_to p k c own on stands (inr (inl knight)) =
    rw (kind_of p c (other p.side) Knight own knight.1 stands) (Attacks-back empty p.side Knight k c on knight.0)
leaps_to p k c own on stands (inr (inr king)) =
    rw (kind_of p c (other p.side) King own king.1 stands) (Attacks-back empty p.side King k c on king.0)

leaps_from : (p : Position) (k c : Square) (own : Kind) → IsOnBoard k → man_at p.placement c ≡ Some (other p.side, own) →
    Leaps (other p.side) own c k → SeenLeaper p k c
leaps_from p k c Pawn on stands leap =
    let Side' : Colour → Type 0 = λ side. Reaches (pawn_attacks side) k c in
    inl (subst Side' (other-other p.side) (Attacks-back empty (other p.side) Pawn c k on leap), (other p.side, stands))
leaps_from p k c Knight on stands leap =
    inr (inl (Attacks-back empty (other p.side) Knight c k on leap, (other p.side, stands)))
leaps_from p k c King on stands leap =
    inr (inr (Attacks-back empty (other p.side) King c k on leap, (other p.side, stands)))
leaps_from p k c Bishop on stands leap = absurd leap
leaps_from p k c Rook on stands leap = absurd leap
leaps_from p k c Queen on stands leap = absurd leap

pub leaper_set : (p : Position) (k : Square) (pawns knights kings theirs : List Bool) → length p.placement ≡ 64 →
    IsOnBoard k → IsSetOf pawns (λ c. Reaches (pawn_attacks p.side) k c) → IsSetOf knights (Reaches knight_steps k) →
    IsSetOf kings (Reaches adjoining k) → IsSetOf theirs (λ s. HoldsColour p s (other p.side)) →
    IsSetOf (meet (union (meet pawns (squares_with (is_a Pawn) p.placement))
    (union (meet knights (squares_with (is_a Knight) p.placement))
    (meet kings (squares_with (is_a King) p.placement)))) theirs) (IsLeaper p k)
leaper_set p k pawns knights kings theirs whole on of_pawns of_knights of_kings of_theirs =
    let Pawns : Square → Type 0 = λ c. Reaches (pawn_attacks p.side) k c × HoldsKind p Pawn c in
    let Knights : Square → Type 0 = λ c. Reaches knight_steps k c × HoldsKind p Knight c in
    let Kings : Square → Type 0 = λ c. Reaches adjoining k c × HoldsKind p King c in
    let p_set : List Bool = meet pawns (squares_with (is_a Pawn) p.placement) in
    let n_set : List Bool = meet knights (squares_with (is_a Knight) p.placement) in
    let k_set : List Bool = meet kings (squares_with (is_a King) p.placement) in
    IsSetOf-like (meet (union p_set (union n_set k_set)) theirs)
    (λ c. SeenLeaper p k c × HoldsColour p c (other p.side)) (IsLeaper p k)
    (both_set (union p_set (union n_set k_set)) theirs (SeenLeaper p k) (λ c. HoldsColour p c (other p.side))
    (IsSetOf-union p_set (union n_set k_set) Pawns (λ c. Knights c ⊎ Kings c)
    (both_set pawns (squares_with (is_a Pawn) p.placement) (λ c. Reaches (pawn_attacks p.side) k c) (HoldsKind p Pawn)
    of_pawns (kind_set p Pawn whole))
    (IsSetOf-union n_set k_set Knights Kings
    (both_set knights (squares_with (is_a Knight) p.placement) (Reaches knight_steps k) (HoldsKind p Knight) of_knights
    (kind_set p Knight whole))
    (both_set kings (squares_with (is_a King) p.placement) (Reaches adjoining k) (HoldsKind p King) of_kings
    (kind_set p King whole)))) of_theirs)
    (λ c on_c both. (both.1.0, both.1.1, leaps_to p k c both.1.0 on_c both.1.1 both.0))
    (λ c on_c leaper. (leaps_from p k c leaper.0 on leaper.1 leaper.2, (leaper.0, leaper.1)))

-- ---- the own king

pub king_there : (p : Position) → IsValid p → ¬ (members (squares_with (is_man (p.side, King)) p.placement) ≡ [])
king_there p valid none =
    absurd (omega (
      arith,
      ap length none,
      length-members_map (holds (is_man (p.side, King))) p.placement valid.whole,
      valid.kings p.side,
    ))

pub leaper_on : (p : Position) (k c : Square) → IsLeaper p k c → IsOnBoard c
leaper_on p k c leaper = IsOnBoard-from_man p.placement c (other p.side, leaper.0) leaper.1
