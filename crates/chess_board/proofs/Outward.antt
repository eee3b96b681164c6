-- A square is attacked where a man of a kind stands on a square that a man of that kind on it would attack.
use Rattle.std.proofs.Common.{◌≡◌, Bool, true, ◌||◌, not, List, [], ◌∷◌, Some, refl, sym, subst, ◌∙◌, inl, inr}
use Rattle.std.specs.Prelude.{◌↔◌, IsTrue}
use Rattle.std.proofs.lemmas.Bool.{both_ways, and_parts, and_from, or_cases, or_left, or_right, not-true, not_from_false, false_from_ne_true}
use Rattle.chess_bits.specs.declared.men.Colour.{Colour}
use Rattle.chess_bits.specs.declared.men.Kind.{Kind}
use Rattle.chess_bits.specs.declared.men.Kind.TheVariants.{Pawn, Knight, Bishop, Rook, Queen, King}
use Rattle.chess_bits.specs.Square.{Square, IsOnBoard}
use Rattle.chess_bits.specs.Man.{is_man}
use Rattle.chess_bits.specs.Table.{has, meet, members, IsSetOf}
use Rattle.chess_bits.specs.Attack.{Attacks, SomeOf}
use Rattle.chess_bits.proofs.ManLemmas.{other-other}
use Rattle.chess_bits.proofs.AlongLemmas.{SomeOf-members, PassesEach, PassesEach-members}
use Rattle.chess_bits.proofs.SetLemmas.{has-meet}
use Rattle.chess_bits.proofs.Reversal.{facing, Attacks-back}
use Rattle.chess_board.specs.Occupancy.{squares_with}
use Rattle.chess_board.specs.Position.{Placement, man_at, occupied_of, IsAttacked}
use Rattle.chess_board.proofs.AttackLemmas.{has-man, man-has}
use Rattle.chess_board.proofs.Candidates.{IsOnBoard-from_man}

-- a man of the side and the kind stands on one of the squares
abbrev pub StandsAmong : Placement → Colour → Kind → List Bool → Type 0
StandsAmong placement side kind set =
    (a : Square) × (man_at placement a ≡ Some (side, kind)) × (has set a ≡ true)

first_of : (set : List Bool) (ms : List Square) → PassesEach (has set) ms → (ms ≡ [] → ⊥) →
    (s : Square) × (has set s ≡ true)
first_of set [] passes some = absurd (some refl)
first_of set (m ∷ ms) passes some = (m, passes.0)

-- a set that is not empty has a square
pub not_empty : (set : List Bool) → (members set ≡ [] → ⊥) → (s : Square) × (has set s ≡ true)
not_empty set some = first_of set (members set) (PassesEach-members set) some

-- the set of these squares with men of the kind is not empty exactly where one stands there
pub among-meet : (placement : Placement) (side : Colour) (kind : Kind) (set : List Bool) (empty : Bool) →
    (IsTrue empty ↔ (members (meet set (squares_with (is_man (side, kind)) placement)) ≡ [])) →
    IsTrue (not empty) ↔ StandsAmong placement side kind set
among-meet placement side kind set empty tested =
    let men : List Bool = squares_with (is_man (side, kind)) placement in (
      (λ some.
          let (s, both) = not_empty (meet set men) (λ none. both_ways empty (not-true empty some) (tested.1 none)) in
          let parts = and_parts (has set s) (has men s) (sym (has-meet set men s) ∙ both) in
          (s, man-has placement side kind s parts.1, parts.0)),
      (λ stands.
          not_from_false empty (false_from_ne_true empty (λ none.
          let None' : List Square → Type 0 = SomeOf (λ _. Unit {0}) in
          let on : IsOnBoard stands.0 = IsOnBoard-from_man placement stands.0 (side, kind) stands.1 in
          let both : has (meet set men) stands.0 ≡ true =
          has-meet set men stands.0 ∙ and_from (has set stands.0) (has men stands.0) stands.2
          (has-man placement side kind stands.0 stands.1) in
          subst None' (tested.0 none) (SomeOf-members (λ _. Unit {0}) (meet set men) stands.0 on both tt)))),
    )

facing-facing : (kind : Kind) (side : Colour) → facing kind (facing kind side) ≡ side
facing-facing Pawn side = other-other side
facing-facing Knight side = refl
facing-facing Bishop side = refl
facing-facing Rook side = refl
facing-facing Queen side = refl
facing-facing King side = refl

-- what a man of the kind on a square would attack
abbrev pub IsOutward : Placement → Colour → Kind → Square → List Bool → Type 0
IsOutward placement side kind b set = IsSetOf set (Attacks (occupied_of placement) (facing kind side) kind b)

pub attacker_from : (placement : Placement) (side : Colour) (kind : Kind) (b : Square) (set : List Bool) →
    IsOutward placement side kind b set → StandsAmong placement side kind set → IsAttacked placement side b
attacker_from placement side kind b set of stands =
    let on : IsOnBoard stands.0 = IsOnBoard-from_man placement stands.0 (side, kind) stands.1 in
    let back = Attacks-back (occupied_of placement) (facing kind side) kind b stands.0 on
    ((of.exact stands.0 on).0 stands.2) in
    let Side' : Colour → Type 0 = λ colour. Attacks (occupied_of placement) colour kind stands.0 b in
    (stands.0, record { kind = kind; stands = stands.1; attacks = subst Side' (facing-facing kind side) back })

pub stands_from : (placement : Placement) (side : Colour) (kind : Kind) (b a : Square) (set : List Bool) →
    IsOnBoard b → IsOutward placement side kind b set → man_at placement a ≡ Some (side, kind) →
    Attacks (occupied_of placement) side kind a b → StandsAmong placement side kind set
stands_from placement side kind b a set on of stands attacks = (
  a,
  stands,
  (of.exact a (IsOnBoard-from_man placement a (side, kind) stands)).1
      (Attacks-back (occupied_of placement) side kind a b on attacks),
)

-- a test of each kind of man
pub record Tests (placement : Placement) (side : Colour) (b : Square) (p n k r d q : Bool) : Type 0 where
  pub pawn : (set : List Bool) × IsOutward placement side Pawn b set × (IsTrue p ↔ StandsAmong placement side Pawn set)
  pub knight : (set : List Bool) × IsOutward placement side Knight b set ×
      (IsTrue n ↔ StandsAmong placement side Knight set)
  pub king : (set : List Bool) × IsOutward placement side King b set × (IsTrue k ↔ StandsAmong placement side King set)
  pub rook : (set : List Bool) × IsOutward placement side Rook b set × (IsTrue r ↔ StandsAmong placement side Rook set)
  pub bishop : (set : List Bool) × IsOutward placement side Bishop b set ×
      (IsTrue d ↔ StandsAmong placement side Bishop set)
  pub queen : (set : List Bool) × IsOutward placement side Queen b set ×
      (IsTrue q ↔ StandsAmong placement side Queen set)

some_test : (placement : Placement) (side : Colour) (b : Square) (p n k r d q : Bool) → IsOnBoard b →
    Tests placement side b p n k r d q → (kind : Kind) (a : Square) → man_at placement a ≡ Some (side, kind) →
    Attacks (occupied_of placement) side kind a b → (((((p || n) || k) || r) || d) || q) ≡ true
some_test placement side b p n k r d q on t Pawn a stands attacks =
    or_left _ q (or_left _ d (or_left _ r (or_left _ k (or_left p n
    (t.pawn.2.1 (stands_from placement side Pawn b a t.pawn.0 on t.pawn.1 stands attacks))))))
some_test placement side b p n k r d q on t Knight a stands attacks =
    or_left _ q (or_left _ d (or_left _ r (or_left _ k (or_right p n
    (t.knight.2.1 (stands_from placement side Knight b a t.knight.0 on t.knight.1 stands attacks))))))
some_test placement side b p n k r d q on t King a stands attacks =
    or_left _ q (or_left _ d (or_left _ r (or_right (p || n) k
    (t.king.2.1 (stands_from placement side King b a t.king.0 on t.king.1 stands attacks)))))
some_test placement side b p n k r d q on t Rook a stands attacks =
    or_left _ q (or_left _ d (or_right ((p || n) || k) r
    (t.rook.2.1 (stands_from placement side Rook b a t.rook.0 on t.rook.1 stands attacks))))
some_test placement side b p n k r d q on t Bishop a stands attacks =
    or_left _ q (or_right (((p || n) || k) || r) d
    (t.bishop.2.1 (stands_from placement side Bishop b a t.bishop.0 on t.bishop.1 stands attacks)))
some_test placement side b p n k r d q on t Queen a stands attacks =
    or_right ((((p || n) || k) || r) || d) q
    (t.queen.2.1 (stands_from placement side Queen b a t.queen.0 on t.queen.1 stands attacks))

-- one of them answers yes exactly where the square is attacked
pub tests_decide : (placement : Placement) (side : Colour) (b : Square) (p n k r d q : Bool) → IsOnBoard b →
    Tests placement side b p n k r d q → IsTrue (((((p || n) || k) || r) || d) || q) ↔ IsAttacked placement side b
tests_decide placement side b p n k r d q on t = (
  (λ some. elim (or_cases ((((p || n) || k) || r) || d) q some) [
    | inr e ↦ attacker_from placement side Queen b t.queen.0 t.queen.1 (t.queen.2.0 e)
    | inl some4 ↦ elim (or_cases (((p || n) || k) || r) d some4) [
      | inr e ↦ attacker_from placement side Bishop b t.bishop.0 t.bishop.1 (t.bishop.2.0 e)
      | inl some3 ↦ elim (or_cases ((p || n) || k) r some3) [
        | inr e ↦ attacker_from placement side Rook b t.rook.0 t.rook.1 (t.rook.2.0 e)
        | inl some2 ↦ elim (or_cases (p || n) k some2) [
          | inr e ↦ attacker_from placement side King b t.king.0 t.king.1 (t.king.2.0 e)
          | inl some1 ↦ elim (or_cases p n some1) [
            | inr e ↦ attacker_from placement side Knight b t.knight.0 t.knight.1 (t.knight.2.0 e)
            | inl e ↦ attacker_from placement side Pawn b t.pawn.0 t.pawn.1 (t.pawn.2.0 e)
          ]
        ]
      ]
    ]
  ]),
  (λ attacked. some_test placement side b p n k r d q on t attacked.1.kind attacked.0 attacked.1.stands
      attacked.1.attacks),
)
