-- The slides in several ways together.
use Rattle.std.proofs.Common.{List, [], ◌∷◌, ◌++◌, Bool, inl, inr}
use Rattle.std.specs.Prelude.{◌⊎◌}
use Rattle.chess_bits.specs.declared.steps.Step.{Step}
use Rattle.chess_bits.specs.Square.{Square}
use Rattle.chess_bits.specs.Table.{union, IsSetOf}
use Rattle.chess_bits.specs.Attack.{SlidesAlong, Slides, SomeOf, straight, diagonal, adjoining}
use Rattle.chess_bits.proofs.SetLemmas.{IsSetOf-union, IsSetOf-like}

-- a set of the squares to which a man slides in a way
abbrev IsSlide : List Bool → Square → List Bool → Step → Type 0
IsSlide occupied a set step = IsSetOf set (λ b. SlidesAlong occupied a b step)

pub four_ways : (occupied s t u v : List Bool) (a : Square) (d e f g : Step) →
    IsSlide occupied a s d → IsSlide occupied a t e → IsSlide occupied a u f → IsSlide occupied a v g →
    IsSetOf (union s (union t (union u v))) (λ b. Slides occupied (d ∷ e ∷ f ∷ g ∷ []) a b)
four_ways occupied s t u v a d e f g of_s of_t of_u of_v =
    let slide : Step → Square → Type 0 = λ step b. SlidesAlong occupied a b step in
    let last : IsSetOf v (λ b. slide g b ⊎ ⊥) =
    IsSetOf-like v (slide g) (λ b. slide g b ⊎ ⊥) of_v (λ b on p. inl p)
    (λ b on p. elim p [ inl q ↦ q | inr none ↦ absurd none ]) in
    IsSetOf-union s (union t (union u v)) (slide d) (λ b. slide e b ⊎ (slide f b ⊎ (slide g b ⊎ ⊥))) of_s
    (IsSetOf-union t (union u v) (slide e) (λ b. slide f b ⊎ (slide g b ⊎ ⊥)) of_t
    (IsSetOf-union u v (slide f) (λ b. slide g b ⊎ ⊥) of_u last))

some_append : {A : Type 0} (P : A → Type 0) (xs ys : List A) → SomeOf P xs ⊎ SomeOf P ys → SomeOf P (xs ++ ys)
some_append P [] ys (inl none) = absurd none
some_append P [] ys (inr some) = some
some_append P (x ∷ xs) ys (inl (inl here)) = inl here
some_append P (x ∷ xs) ys (inl (inr later)) = inr (some_append P xs ys (inl later))
some_append P (x ∷ xs) ys (inr some) = inr (some_append P xs ys (inr some))

append_some : {A : Type 0} (P : A → Type 0) (xs ys : List A) → SomeOf P (xs ++ ys) → SomeOf P xs ⊎ SomeOf P ys
append_some P [] ys some = inr some
append_some P (x ∷ xs) ys (inl here) = inl (inl here)
append_some P (x ∷ xs) ys (inr later) = elim (append_some P xs ys later) [
  | inl some ↦ inl (inr some)
  | inr some ↦ inr some
]

-- a queen's squares are a rook's and a bishop's
pub both_ways : (occupied s t : List Bool) (a : Square) →
    IsSetOf s (λ b. Slides occupied straight a b) → IsSetOf t (λ b. Slides occupied diagonal a b) →
    IsSetOf (union s t) (λ b. Slides occupied adjoining a b)
both_ways occupied s t a of_s of_t =
    IsSetOf-like (union s t) (λ b. Slides occupied straight a b ⊎ Slides occupied diagonal a b)
    (λ b. Slides occupied adjoining a b)
    (IsSetOf-union s t (λ b. Slides occupied straight a b) (λ b. Slides occupied diagonal a b) of_s of_t)
    (λ b on p. some_append (SlidesAlong occupied a b) straight diagonal p)
    (λ b on p. append_some (SlidesAlong occupied a b) straight diagonal p)
