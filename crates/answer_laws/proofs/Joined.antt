-- Fields that are put behind a text, one after another, are joined with it.
use Rattle.std.proofs.Common.{ℕ, ◌≡◌, List, [], ◌∷◌, ◌++◌, refl, ap, ◌∙◌, append_assoc}
use Rattle.chess_answer.specs.Fields.{with_fields}
use Rattle.server_answers.specs.Fields.{line_of}

front : (a b : List ℕ) (fs : List (List ℕ)) → line_of ((a ++ b) ∷ fs) ≡ a ++ line_of (b ∷ fs)
front a b [] = refl
front a b (f ∷ fs) = append_assoc a b (32 ∷ line_of (f ∷ fs))

spaced : (f : List ℕ) (fs : List (List ℕ)) → line_of ((32 ∷ f) ∷ fs) ≡ 32 ∷ line_of (f ∷ fs)
spaced f [] = refl
spaced f (g ∷ fs) = refl

pub joined_with : (text : List ℕ) (fs : List (List ℕ)) → with_fields text fs ≡ line_of (text ∷ fs)
joined_with text [] = refl
joined_with text (f ∷ fs) =
    joined_with (text ++ (32 ∷ f)) fs
    ∙ (front text (32 ∷ f) fs ∙ ap (λ (rest : List ℕ). text ++ rest) (spaced f fs))
