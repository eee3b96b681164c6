-- Which bytes are a text of a decision, and what stands behind a text once parts of a line were put.
use Rattle.std.proofs.Common.{ℕ, ◌≡◌, ◌++◌, true, List, Some, None, refl, ◌∙◌, ap, append_assoc}
use Rattle.std.specs.List.{list_all}
use Rattle.std.specs.Str.{IsUtf8, is_utf8}
use Rattle.std.proofs.lemmas.Bool.{false_from_ne_true}
use Rattle.std.proofs.lemmas.Str.{IsUtf8-from_is_utf8, is_utf8-from_IsUtf8}
use Rattle.night_rounds.specs.Decisions.{is_plain, text_in}

-- a text that is that of bytes in UTF-8 without a control character
pub is_text : (bytes text told : List ℕ) → text ≡ bytes → IsUtf8 bytes → list_all is_plain bytes ≡ true → told ≡ text →
    Some told ≡ text_in bytes
is_text bytes text told e utf8 plain h = rw (is_utf8-from_IsUtf8 bytes utf8, plain) (ap Some (h ∙ e))

pub no_text : (bytes : List ℕ) → ¬ (IsUtf8 bytes) → None ≡ text_in bytes
no_text bytes none = rw (false_from_ne_true (is_utf8 bytes) (λ e. none (IsUtf8-from_is_utf8 bytes e))) refl

-- two parts, three and four that were put behind a text, one after another
pub two_put : (old first second a b : List ℕ) → first ≡ old ++ a → second ≡ first ++ b → second ≡ old ++ (a ++ b)
two_put old first second a b e f = f ∙ (ap (λ (xs : List ℕ). xs ++ b) e ∙ append_assoc old a b)

pub three_put : (old first second third a b d : List ℕ) → first ≡ old ++ a → second ≡ first ++ b → third ≡ second ++ d →
    third ≡ old ++ (a ++ (b ++ d))
three_put old first second third a b d e f g =
    two_put old second third (a ++ b) d (two_put old first second a b e f) g
    ∙ ap (λ (xs : List ℕ). old ++ xs) (append_assoc a b d)

pub four_put : (old first second third fourth a b d x : List ℕ) → first ≡ old ++ a → second ≡ first ++ b →
    third ≡ second ++ d → fourth ≡ third ++ x → fourth ≡ old ++ (a ++ (b ++ (d ++ x)))
four_put old first second third fourth a b d x e f g h =
    three_put old second third fourth (a ++ b) d x (two_put old first second a b e f) g h
    ∙ ap (λ (xs : List ℕ). old ++ xs) (append_assoc a b (d ++ x))
