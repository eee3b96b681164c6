-- Texts joined by a sign that none of them has can be told apart again.
use Rattle.std.proofs.Common.{◌≡◌, ℕ, ◌<◌, List, [], ◌∷◌, ◌++◌, length, refl, ap, ◌∙◌, arith}
use Rattle.std.specs.List.{join_with_byte}

-- all characters of a text, and of all texts, are above the sign
abbrev pub AllAbove : ℕ → List ℕ → Type 0
AllAbove sign [] = Unit {0}
AllAbove sign (c ∷ text) = (sign < c) × AllAbove sign text

pub AllAbove-append : (sign : ℕ) (a b : List ℕ) → AllAbove sign a → AllAbove sign b → AllAbove sign (a ++ b)
AllAbove-append sign [] b above below = below
AllAbove-append sign (c ∷ a) b above below = (above.0, AllAbove-append sign a b above.1 below)

abbrev pub EachAbove : ℕ → List (List ℕ) → Type 0
EachAbove sign [] = Unit {0}
EachAbove sign (text ∷ texts) = AllAbove sign text × EachAbove sign texts

pub record SameParts (a b x y : List ℕ) : Type 0 where
  pub front : a ≡ b
  pub rest : x ≡ y

part_unique : (sign : ℕ) (a b x y : List ℕ) → AllAbove sign a → AllAbove sign b →
    a ++ (sign ∷ x) ≡ b ++ (sign ∷ y) → SameParts a b x y
part_unique sign [] [] x y above below e = record { front = refl; rest = cc }
part_unique sign [] (d ∷ b) x y above below e = let same : sign ≡ d = cc in absurd (omega (arith, below.0))
part_unique sign (c ∷ a) [] x y above below e = let same : c ≡ sign = cc in absurd (omega (arith, above.0))
part_unique sign (c ∷ a) (d ∷ b) x y above below e =
    let same : c ≡ d = cc in
    let rest : a ++ (sign ∷ x) ≡ b ++ (sign ∷ y) = cc in
    let parts = part_unique sign a b x y above.1 below.1 rest in
    record { front = ap (λ h. h ∷ a) same ∙ ap (λ t. d ∷ t) parts.front; rest = parts.rest }

pub join_unique : (sign : ℕ) (texts others : List (List ℕ)) → EachAbove sign texts → EachAbove sign others →
    length texts ≡ length others → join_with_byte sign texts ≡ join_with_byte sign others → texts ≡ others
join_unique sign [] [] above below same e = refl
join_unique sign [] (b ∷ others) above below same e = absurd (omega arith)
join_unique sign (a ∷ texts) [] above below same e = absurd (omega arith)
join_unique sign (a ∷ []) (b ∷ []) above below same e = ap (λ t. t ∷ []) e
join_unique sign (a ∷ []) (b ∷ b' ∷ others) above below same e = absurd (omega arith)
join_unique sign (a ∷ a' ∷ texts) (b ∷ []) above below same e = absurd (omega arith)
join_unique sign (a ∷ a' ∷ texts) (b ∷ b' ∷ others) above below same e =
    let rest = join_with_byte sign (a' ∷ texts) in
    let other = join_with_byte sign (b' ∷ others) in
    let parts = part_unique sign a b rest other above.0 below.0 e in
    ap (λ t. t ∷ a' ∷ texts) parts.front
    ∙ ap (λ ts. b ∷ ts) (join_unique sign (a' ∷ texts) (b' ∷ others) above.1 below.1 (omega arith) parts.rest)
