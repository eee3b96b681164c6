-- The tests on colours, kinds and men, and what they decide.
use Rattle.std.specs.Prelude.{◌≡◌, ◌≢◌, ◌⊎◌, true, Option, Some, None}
use Rattle.std.specs.Bool.{Decides}
use Rattle.std.proofs.Common.{inl, inr, ap, sym, ◌∙◌}
use Rattle.std.proofs.lemmas.Bool.{and_parts, and_from}
use Rattle.std.proofs.lemmas.Option.{same_Some}
use Rattle.chess_bits.specs.declared.men.Colour.{Colour}
use Rattle.chess_bits.specs.declared.men.Colour.TheVariants.{White, Black}
use Rattle.chess_bits.specs.declared.men.Kind.{Kind}
use Rattle.chess_bits.specs.declared.men.Kind.TheVariants.{Pawn, Knight, Bishop, Rook, Queen, King}
use Rattle.chess_bits.specs.Man.{Man, other, is_colour, is_kind, is_man, holds}

pub other-other : (side : Colour) → other (other side) ≡ side
other-other White = λ i. White
other-other Black = λ i. Black

pub other-differs : (side : Colour) → other side ≢ side
other-differs White e = absurd (cc)
other-differs Black e = absurd (cc)

-- there are but two sides
pub cases_side : (side c : Colour) → (c ≡ side) ⊎ (c ≡ other side)
cases_side White White = inl (λ i. White)
cases_side White Black = inr (λ i. Black)
cases_side Black White = inr (λ i. White)
cases_side Black Black = inl (λ i. Black)

pub is_colour-true : (a b : Colour) → is_colour a b ≡ true → a ≡ b
is_colour-true White White e = λ i. White
is_colour-true White Black e = absurd (cc)
is_colour-true Black White e = absurd (cc)
is_colour-true Black Black e = λ i. Black

pub is_colour-same : (a : Colour) → is_colour a a ≡ true
is_colour-same White = λ i. true
is_colour-same Black = λ i. true

pub Decides-is_colour : (a b : Colour) → Decides (is_colour a b) (a ≡ b)
Decides-is_colour a b = (is_colour-true a b, λ e. rw e (is_colour-same b))

pub is_kind-true : (a b : Kind) → is_kind a b ≡ true → a ≡ b
is_kind-true Pawn Pawn e = λ i. Pawn
is_kind-true Knight Knight e = λ i. Knight
is_kind-true Bishop Bishop e = λ i. Bishop
is_kind-true Rook Rook e = λ i. Rook
is_kind-true Queen Queen e = λ i. Queen
is_kind-true King King e = λ i. King
is_kind-true _ _ e = absurd (cc)

pub is_kind-same : (a : Kind) → is_kind a a ≡ true
is_kind-same Pawn = λ i. true
is_kind-same Knight = λ i. true
is_kind-same Bishop = λ i. true
is_kind-same Rook = λ i. true
is_kind-same Queen = λ i. true
is_kind-same King = λ i. true

pub Decides-is_kind : (a b : Kind) → Decides (is_kind a b) (a ≡ b)
Decides-is_kind a b = (is_kind-true a b, λ e. rw e (is_kind-same b))

pub same_man : (a b : Man) → a.0 ≡ b.0 → a.1 ≡ b.1 → a ≡ b
same_man a b colour kind =
    ap (λ (c : Colour). let man : Man = (c, a.1) in man) colour ∙
    ap (λ (k : Kind). let man : Man = (b.0, k) in man) kind

pub is_man-true : (a b : Man) → is_man a b ≡ true → a ≡ b
is_man-true a b e =
    let both = and_parts (is_colour a.0 b.0) (is_kind a.1 b.1) e in
    same_man a b (is_colour-true a.0 b.0 both.0) (is_kind-true a.1 b.1 both.1)

pub is_man-same : (a : Man) → is_man a a ≡ true
is_man-same a = and_from (is_colour a.0 a.0) (is_kind a.1 a.1) (is_colour-same a.0) (is_kind-same a.1)

pub holds-is_man : (man : Man) (o : Option Man) → holds (is_man man) o ≡ true → o ≡ Some man
holds-is_man man None e = absurd (cc)
holds-is_man man (Some here) e = ap Some (sym (is_man-true man here e))

pub holds-is_man_same : (man : Man) (o : Option Man) → o ≡ Some man → holds (is_man man) o ≡ true
holds-is_man_same man o e = rw e (is_man-same man)

pub Decides-holds_is_man : (man : Man) (o : Option Man) → Decides (holds (is_man man) o) (o ≡ Some man)
Decides-holds_is_man man o = (holds-is_man man o, holds-is_man_same man o)

-- what stands is of one colour and kind
pub same_colour : (o : Option Man) (a b : Man) → o ≡ Some a → o ≡ Some b → a.0 ≡ b.0
same_colour o a b at_a at_b = ap (λ (man : Man). man.0) (same_Some a b (sym at_a ∙ at_b))

pub same_kind : (o : Option Man) (a b : Man) → o ≡ Some a → o ≡ Some b → a.1 ≡ b.1
same_kind o a b at_a at_b = ap (λ (man : Man). man.1) (same_Some a b (sym at_a ∙ at_b))

pub none_is_no_man : (o : Option Man) (man : Man) → o ≡ None → o ≢ Some man
none_is_no_man o man e here = absurd (cc)

pub not_of_both : (o : Option Man) (side : Colour) (a b : Kind) → o ≡ Some (other side, a) → o ≢ Some (side, b)
not_of_both o side a b e here = other-differs side (same_colour o (other side, a) (side, b) e here)
