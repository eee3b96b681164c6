-- Lists that a table can go through: their fronts, one entry more, raised limits, and the table as a fold.
use Rattle.std.specs.Prelude.{◌≡◌, ◌⊎◌, ◌≤◌, List, [], ◌∷◌, ◌++◌, fold}
use Rattle.std.proofs.Common.{arith, ap, sym, subst, ◌∙◌, refl, inl, inr, append_assoc}
use Rattle.std.proofs.lemmas.List.{append-nil, same_from_push}
use Rattle.rec_codec.specs.declared.limits.Limits.{Limits}
use Rattle.rec_codec.specs.declared.record.Entry.{Entry}
use Rattle.chess_entry.specs.State.{TableState}
use Rattle.chess_entry.specs.Games.{table_of}
use Rattle.chess_entry.specs.Follow.{follow}
use Rattle.chess_entry.specs.Lawful.{IsEntered, IsLawful}
use Rattle.chess_entry.proofs.LawOfFollow.{law}

-- ---- the ends of lists

pub nil-not_around : {A : Type 0} (before : List A) (x : A) (rest : List A) → [] ≡ before ++ x ∷ rest → ⊥
nil-not_around [] x rest h = cc
nil-not_around (y ∷ before) x rest h = cc

-- a list without an element, or one with a last
pub record HasLast (A : Type 0) (xs : List A) : Type 0 where
  pub front : List A
  pub last : A
  pub is : xs ≡ front ++ last ∷ []

ends : {A : Type 0} (xs : List A) → (xs ≡ []) ⊎ HasLast A xs
ends [] = inl refl
ends {A = A} (x ∷ xs) = elim (ends xs) [
  | inl none ↦ inr (record { front = []; last = x; is = ap (λ (zs : List A). x ∷ zs) none })
  | inr some ↦ inr (record {
    front = x ∷ some.front;
    last = some.last;
    is = ap (λ (zs : List A). x ∷ zs) some.is;
  })
]

-- ---- lawful lists

pub IsLawful-none : (limits : Limits) → IsLawful limits []
IsLawful-none limits = λ before e rest is. absurd (nil-not_around before e rest is)

-- a front of a lawful list
pub IsLawful-front : (limits : Limits) (es more : List Entry) → IsLawful limits (es ++ more) → IsLawful limits es
IsLawful-front limits es more lawful = λ before e rest is.
    lawful before e (rest ++ more)
    (ap (λ (all : List Entry). all ++ more) is ∙ append_assoc before (e ∷ rest) more)

-- one entry more
pub IsLawful-more : (limits : Limits) (es : List Entry) (x : Entry) → IsLawful limits es → IsEntered limits es x →
    IsLawful limits (es ++ x ∷ [])
IsLawful-more limits es x lawful entered = λ before e rest is. elim (ends rest) [
  | inl none ↦
      let same = same_from_push es before x e (is ∙ ap (λ (r : List Entry). before ++ e ∷ r) none) in
      subst (λ (b : List Entry). IsEntered limits b e) same.0 (subst (λ (y : Entry). IsEntered limits es y) same.1 entered)
  | inr some ↦
      let front = same_from_push es (before ++ e ∷ some.front) x some.last
      (is ∙ ap (λ (r : List Entry). before ++ e ∷ r) some.is
      ∙ sym (append_assoc before (e ∷ some.front) (some.last ∷ []))) in
      lawful before e some.front front.0
]

-- under raised limits
pub IsLawful-raised : (limits raised : Limits) (es : List Entry) → limits.games ≤ raised.games →
    limits.plies ≤ raised.plies → IsLawful limits es → IsLawful raised es
IsLawful-raised limits raised es games plies lawful = λ before e rest is.
    let entered = lawful before e rest is in
    let within = entered.within in
    record {
      earlier = entered.earlier;
      within = record { in_range = within.in_range; games = omega arith; plies = omega arith };
      command = entered.command;
      named = entered.named;
      entered = entered.entered;
    }

-- ---- the table of a lawful list is what its entries make of the empty one, one after the other

folds-from : (limits : Limits) (all before rest : List Entry) → IsLawful limits all → all ≡ before ++ rest →
    fold follow (table_of limits before) rest ≡ table_of limits all
folds-from limits all before [] lawful is = ap (table_of limits) (sym (is ∙ append-nil before))
folds-from limits all before (x ∷ rest) lawful is =
    let next : all ≡ (before ++ x ∷ []) ++ rest = is ∙ sym (append_assoc before (x ∷ []) rest) in
    let front = IsLawful-front limits (before ++ x ∷ []) rest (subst (IsLawful limits) next lawful) in
    ap (λ (table : TableState). fold follow table rest) (sym (law limits before x front))
    ∙ folds-from limits all (before ++ x ∷ []) rest lawful next

pub table_of-fold : (limits : Limits) (es : List Entry) → IsLawful limits es →
    table_of limits es ≡ fold follow (table_of limits []) es
table_of-fold limits es lawful = sym (folds-from limits es [] es lawful refl)
