use Rattle.std.proofs.Common.{ℕ, ◌≡◌, ◌==◌, ◌&&◌, Bool, true, false, List, [], ◌∷◌, length, fold, refl, sym, ap, ◌∙◌, rules, tests, arith}
use Rattle.std.specs.List.{zip}
use Rattle.std.specs.Str.{bytes_eq}
use Rattle.std.proofs.lemmas.Iterator.{YieldsList-from_slice, YieldsList-from_zip}
use Rattle.std.proofs.lemmas.Iterator.Consumers.{fold_from_yields_List}
use Rattle.lobby_words.proofs.players.is_same_sum.Goals as goal

-- two bytes that stand at one place, behind those before them
abbrev both : Bool → (ℕ × ℕ) → Bool
both same p = same && (p.0 == p.1)

still : (same : Bool) → same ≡ (same && true)
still true = refl
still false = refl

further : (same first others : Bool) → ((same && first) && others) ≡ (same && (first && others))
further true first others = refl
further false first others = refl

same_all : (xs ys : List ℕ) (same : Bool) → length xs ≡ length ys → fold both same (zip xs ys) ≡ (same && bytes_eq xs ys)
same_all [] [] same long = still same
same_all [] (y ∷ ys) same long = absurd (omega (arith, long))
same_all (x ∷ xs) [] same long = absurd (omega (arith, long))
same_all (x ∷ xs) (y ∷ ys) same long =
    same_all xs ys (same && (x == y)) (omega (arith, long)) ∙ further same (x == y) (bytes_eq xs ys)

pub returns : goal.returns
returns c =
    let a = c.args.a.now in
    let b = c.args.b.now in
    fold_from_yields_List _ both true c.fold.result c.fold.ensures.ran (YieldsList-from_zip (YieldsList-from_slice a cc) (YieldsList-from_slice b cc))
    (λ s x r q k. search (rules, tests))
    ∙ same_all a b true (c.told-a ∙ sym c.told-b)
