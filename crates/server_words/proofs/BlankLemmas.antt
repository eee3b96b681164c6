-- The front of what a reader gives.
use Rattle.std.proofs.Common.{◌≡◌, ◌∙◌, ◌++◌, ℕ, List, [], None, Some, take, ap, subst}
use Rattle.std.specs.Prelude.{Option, Bool, IsTrue, IfSome, ◌↔◌, All}
use Rattle.std.specs.Option.{option_map}

pub blank_of : (known left : Option (List ℕ)) (old new : List ℕ) (b : Bool)
    → left ≡ option_map (λ (xs : List ℕ). take 1024 xs) known → old ≡ [] → IfSome left (λ xs. new ≡ old ++ xs)
    → (IsTrue b ↔ All (λ (x : ℕ). x ≡ 0) new)
    → IfSome known (λ bytes. IsTrue b ↔ All (λ (x : ℕ). x ≡ 0) (take 1024 bytes))
blank_of None left old new b is none given holds = tt
blank_of (Some bytes) left old new b is none given holds =
    let all : new ≡ old ++ take 1024 bytes =
    subst (λ (known : Option (List ℕ)). IfSome known (λ xs. new ≡ old ++ xs)) is given in
    let front : new ≡ take 1024 bytes = all ∙ ap (λ (xs : List ℕ). xs ++ take 1024 bytes) none in
    subst (λ (xs : List ℕ). IsTrue b ↔ All (λ (x : ℕ). x ≡ 0) xs) front holds
