-- What `map` gives of an `Option`, by what its closure gives of the value.
use Rattle.std.proofs.Common.{◌≡◌, Option, None, Some, ap}
use Rattle.std.specs.Option.{MatchOption, IsSomeAnd}
use Rattle.std.specs.Prelude.{option_map}

pub mapped : {A B : Type 0} (o : Option A) (r : Option B) (post : A → B → Type 0) (h : A → B) → ((x : A) (y : B) → post x y → y ≡ h x) →
    MatchOption o (r ≡ None) (λ x. IsSomeAnd r (post x)) → r ≡ option_map h o
mapped None r post h k is = is
mapped (Some x) None post h k is = absurd is
mapped (Some x) (Some y) post h k is = ap Some (k x y is)
