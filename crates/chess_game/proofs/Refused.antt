-- What is so whatever is answered.
use Rattle.std.specs.Prelude.{◌≡◌, Result, Ok, Err, IfOk, OnOk, OnErr}
use Rattle.std.proofs.Common.{sym, subst}

pub on_err : {T E : Type 0} (r : Result T E) (P : Type 0) → P → OnErr r P
on_err (Ok x) P holds = tt
on_err (Err e) P holds = holds

-- an error has no value of which something could be asked
pub no_ok : {T E : Type 0} (r : Result T E) (e : E) (P : T → Type 0) → r ≡ Err e → IfOk r P
no_ok {T} {E} r e P is = subst (λ (x : Result T E). IfOk x P) (sym is) tt

pub not_ok : {T E : Type 0} (r : Result T E) (e : E) (P : Type 0) → r ≡ Err e → OnOk r P
not_ok {T} {E} r e P is = subst (λ (x : Result T E). OnOk x P) (sym is) tt
