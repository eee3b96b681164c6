-- The outcome of a last call, where it is returned as it is.
use Rattle.std.specs.Result.{OnOk}
use Rattle.std.specs.declared.result.Result.{Result}
use Rattle.std.specs.declared.result.Result.TheVariants.{Ok, Err}

-- what holds whatever comes of the call
pub on_ok_still : {T E P : Type 0} (r : Result T E) → P → OnOk r P
on_ok_still (Ok x) p = p
on_ok_still (Err e) p = tt
