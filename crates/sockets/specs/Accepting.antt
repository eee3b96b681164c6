-- What a fault of `accept` says.
use Rattle.std.specs.Prelude.{◌≡◌, ◌⊎◌}
use Rattle.std.specs.declared.io.ErrorKind.{ErrorKind}
use Rattle.std.specs.declared.io.ErrorKind.TheVariants.{ConnectionAborted, ConnectionReset, Interrupted}

-- a connection was lost before it was there, or a signal came: another may wait behind it
abbrev pub IsLost : ErrorKind → Type 0
IsLost fault = (fault ≡ ConnectionAborted) ⊎ (fault ≡ ConnectionReset) ⊎ (fault ≡ Interrupted)
