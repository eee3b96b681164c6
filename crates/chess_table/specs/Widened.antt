-- A table with other limits.
use Rattle.rec_codec.specs.declared.limits.Limits.{Limits}
use Rattle.chess_entry.specs.State.{TableState}

abbrev pub with_limits : Limits → TableState → TableState
with_limits limits table = record table { limits = limits }
