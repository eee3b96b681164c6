-- The last beat that is kept, where beats are.
use Rattle.std.specs.Prelude.{Option, Some, None}
use Rattle.sector_dev.specs.declared.device.Device.{Ghosts}
use Rattle.server_clock.specs.declared.slots.Beat.{Beat}
use Rattle.server_clock.specs.declared.beats.Beats.{Beats}

abbrev pub last_beat : {D : Type 0} {ghosts : Ghosts D} → Option (Beats D ghosts) → Option Beat
last_beat None = None
last_beat (Some beats) = beats.last
