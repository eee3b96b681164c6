-- What a watch knows of its waits.
use Rattle.std.specs.Prelude.{ℕ, Bool}
use Rattle.sockets.specs.declared.watch.Watch.{Watch}

-- so many waits on end were calm
abbrev pub calm_waits : Watch → ℕ
calm_waits watch = watch.calm_waits

-- whether the system has refused to watch a socket
abbrev pub is_blind : Watch → Bool
is_blind watch = watch.is_blind
