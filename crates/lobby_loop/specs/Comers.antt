-- How many come in a second, and whether that is more than are served.
use Rattle.std.specs.Prelude.{ℕ, ◌-◌, Bool, nat_le, nat_lt, if◌then◌else◌}
use Rattle.lobby_loop.specs.declared.comers.Comers.{Comers}

-- Once a second is over the next one begins, by how many have come then.
abbrev pub seen : ℕ → ℕ → Comers → Comers
seen came at comers = if nat_le 1000 (at - comers.from) then record { from = at; before = came } else comers

-- More than 2,200 came in it.
abbrev pub is_over : ℕ → Comers → Bool
is_over came comers = nat_lt 2200 (came - comers.before)
