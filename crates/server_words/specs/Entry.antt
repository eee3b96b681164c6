-- The last entry of what was found in a journal.
use Rattle.std.specs.Prelude.{ℕ, nat_lt, Option, Some, None, if◌then◌else◌}
use Rattle.server_telling.specs.declared.telling.Found.{Found}

-- its moment, where there is an entry
abbrev pub last_entry : Option Found → Option ℕ
last_entry None = None
last_entry (Some found) = if nat_lt 0 found.entries then Some found.moment else None
