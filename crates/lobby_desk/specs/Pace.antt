-- How fast a connection may say messages.
use Rattle.std.specs.Prelude.{ℕ, ◌+◌, ◌-◌, Bool, true, false, ◌&&◌, nat_lt, nat_le, Option, None, Some, if◌then◌else◌}

-- the later of two moments
abbrev pub later : ℕ → ℕ → ℕ
later a b = if nat_lt a b then b else a

-- Each message takes 50 ms of a connection's time, and its time runs at most 1,000 ms ahead: up to 20 messages at once,
-- and 20 a second. Until when its time is taken after a message at this moment; none where the message comes too fast.
abbrev pub paced : ℕ → ℕ → Option ℕ
paced until now =
    if nat_le (later until now - now) 950 && nat_le (later until now) 18446744073709551565 then Some
    (later until now + 50) else None

-- until when it is taken after a message at this moment, which may come too fast
abbrev pub or_before : ℕ → Option ℕ → ℕ
or_before until None = until
or_before until (Some later) = later

abbrev pub until_after : ℕ → ℕ → ℕ
until_after until now = or_before until (paced until now)

abbrev pub is_some_moment : Option ℕ → Bool
is_some_moment None = false
is_some_moment (Some until) = true

abbrev pub is_too_fast : ℕ → ℕ → Bool
is_too_fast until now = if is_some_moment (paced until now) then false else true
