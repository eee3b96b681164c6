-- Why a hub refuses a call.
use Rattle.std.specs.Prelude.{ℕ, ◌≡◌, ◌+◌, ◌-◌, ◌^◌, min, Bool, true, false, if◌then◌else◌, Result, Ok, Err}
use Rattle.text_lines.specs.declared.heard.FeedFault.{FeedFault}
use Rattle.text_lines.specs.declared.heard.FeedFault.TheVariants as feed
use Rattle.chess_hub.specs.declared.sessions.ConnectFault.{ConnectFault}
use Rattle.chess_hub.specs.declared.sessions.ConnectFault.TheVariants as connect
use Rattle.chess_store.specs.Faults as store
use Rattle.chess_store.specs.declared.fault.StoreFault.TheVariants as why
use Rattle.chess_hub.specs.declared.fault.HubFault.{HubFault}
use Rattle.chess_hub.specs.declared.fault.HubFault.TheVariants.{Busy, NoMemory, LineTooLong, Store}

abbrev pub of_connect : ConnectFault → HubFault
of_connect connect.Busy = Busy
of_connect connect.NoMemory = NoMemory

abbrev pub of_feed : FeedFault → HubFault
of_feed feed.NoMemory = NoMemory
of_feed feed.LineTooLong = LineTooLong

-- of `connect`
abbrev pub IsConnectFault : HubFault → Type 0
IsConnectFault Busy = Unit {0}
IsConnectFault NoMemory = Unit {0}
IsConnectFault fault = ⊥

-- of `feed`
abbrev pub IsFeedFault : HubFault → Type 0
IsFeedFault LineTooLong = Unit {0}
IsFeedFault NoMemory = Unit {0}
IsFeedFault fault = ⊥

-- the store's device failed
abbrev pub IsDevice : HubFault → Type 0
IsDevice (Store fault) = store.IsDevice fault
IsDevice fault = ⊥

-- that holds unless the store's device is at fault
abbrev pub UnlessDevice : HubFault → Type 0 → Type 0
UnlessDevice (Store fault) P = store.UnlessDevice fault P
UnlessDevice fault P = P

-- the count of the device's failures rises where it is at fault, and stays otherwise
abbrev pub CountsFault : HubFault → ℕ → ℕ → Type 0
CountsFault (Store fault) old new = store.CountsFault fault old new
CountsFault fault old new = new ≡ old

-- whether memory was refused, to the sessions or to the store
abbrev pub is_for_memory : HubFault → Bool
is_for_memory NoMemory = true
is_for_memory (Store why.NoMemory) = true
is_for_memory fault = false

-- a count of the turns that memory was refused to, after one more turn
abbrev pub refusals_after : {T : Type 0} → Result T HubFault → ℕ → ℕ
refusals_after (Ok done) count = count
refusals_after (Err fault) count = if is_for_memory fault then min (count + 1) (2 ^ 64 - 1) else count
