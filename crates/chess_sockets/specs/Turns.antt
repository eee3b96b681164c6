-- Which faults end serving.
use Rattle.std.specs.Prelude.{ℕ, ◌≡◌, List, Option, ⊤}
use Rattle.chess_entry.specs.declared.commands.Command.{Command}
use Rattle.chess_store.specs.declared.fault.StoreFault.{StoreFault}
use Rattle.chess_hub.specs.declared.sessions.Sessions.{Sessions}
use Rattle.chess_hub.specs.Session.{IsUnchanged}
use Rattle.chess_store.specs.Faults.{IsSubmitFault}
use Rattle.chess_hub.specs.declared.fault.HubFault.{HubFault}
use Rattle.chess_hub.specs.declared.fault.HubFault.TheVariants.{Busy, NoMemory, LineTooLong, Store}
use Rattle.chess_hub.specs.Law.{HubState}
use Rattle.chess_hub.specs.Turning.{AsksFor}
use Rattle.chess_sockets.specs.declared.client.Client.{Client}
use Rattle.chess_sockets.specs.Rounds.{ReadingTimes}
use Rattle.chess_sockets.specs.Serving.{AreRead, IsWelcomed, ServerState, Served, served, open_in}

-- Memory was refused to the hub, or the store refused a batch. What is one client's trouble, want of memory too, ends
-- nothing but its session.
abbrev pub EndsServing : HubFault → Type 0
EndsServing NoMemory = ⊤
EndsServing (Store fault) = IsSubmitFault fault
EndsServing Busy = ⊥
EndsServing LineTooLong = ⊥

-- The clients were read for, and then no line of what their sessions had heard by then was answered: so they are left,
-- and nothing is lost for who is served again.
pub record HasReadAlone {S : Type 0} (remaining : S → Option (List ℕ)) (when : ReadingTimes) (old new : Served S)
    (Why : Sessions → Type 0) : Type 0 where
  pub heard : HubState
  pub reads : AreRead remaining when old.clients new.clients old.hub heard
  pub kept : IsUnchanged heard.sessions new.hub.sessions
  pub why : Why heard.sessions

-- Why clients are not served on, and what is left. Where memory was refused to the hub, the table is as it was; a
-- store's fault is that of the commands of at most 64 lines, of what the sessions had sent by then, which went to it as
-- one batch at this moment, and which it refuses.
abbrev pub IsRefusal : {S : Type 0} → (S → Option (List ℕ)) → ReadingTimes → (StoreFault → List Command → Type 0)
    → HubFault → Served S → Served S → Type 0
IsRefusal remaining when Refuses NoMemory old new =
    HasReadAlone remaining when old new (λ heard. new.hub.table ≡ old.hub.table)
IsRefusal remaining when Refuses (Store fault) old new =
    HasReadAlone remaining when old new (λ heard. AsksFor when.at 64 heard (Refuses fault))
IsRefusal remaining when Refuses Busy old new = ⊥
IsRefusal remaining when Refuses LineTooLong old new = ⊥

-- Why a turn of the server ended: so it ended for those whose session is open and who came.
pub record IsTurnRefusal {C S : Type 0} (IsMade : C → S → Type 0) (remaining : S → Option (List ℕ))
    (when : ReadingTimes) (Refuses : StoreFault → List Command → Type 0) (fault : HubFault) (old new : ServerState S)
    : Type 0 where
  pub asked : List (Client S)
  pub begun : HubState
  pub welcomes : IsWelcomed IsMade when.at (record old { clients = open_in old.hub.sessions old.clients })
      (record new { clients = asked; hub = begun })
  pub refusal : IsRefusal remaining when Refuses fault (served asked begun) (served new.clients new.hub)
