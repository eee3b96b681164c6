-- What a turn asks of a store and does to it: the words of `Turning`, said of the store.
use Rattle.std.specs.Prelude.{List, Result}
use Rattle.sector_dev.specs.declared.device.Device.{Ghosts}
use Rattle.sector_dev.specs.Device.{measures}
use Rattle.chess_entry.specs.declared.commands.Command.{Command}
use Rattle.chess_store.specs.declared.fault.StoreFault.{StoreFault}
use Rattle.chess_store.specs.declared.store.Store.{Store}
use Rattle.chess_store.specs.Kept.{IsStoreKept}
use Rattle.chess_hub.specs.declared.fault.HubFault.{HubFault}
use Rattle.chess_hub.specs.Faults.{CountsFault}
use Rattle.chess_hub.specs.Turning.{MayBeAsked, AreRefused, TurnLasts, TurnTried, kept}

-- the store may be asked these commands
abbrev pub StoreMayBeAsked : {D : Type 0} {ghosts : Ghosts D} → Store D ghosts → List Command → Type 0
StoreMayBeAsked store = MayBeAsked store.failed store.journal.header.seq store.table.entries

-- it refuses them for this reason, and then has the table of the other
abbrev pub StoreRefuses : {D : Type 0} {ghosts : Ghosts D} → Store D ghosts → Store D ghosts → StoreFault
    → List Command → Type 0
StoreRefuses old new fault = AreRefused fault old.journal.header.seq old.failed old.table new.table

-- what a turn leaves of a store that was kept
abbrev pub StoreLasts : {D T : Type 0} {ghosts : Ghosts D} → Store D ghosts → Store D ghosts → Result T HubFault
    → Type 0
StoreLasts {ghosts = ghosts} old new result = IsStoreKept old
    → TurnLasts result (ghosts.state old.journal.device) (ghosts.state new.journal.device) new.journal.header
    new.journal.compaction old.table new.table

-- what it does to any
abbrev pub StoreTried : {D T : Type 0} {ghosts : Ghosts D} → Store D ghosts → Store D ghosts → Result T HubFault
    → Type 0
StoreTried {ghosts = ghosts} old new result =
    TurnTried (measures ghosts.state ghosts.sector_count ghosts.failures) (kept old) (kept new) result

-- how often its device has failed, after this fault
abbrev pub StoreCounts : {D : Type 0} {ghosts : Ghosts D} → Store D ghosts → Store D ghosts → HubFault → Type 0
StoreCounts {ghosts = ghosts} old new fault =
    CountsFault fault (ghosts.failures old.journal.device) (ghosts.failures new.journal.device)
