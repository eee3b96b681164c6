-- What a turn does.
use Rattle.std.specs.Prelude.{ℕ, ◌≡◌, ◌≤◌, ◌↔◌, Bool, true, false, List, [], length, map, Result, OnOk, IfErr}
use Rattle.rec_codec.specs.declared.header.Header.{Header}
use Rattle.sector_dev.specs.declared.device.Device.{Ghosts}
use Rattle.sector_dev.specs.Device.{State, Measures}
use Rattle.sector_dev.specs.Runs.{LeavesOnly}
use Rattle.sector_journal.specs.declared.compactions.Compaction.{Compaction}
use Rattle.chess_entry.specs.declared.commands.Command.{Command}
use Rattle.chess_entry.specs.State.{TableState}
use Rattle.chess_entry.specs.Table.{IsTable}
use Rattle.chess_answer.specs.declared.reads.Reply.{Reply}
use Rattle.chess_hub.specs.declared.sessions.Sessions.{Sessions}
use Rattle.chess_hub.specs.declared.turn.TurnLine.{TurnLine}
use Rattle.chess_hub.specs.Session.{said}
use Rattle.chess_hub.specs.Turn.{AreTurnLines, turn_lines, waiting_of}
use Rattle.chess_hub.specs.Answers.{name_at, commands_of, AreAnswers}
use Rattle.chess_hub.specs.Delivery.{Answered, AllAnswered}
use Rattle.chess_store.specs.declared.fault.StoreFault.{StoreFault}
use Rattle.chess_store.specs.declared.fault.StoreFault.TheVariants as store
use Rattle.chess_store.specs.declared.store.Store.{Store as KeptStore}
use Rattle.chess_store.specs.Means.{MeansEither, IsKept}
use Rattle.chess_store.specs.Batch.{AreAnswered, AreEntered, IsWornOut, change_count}
use Rattle.chess_hub.specs.declared.fault.HubFault.{HubFault}
use Rattle.chess_hub.specs.declared.fault.HubFault.TheVariants.{NoMemory, Store}
use Rattle.chess_hub.specs.Faults.{IsDevice, UnlessDevice, CountsFault}

-- ---- the sessions and the table

-- A turn at a moment: lines that waited were taken, round the sessions by rising number; their commands were answered
-- on the store's table as one batch, and each session has the answers to its lines.
pub record HasTurned (at most : ℕ) (old new : Sessions) (before after : TableState) : Type 0 where
  pub taken : List TurnLine
  pub lines : AreTurnLines (turn_lines most (waiting_of old)) taken
  pub replies : List Reply
  pub batch : AreAnswered before (commands_of at (name_at old) taken) replies after
  pub answered : List Answered
  pub whose : map (λ a. a.taken) answered ≡ taken
  pub answers : AreAnswers at taken (map said replies) (map (λ a. a.said) answered)
  pub all : AllAnswered at answered old new

-- what holds of the commands of the lines that a turn takes
pub record AsksFor (at most : ℕ) (old : Sessions) (P : List Command → Type 0) : Type 0 where
  pub taken : List TurnLine
  pub lines : AreTurnLines (turn_lines most (waiting_of old)) taken
  pub those : P (commands_of at (name_at old) taken)

-- A store may be asked these commands: its device has not failed, unless there is no command, and they do not wear it
-- out.
abbrev pub MayBeAsked : Bool → ℕ → ℕ → List Command → Type 0
MayBeAsked failed seq entries commands =
    (failed ≡ true → commands ≡ []) × (IsWornOut seq entries (change_count commands) → ⊥)

-- ---- which fault

-- Why a store refused a batch, and what is left of the batch. A batch that would wear it out is refused for that alone,
-- and only where the device failed its entries may last or not.
abbrev pub IsBatchFault : StoreFault → ℕ → Bool → TableState → TableState → List Command → Type 0
IsBatchFault (store.Device pending) seq failed before after commands =
    (failed ≡ false) × (IsWornOut seq before.entries (change_count commands) → ⊥)
    × AreEntered before commands pending after
IsBatchFault store.Failed seq failed before after commands = (failed ≡ true) × (after ≡ before)
IsBatchFault store.Worn seq failed before after commands =
    (failed ≡ false) × IsWornOut seq before.entries (change_count commands) × (after ≡ before)
IsBatchFault store.NoMemory seq failed before after commands =
    (failed ≡ false) × (IsWornOut seq before.entries (change_count commands) → ⊥) × (after ≡ before)
IsBatchFault fault seq failed before after commands = ⊥

-- the store was called with these commands, and refused them
pub record AreRefused (fault : StoreFault) (seq : ℕ) (failed : Bool) (before after : TableState)
    (commands : List Command) : Type 0 where
  pub some : 1 ≤ length commands
  pub why : IsBatchFault fault seq failed before after commands

-- Why a turn fails: memory was refused to the sessions, and `Same`, the store was not called; or the store refused the
-- batch, for this reason.
abbrev pub IsTurnFault : HubFault → Type 0 → (StoreFault → Type 0) → Type 0
IsTurnFault NoMemory Same Refused = Same
IsTurnFault (Store fault) Same Refused = Refused fault
IsTurnFault fault Same Refused = ⊥

-- ---- the images

-- What a turn leaves where the store was kept: a crash at any moment of it means the table from before or that with the
-- whole batch, and at `Ok` the latter; the store is kept on, unless the device failed.
pub record TurnLasts {T : Type 0} (result : Result T HubFault) (old new : State) (header : Header)
    (compaction : Compaction)
    (before after : TableState) : Type 0 where
  pub any_moment : LeavesOnly old new (MeansEither before after)
  pub kept : OnOk result (IsKept new header compaction after)
  pub kept_err : IfErr result (λ fault. UnlessDevice fault (IsKept new header compaction after))

-- ---- the device

-- what a turn sees of its store
pub record Kept (D : Type 0) : Type 0 where
  pub device : D
  pub header : Header
  pub compaction : Compaction
  pub table : TableState
  pub failed : Bool

abbrev pub kept : {D : Type 0} {ghosts : Ghosts D} → KeptStore D ghosts → Kept D
kept store = record {
  device = store.journal.device;
  header = store.journal.header;
  compaction = store.journal.compaction;
  table = store.table;
  failed = store.failed;
}

-- what a turn does to the store and its device, whatever the device holds
pub record TurnTried {D T : Type 0} (of : Measures D) (old new : Kept D) (result : Result T HubFault) : Type 0 where
  pub model : (of.state new.device).keeps_model ↔ (of.state old.device).keeps_model
  pub size : of.sector_count new.device ≡ of.sector_count old.device
  pub limits : new.table.limits ≡ old.table.limits
  pub bounds : IsTable new.table
  pub idle : new.table ≡ old.table → new.device ≡ old.device
  pub works : OnOk result (new.failed ≡ old.failed)
  pub fails : IfErr result (λ fault. IsDevice fault → new.failed ≡ true)
  pub unchanged : IfErr result (λ fault. UnlessDevice fault
      ((new.device ≡ old.device) × (new.table ≡ old.table) × (new.failed ≡ old.failed)))
  pub cause : OnOk result (of.failures new.device ≡ of.failures old.device)
  pub cause_err : IfErr result (λ fault. CountsFault fault (of.failures old.device) (of.failures new.device))
