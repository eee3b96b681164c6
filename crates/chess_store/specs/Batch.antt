-- What becomes of a batch of commands.
use Rattle.std.specs.Prelude.{ℕ, ◌≡◌, ◌⊎◌, ◌+◌, ◌-◌, ◌^◌, ◌<◌, ◌≤◌, List, [], ◌∷◌, ◌++◌, length, map, not, count_by}
use Rattle.std.specs.Prelude.{string_bytes, IfSome}
use Rattle.player_name.specs.Name.{IsName}
use Rattle.rec_codec.specs.declared.record.Entry.{Entry}
use Rattle.rec_codec.specs.declared.record.Record.{Record}
use Rattle.rec_codec.specs.declared.record.Record.TheVariants as kind
use Rattle.chess_entry.specs.declared.commands.Command.{Command}
use Rattle.chess_entry.specs.declared.refusals.Refusal.{Refusal}
use Rattle.chess_entry.specs.declared.refusals.Refusal.TheVariants.{NoMemory}
use Rattle.chess_entry.specs.declared.verdicts.Verdict.{Verdict}
use Rattle.chess_entry.specs.declared.verdicts.Verdict.TheVariants.{Refuse, Enter, Read}
use Rattle.chess_entry.specs.State.{TableState}
use Rattle.chess_entry.specs.Verdict.{IsVerdict, is_read}
use Rattle.chess_entry.specs.Follow.{follow}
use Rattle.chess_answer.specs.declared.reads.Reply.{Reply}
use Rattle.chess_answer.specs.Acts.{IsActLine}
use Rattle.chess_answer.specs.Reads.{IsReply}
use Rattle.chess_answer.specs.Refusals.{refusal_text}
use Rattle.chess_table.specs.Memory.{MayNeedMemory}
use Rattle.chess_table.specs.Reading.{HasBody}

-- ---- one command

-- the answer `no NUMBER NAME`
pub record IsRefused (refusal : Refusal) (reply : Reply) : Type 0 where
  pub line : reply.line.bytes ≡ refusal_text refusal
  pub alone : string_bytes reply.body ≡ []

-- nothing is entered
pub record IsNothing (before : TableState) (entries : List Entry) (after : TableState) : Type 0 where
  pub none : entries ≡ []
  pub same : after ≡ before

-- the act became this entry, and is answered
pub record IsTaken (before : TableState) (e : Entry) (reply : Reply) (entries : List Entry) (after : TableState)
    : Type 0 where
  pub line : IsActLine before e reply.line.bytes
  pub alone : string_bytes reply.body ≡ []
  pub one : entries ≡ e ∷ []
  pub follows : after ≡ follow before e

-- The act becomes this entry, unless memory is refused to it.
abbrev pub IsEntering : TableState → Entry → Reply → List Entry → TableState → Type 0
IsEntering before e reply entries after =
    IsTaken before e reply entries after
    ⊎ (MayNeedMemory before e × IsRefused NoMemory reply × IsNothing before entries after)

-- What becomes of a command by its verdict. Where memory was refused, which happens only to the entries and the reads
-- that need it, it is answered 22 and changes nothing.
abbrev pub Becomes : Verdict → TableState → Command → Reply → List Entry → TableState → Type 0
Becomes (Refuse refusal) before command reply entries after = IsRefused refusal reply × IsNothing before entries after
Becomes Read before command reply entries after =
    (IsReply before command reply.line.bytes (string_bytes reply.body)
    ⊎ (HasBody command.act × IsRefused NoMemory reply))
    × IsNothing before entries after
Becomes (Enter e) before command reply entries after = IsEntering before e reply entries after

-- what becomes of one command: its reply, the entry that it becomes, if it does, and the table after it
pub record IsOutcome (before : TableState) (command : Command) (reply : Reply) (entries : List Entry)
    (after : TableState) : Type 0 where
  -- who asks has a name of the right form, if any
  pub named : IfSome command.who IsName
  pub verdict : Verdict
  pub is : IsVerdict before command verdict
  pub becomes : Becomes verdict before command reply entries after

-- ---- several commands

-- the outcome of a command, and of those after it that
pub record IsOutcomeThen (Rest : List Entry → TableState → Type 0) (before : TableState) (command : Command)
    (reply : Reply) (entries : List Entry) : Type 0 where
  pub first : List Entry
  pub between : TableState
  pub outcome : IsOutcome before command reply first between
  pub others : List Entry
  pub rest : Rest others between
  pub whole : entries ≡ first ++ others

-- Commands are judged and entered in their order, each on the table that those before it left, with one reply each.
abbrev pub IsAnswered : TableState → List Command → List Reply → List Entry → TableState → Type 0
IsAnswered before [] [] entries after = IsNothing before entries after
IsAnswered before (command ∷ commands) (reply ∷ replies) entries after =
    IsOutcomeThen (λ others between. IsAnswered between commands replies others after) before command reply entries
IsAnswered before _ _ entries after = ⊥

-- a batch was answered so, with some entries
pub record AreAnswered (before : TableState) (commands : List Command) (replies : List Reply) (after : TableState)
    : Type 0 where
  pub entries : List Entry
  pub answered : IsAnswered before commands replies entries after

-- a batch was entered, with so many entries, and its replies are not handed out
pub record AreEntered (before : TableState) (commands : List Command) (count : ℕ) (after : TableState) : Type 0 where
  pub replies : List Reply
  pub entries : List Entry
  pub answered : IsAnswered before commands replies entries after
  pub some : 1 ≤ length entries
  pub counted : count ≡ length entries

-- records more, of entries of which that is said
pub record AreRecorded (old new : List Record) (P : List Entry → Type 0) : Type 0 where
  pub entries : List Entry
  pub appended : new ≡ old ++ map kind.Entry entries
  pub are : P entries

-- ---- what is worn out

-- how many changes a batch asks for: its commands that are no reads
abbrev pub change_count : List Command → ℕ
change_count commands = count_by (λ command. not (is_read command.act)) commands

-- The changes that a batch asks for would need a header's number, or a count of entries, over 2^64 - 1.
pub record IsWornOut (number entries changes : ℕ) : Type 0 where
  pub some : 1 ≤ changes
  pub full : (number ≡ 2 ^ 64 - 1) ⊎ (2 ^ 64 - 1 < entries + changes)
