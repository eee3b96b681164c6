-- What comes of the batches of one life of a store that opened on the table of a list of entries.
use Rattle.std.specs.Prelude.{ℕ, ◌≡◌, ◌⊎◌, ◌≤◌, ◌+◌, Bool, List, [], ◌∷◌, ◌++◌, length, map, count_by, Option, Some}
use Rattle.std.specs.Prelude.{None, IfSome}
use Rattle.std.specs.Str.{bytes_eq}
use Rattle.rec_codec.specs.declared.limits.Limits.{Limits}
use Rattle.rec_codec.specs.declared.record.Entry.{Entry}
use Rattle.chess_entry.specs.declared.commands.Command.{Command}
use Rattle.chess_entry.specs.declared.refusals.Refusal.TheVariants.{NoMemory}
use Rattle.chess_entry.specs.Games.{table_of}
use Rattle.chess_answer.specs.declared.reads.Reply.{Reply}
use Rattle.chess_answer.specs.Refusals.{refusal_text}
use Rattle.chess_store.specs.Batch.{IsAnswered}

-- what may be submitted at once
pub record IsSubmittable (commands : List Command) : Type 0 where
  pub some : 1 ≤ length commands
  pub few : length commands ≤ 64

-- A batch that was submitted: its commands, the answer to each, and the entries of those that were accepted.
pub record Batch : Type 0 where
  pub commands : List Command
  pub replies : List Reply
  pub entries : List Entry

-- the entries of several batches, one after the other
abbrev pub entries_of : List Batch → List Entry
entries_of [] = []
entries_of (batch ∷ batches) = batch.entries ++ entries_of batches

-- The commands are judged in their order, the first on the table of the entries k. What is refused or read changes
-- nothing, and what is accepted is the next entry of the list.
abbrev pub IsJudged : Limits → List Entry → Batch → Type 0
IsJudged limits k batch =
    IsAnswered (table_of limits k) batch.commands batch.replies batch.entries (table_of limits (k ++ batch.entries))

-- So is each of these batches, after the batches before it.
abbrev pub AreJudged : Limits → List Entry → List Batch → Type 0
AreJudged limits k [] = Unit {0}
AreJudged limits k (batch ∷ batches) = IsJudged limits k batch × AreJudged limits (k ++ batch.entries) batches

-- whether memory was refused for a command, by its answer; it counts as not sent
abbrev pub is_unsent : Reply → Bool
is_unsent reply = bytes_eq reply.line.bytes (refusal_text NoMemory)

-- for how many commands it was
abbrev pub unsent_in : List Batch → ℕ
unsent_in [] = 0
unsent_in (batch ∷ batches) = count_by is_unsent batch.replies + unsent_in batches

-- What a life comes to: the batches that were answered, and the one at which the device failed, if it did.
pub record Course : Type 0 where
  pub answered : List Batch
  pub failed : Option Batch

abbrev pub list_of : Option Batch → List Batch
list_of None = []
list_of (Some batch) = batch ∷ []

-- The entries of a life that opened on the entries k: all that were acknowledged, and all that were accepted, which are
-- these and those of the batch at which the device failed.
abbrev pub acknowledged : List Entry → Course → List Entry
acknowledged k course = k ++ entries_of course.answered

abbrev pub accepted : List Entry → Course → List Entry
accepted k course = acknowledged k course ++ entries_of (list_of course.failed)

-- what a stop leaves of them: the acknowledged entries, or all accepted ones
abbrev pub IsLeft : List Entry → Course → List Entry → Type 0
IsLeft k course next = (next ≡ acknowledged k course) ⊎ (next ≡ accepted k course)

-- These batches were submitted in their order, the answered ones, the one at which the device failed, and not those
-- that are left; and they were judged. The one at which the device failed has an entry, since one without makes no
-- device call.
pub record IsCourse (limits : Limits) (k : List Entry) (batches : List (List Command)) (course : Course)
    (left : List (List Command)) : Type 0 where
  pub order : batches ≡ map (λ b. b.commands) course.answered ++ (map (λ b. b.commands) (list_of course.failed) ++ left)
  pub answered : AreJudged limits k course.answered
  pub failed : AreJudged limits (acknowledged k course) (list_of course.failed)
  pub some : IfSome course.failed (λ batch. 1 ≤ length batch.entries)
