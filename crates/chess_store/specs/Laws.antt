-- Laws of lives.
use Rattle.std.specs.Prelude.{ℕ, ◌≡◌, ◌≤◌, List, [], ◌++◌}
use Rattle.rec_codec.specs.declared.limits.Limits.{Limits}
use Rattle.rec_codec.specs.declared.limits.Version.TheVariants.{Two}
use Rattle.rec_codec.specs.Limits.{IsInRange}
use Rattle.rec_codec.specs.declared.record.Entry.{Entry}
use Rattle.chess_entry.specs.declared.commands.Command.{Command}
use Rattle.chess_entry.specs.State.{TableState}
use Rattle.chess_entry.specs.Games.{table_of}
use Rattle.chess_entry.specs.Lawful.{IsLawful}
use Rattle.chess_entry.specs.Table.{empty_table}
use Rattle.chess_answer.specs.declared.reads.Reply.{Reply}
use Rattle.chess_table.specs.Widened.{with_limits}
use Rattle.chess_store.specs.Batch.{IsAnswered}
use Rattle.chess_store.specs.declared.plan.Life.{Life}
use Rattle.chess_store.specs.declared.plan.LifeReport.{LifeReport}
use Rattle.chess_store.specs.Courses.{Course, acknowledged, IsLeft}
use Rattle.chess_store.specs.Lives.{AreLives}

-- the first entries of a list are these
pub record BeginsWith (front whole : List Entry) : Type 0 where
  pub rest : List Entry
  pub is : whole ≡ front ++ rest

-- Nothing is a lawful list, and its table is the empty one.
pub record IsBeginning (limits : Limits) : Type 0 where
  pub lawful : IsLawful limits []
  pub table : table_of limits [] ≡ empty_table limits

abbrev pub LawOfBeginning : Type 0
LawOfBeginning = (limits : Limits) → IsBeginning limits

-- A lawful list with the entries of a batch that was answered on its table: this is its table then.
pub record IsLonger (limits : Limits) (k entries : List Entry) (after : TableState) : Type 0 where
  pub lawful : IsLawful limits (k ++ entries)
  pub table : after ≡ table_of limits (k ++ entries)

abbrev pub LawOfBatches : Type 0
LawOfBatches =
    (limits : Limits) (k : List Entry) (commands : List Command) (replies : List Reply) (entries : List Entry)
    (after : TableState) → IsInRange Two limits → IsLawful limits k
    → IsAnswered (table_of limits k) commands replies entries after → IsLonger limits k entries after

-- A list that is lawful stays so under greater limits, and its table is the one that is widened to them.
pub record IsRaised (limits raised : Limits) (k : List Entry) : Type 0 where
  pub lawful : IsLawful raised k
  pub table : with_limits raised (table_of limits k) ≡ table_of raised k

abbrev pub LawOfRaising : Type 0
LawOfRaising = (limits raised : Limits) (k : List Entry) → limits.games ≤ raised.games → limits.plies ≤ raised.plies
    → IsLawful limits k → IsRaised limits raised k

-- What a stop leaves begins with what was acknowledged, and what lives leave begins with what was kept before them.
pub record NothingIsLost : Type 0 where
  pub stop : (k next : List Entry) (course : Course) → IsLeft k course next → BeginsWith (acknowledged k course) next
  pub lives : (limits : Limits) (k last : List Entry) (failures after : ℕ) (lives : List Life)
      (reports : List LifeReport)
      → AreLives limits k failures lives reports last after → BeginsWith k last

abbrev pub LawOfKept : Type 0
LawOfKept = NothingIsLost
