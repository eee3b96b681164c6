-- What comes of the lives of a store, one after the other.
use Rattle.std.specs.Prelude.{ℕ, ◌≡◌, ◌⊎◌, ◌+◌, ◌-◌, ◌^◌, min, List, [], ◌∷◌, map, length, Option, Some, None, IsSome}
use Rattle.chess_board.specs.Line.{IsLegalLine}
use Rattle.chess_board.specs.Legal.{EachOf}
use Rattle.rec_codec.specs.declared.limits.Limits.{Limits}
use Rattle.rec_codec.specs.declared.record.Entry.{Entry}
use Rattle.sector_dev.specs.Device.{State, HasRisen}
use Rattle.chess_entry.specs.declared.commands.Command.{Command}
use Rattle.chess_entry.specs.State.{GameState}
use Rattle.chess_entry.specs.Games.{table_of}
use Rattle.chess_entry.specs.Lawful.{IsLawful}
use Rattle.chess_store.specs.Means.{AllMean}
use Rattle.chess_store.specs.declared.plan.Life.{Life}
use Rattle.chess_store.specs.declared.plan.LifeReport.{LifeReport}
use Rattle.chess_store.specs.declared.plan.Report.{Report}
use Rattle.chess_store.specs.Courses.{Batch, Course, IsCourse, IsLeft, IsSubmittable, entries_of, list_of, unsent_in}

-- the batches of a life
abbrev pub batches_of : Life → List (List Command)
batches_of life = map (λ b. b.items) life.batches.items

-- every batch of these lives may be submitted
abbrev pub AreSubmittable : List Life → Type 0
AreSubmittable lives = EachOf (λ life. EachOf IsSubmittable (batches_of life)) lives

-- The device failed in a life, as it was to: its calls were limited, and the count of its failures rose.
pub record HasFailed (life : Life) (failures after : ℕ) : Type 0 where
  pub armed : IsSome life.calls
  pub risen : HasRisen failures after

-- The opening failed, by the device alone. What was kept is kept.
pub record IsUnopened (k : List Entry) (failures : ℕ) (life : Life) (report : LifeReport) (next : List Entry)
    (after : ℕ)
    : Type 0 where
  pub failed : HasFailed life failures after
  pub opened : report.opened ≡ None
  pub acknowledged : report.acknowledged ≡ 0
  pub accepted : report.accepted ≡ 0
  pub unsent : report.unsent ≡ 0
  pub counted : report.failures ≡ after
  pub kept : next ≡ k

-- Every batch is answered and the device has not failed; or the device failed at one, and those behind it are left.
abbrev pub EndsBy : Life → ℕ → ℕ → Option Batch → List (List Command) → Type 0
EndsBy life failures after None left = (left ≡ []) × (after ≡ failures)
EndsBy life failures after (Some batch) left = HasFailed life failures after

-- every move of a game is legal at its place
abbrev pub HasLegalMoves : GameState → Type 0
HasLegalMoves game = IsLegalLine game.start game.moves

-- The opening showed the table of the entries k, which are a lawful list, and every move in its games is legal. The
-- batches went their course. What is kept next are the acknowledged entries, or all accepted ones.
pub record IsOpened (limits : Limits) (k : List Entry) (failures : ℕ) (life : Life) (report : LifeReport)
    (next : List Entry) (after : ℕ) : Type 0 where
  pub lawful : IsLawful limits k
  pub legal : EachOf HasLegalMoves (table_of limits k).games
  pub course : Course
  pub left : List (List Command)
  pub is_course : IsCourse limits k (batches_of life) course left
  pub ends : EndsBy life failures after course.failed left
  pub opened : report.opened ≡ Some (length k)
  pub acknowledged : report.acknowledged ≡ length (entries_of course.answered)
  pub accepted : report.accepted ≡ length (entries_of course.answered) + length (entries_of (list_of course.failed))
  pub unsent : report.unsent ≡ min (unsent_in course.answered) (2 ^ 64 - 1)
  pub counted : report.failures ≡ after
  pub kept : IsLeft k course next

-- A life that begins where the entries k are kept, and after which the entries `next` are.
abbrev pub IsLife : Limits → List Entry → ℕ → Life → LifeReport → List Entry → ℕ → Type 0
IsLife limits k failures life report next after =
    IsUnopened k failures life report next after ⊎ IsOpened limits k failures life report next after

-- a life, and those after it that
pub record IsLifeThen (limits : Limits) (Rest : List Entry → ℕ → Type 0) (k : List Entry) (failures : ℕ) (life : Life)
    (report : LifeReport) : Type 0 where
  pub next : List Entry
  pub after : ℕ
  pub first : IsLife limits k failures life report next after
  pub rest : Rest next after

-- Each life begins with what the one before it left.
abbrev pub AreLives : Limits → List Entry → ℕ → List Life → List LifeReport → List Entry → ℕ → Type 0
AreLives limits k failures [] [] next after = (next ≡ k) × (after ≡ failures)
AreLives limits k failures (life ∷ lives) (report ∷ reports) next after =
    IsLifeThen limits (λ between count. AreLives limits between count lives reports next after) k failures life report
AreLives limits k failures _ _ next after = ⊥

-- Where the lives begin: a device that keeps the disk model, and a lawful list whose table every image means.
pub record IsBegun (limits : Limits) (k : List Entry) (now : State) : Type 0 where
  pub model : now.keeps_model
  pub lawful : IsLawful limits k
  pub means : AllMean now (table_of limits k)

-- What is reported at the end of the lives: what the entries are that the last opening shows, which are the ones that
-- are kept then. They are a lawful list, and every move in its games is legal.
pub record IsReport (limits : Limits) (k : List Entry) (failures : ℕ) (lives : List Life) (report : Report) (after : ℕ)
    : Type 0 where
  pub last : List Entry
  pub are_lives : AreLives limits k failures lives report.lives.items last after
  pub kept : report.kept ≡ length last
  pub shown : report.table ≡ table_of limits last
  pub lawful : IsLawful limits last
  pub legal : EachOf HasLegalMoves report.table.games
