-- What is promised of whatever happens. The past is told from its newest step back.
use Rattle.std.specs.Prelude.{ℕ, ◌≡◌, Bool, true, false, not, ◌||◌, ◌&&◌, ◌==◌, List, [], ◌∷◌, ◌++◌, if◌then◌else◌}
use Rattle.night_archive.specs.Steps.{Step, Begun, Over, Came, Refused, Synced, Left}
use Rattle.night_archive.specs.Files.{contains, archive_in, safe_in, fresh_in}

-- no game stands there twice
abbrev pub IsOnce : List ℕ → Type 0
IsOnce [] = Unit {0}
IsOnce (game ∷ games) = (contains game games ≡ false) × IsOnce games

-- whether a game was seen to be over, since the clerk began, and nothing that was asked of it was refused since
abbrev pub seen_after : Step → ℕ → Bool → Bool
seen_after (Begun archive) game before = false
seen_after (Over g droppable asks) game before = g == game || before
seen_after (Refused g) game before = if g == game then false else before
seen_after _ game before = before

abbrev pub is_seen : List Step → ℕ → Bool
is_seen [] game = false
is_seen (s ∷ past) game = seen_after s game (is_seen past game)

-- whether its PGN was asked for, and has not come since, nor a refusal
abbrev pub waiting_after : Step → ℕ → Bool → Bool
waiting_after (Begun archive) game before = false
waiting_after (Over g droppable asks) game before = (g == game && asks) || before
waiting_after (Came g same puts) game before = if g == game then false else before
waiting_after (Refused g) game before = if g == game then false else before
waiting_after _ game before = before

abbrev pub is_waiting : List Step → ℕ → Bool
is_waiting [] game = false
is_waiting (s ∷ past) game = waiting_after s game (is_waiting past game)

-- whether the table's PGN of it, which was waited for, was handed to the archive or is the one that stands there, and
-- nothing was refused since
abbrev pub matched_after : Step → ℕ → Bool → Bool → Bool
matched_after (Begun archive) game waits before = false
matched_after (Came g same puts) game waits before = (g == game && (waits && (puts || same))) || before
matched_after (Refused g) game waits before = if g == game then false else before
matched_after _ game waits before = before

abbrev pub is_matched : List Step → ℕ → Bool
is_matched [] game = false
is_matched (s ∷ past) game = matched_after s game (is_waiting past game) (is_matched past game)

-- whether a drop was sent for it, and not refused, since the clerk began
abbrev pub sent_after : Step → ℕ → Bool → Bool
sent_after (Begun archive) game before = false
sent_after (Left g drops) game before = (g == game && drops) || before
sent_after (Refused g) game before = if g == game then false else before
sent_after _ game before = before

abbrev pub is_sent : List Step → ℕ → Bool
is_sent [] game = false
is_sent (s ∷ past) game = sent_after s game (is_sent past game)

-- What is decided, by what happened before. The PGN of a game that is seen to be over is asked for where it was not
-- seen before, and is not in the archive or may be dropped. What comes is handed to the archive where it is waited for
-- and not there. A drop is sent for a game of which the table's PGN was handed to the archive or is the one that stands
-- there, since before a sync that has answered; and once.
abbrev pub may_go : List Step → ℕ → Bool
may_go past game =
    (is_matched past game && not (is_sent past game))
    && (contains game (archive_in past) && not (contains game (fresh_in past)))

abbrev pub IsRightStep : Step → List Step → Type 0
IsRightStep (Over game droppable asks) past =
    asks ≡ (not (is_seen past game) && (droppable || not (contains game (archive_in past))))
IsRightStep (Came game same puts) past = puts ≡ (is_waiting past game && not (contains game (archive_in past)))
IsRightStep (Left game drops) past = drops ≡ may_go past game
IsRightStep _ past = Unit {0}

abbrev pub AllRight : List Step → Type 0
AllRight [] = Unit {0}
AllRight (s ∷ past) = IsRightStep s past × AllRight past

-- whether a game was ever seen to be over, by this clerk or by one before it
abbrev pub over_after : Step → ℕ → Bool → Bool
over_after (Over g droppable asks) game before = g == game || before
over_after _ game before = before

abbrev pub was_over : List Step → ℕ → Bool
was_over [] game = false
was_over (s ∷ past) game = over_after s game (was_over past game)

-- whether a drop was ever sent for it
abbrev pub dropped_after : Step → ℕ → Bool → Bool
dropped_after (Left g drops) game before = (g == game && drops) || before
dropped_after _ game before = before

abbrev pub is_dropped : List Step → ℕ → Bool
is_dropped [] game = false
is_dropped (s ∷ past) game = dropped_after s game (is_dropped past game)

-- a drop is sent for a game that was seen to be over, of which the table's PGN was handed to the archive or is the one
-- that stands there, and that is safe there
abbrev pub IsDropStep : Step → List Step → Type 0
IsDropStep (Left game drops) past =
    drops ≡ true → (is_seen past game ≡ true) × (is_matched past game ≡ true) × (contains game (safe_in past) ≡ true)
IsDropStep _ past = Unit {0}

abbrev pub AllDrops : List Step → Type 0
AllDrops [] = Unit {0}
AllDrops (s ∷ past) = IsDropStep s past × AllDrops past

-- whether the PGN of a game was ever handed to the archive
abbrev pub put_after : Step → ℕ → Bool → Bool
put_after (Came g same puts) game before = (g == game && puts) || before
put_after _ game before = before

abbrev pub was_put : List Step → ℕ → Bool
was_put [] game = false
was_put (s ∷ past) game = put_after s game (was_put past game)

-- A sync has answered, and before it the PGN of the game was handed to the archive and stood there.
pub record IsHanded (past : List Step) (game : ℕ) : Type 0 where
  pub since : List Step
  pub before : List Step
  pub synced : past ≡ since ++ Synced ∷ before
  pub put : was_put before game ≡ true
  pub stands : contains game (archive_in before) ≡ true

abbrev pub IsHandedStep : Step → List Step → Type 0
IsHandedStep (Left game drops) past = drops ≡ true → IsHanded past game
IsHandedStep _ past = Unit {0}

abbrev pub AllHanded : List Step → Type 0
AllHanded [] = Unit {0}
AllHanded (s ∷ past) = IsHandedStep s past × AllHanded past
