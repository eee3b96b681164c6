-- What happens while games are kept, and what is decided then.
use Rattle.std.specs.Prelude.{ℕ, Bool, List}

-- One thing that happens. A clerk begins, and the archive shows this then, also where the one before it was killed. A
-- game is seen to be over, and may be dropped or not: its PGN is asked for or not. The PGN of a game has come, and is
-- the one that the archive has of it or not: it is handed to the archive or not. What was asked of a game was refused.
-- The archive was synced, and the sync has answered. Nobody looks at a game: a drop is sent for it or not.
pub data Step : Type 0 where
  Begun : (archive : List ℕ) → Step
  Over : (game : ℕ) → (droppable : Bool) → (asks : Bool) → Step
  Came : (game : ℕ) → (same : Bool) → (puts : Bool) → Step
  Refused : (game : ℕ) → Step
  Synced : Step
  Left : (game : ℕ) → (drops : Bool) → Step
