-- The lives of the drill: in each a game is opened and five moves are made as one batch, at one of whose device calls
-- the life stops, with one of the fates for each write that is pending there.
use Rattle.std.specs.Prelude.{ℕ, zero, suc, ◌≡◌, ◌+◌, ◌-◌, ◌/◌, ◌%◌, ◌^◌, nat_lt, if◌then◌else◌, List, [], ◌∷◌, map}
use Rattle.std.specs.Prelude.{codes, Option, Some, None}
use Rattle.chess_bits.specs.declared.men.Colour.TheVariants.{White}
use Rattle.sector_dev.specs.declared.device.Fate.{Fate}
use Rattle.sector_dev.specs.declared.device.Fate.TheVariants.{Lost, Kept, Unreadable}
use Rattle.chess_entry.specs.declared.commands.Act.{Act}
use Rattle.chess_entry.specs.declared.commands.Act.TheVariants.{NewGame, Join, Play}
use Rattle.chess_entry.specs.declared.commands.Command.{Command}
use Rattle.chess_store.specs.declared.plan.Life.{Life}
use Rattle.chess_store.specs.Lives.{batches_of}

-- ---- its batches

-- what a player asks at the drill's moment
abbrev pub asked : List ℕ → Act → Command
asked who act = record { at = 1000; who = Some who; act = act }

abbrev pub ann : List ℕ
ann = codes "ann"

abbrev pub bob : List ℕ
bob = codes "bob"

-- a move in the game that is opened
abbrev pub played : List ℕ → ℕ → List ℕ → Command
played who ply text = asked who (Play 1 ply (record { bytes = text; spare = [] }))

-- a command without the room that the text of its move leaves unused, which says nothing
abbrev pub shown_act : Act → Act
shown_act (Play game ply text) = Play game ply (record { bytes = text.bytes; spare = [] })
shown_act act = act

abbrev pub shown : Command → Command
shown command = record { at = command.at; who = command.who; act = shown_act command.act }

-- ann opens a game of 300 seconds as White, and bob joins it
abbrev pub opening_batch : List Command
opening_batch = asked ann (NewGame White 300 0 None None) ∷ asked bob (Join 1) ∷ []

abbrev pub moves_batch : List Command
moves_batch =
    played ann 0 (codes "e4")
    ∷ played bob 1 (codes "e5")
    ∷ played ann 2 (codes "Nf3")
    ∷ played bob 3 (codes "Nc6")
    ∷ played ann 4 (codes "Bb5")
    ∷ []

-- ---- its stop

-- Where a life stops: after so many calls, if at all, and in which of the ways that its pending writes may go.
pub record Stop : Type 0 where
  pub calls : Option ℕ
  pub way : ℕ

-- The cases in their order: to each of these calls, the first of which comes after so many, belong as many as there are
-- ways for the writes that are pending then, each of which may have three fates; and to none belong all others.
abbrev pub stop_among : List ℕ → ℕ → ℕ → Stop
stop_among [] before case = record { calls = None; way = 0 }
stop_among (pending ∷ others) before case =
    if nat_lt case (3 ^ pending) then record { calls = Some before; way = case }
    else stop_among others (before + 1) (case - 3 ^ pending)

-- The opening takes three calls and the opening batch four. The batch of moves takes five: it writes two sectors,
-- syncs, writes the header, and syncs. So many writes are pending where each of the five fails, its own among them.
abbrev pub stop_of : ℕ → Stop
stop_of case = stop_among (1 ∷ 2 ∷ 2 ∷ 1 ∷ 1 ∷ []) (3 + 4) case

abbrev pub fate_of : ℕ → Fate
fate_of zero = Lost
fate_of (suc zero) = Kept
fate_of (suc (suc n)) = Unreadable

-- in a way, the fates of the first and of the second pending write
abbrev pub fates_of : ℕ → List Fate
fates_of way = fate_of (way % 3) ∷ fate_of (way / 3 % 3) ∷ []

-- the life of a case
pub record IsDrillLife (case : ℕ) (life : Life) : Type 0 where
  pub calls : life.calls ≡ (stop_of case).calls
  pub fates : life.fates.items ≡ fates_of (stop_of case).way
  pub batches : map (map shown) (batches_of life) ≡ opening_batch ∷ moves_batch ∷ []
