-- How fast a player may act: by what he has paid, over all connections that act for him.
use Rattle.std.specs.Prelude.{ℕ, ◌≡◌, ◌+◌, ◌-◌, ◌^◌, ◌==◌, max, min, nat_le, if◌then◌else◌, Bool, true, false, List}
use Rattle.std.specs.Prelude.{Option, None, Some, ◌≤◌, [], ◌∷◌}
use Rattle.std.specs.BTreeMap.{BTreeMap, get}
use Rattle.std.specs.Int.{w128, from_le_bytes}
use Rattle.std.specs.Map.{count_at}
use Rattle.std.specs.Ordering.{nat_cmp}
use Rattle.player_name.specs.Name.{padded}
use Rattle.lobby_desk.specs.declared.desk.Desk.{Desk}
use Rattle.lobby_desk.specs.Strangers.{player_at}

-- until when somebody's time is taken, once so many milliseconds more of it are taken at a moment
abbrev pub taken_until : ℕ → ℕ → ℕ → ℕ
taken_until at until millis = min (max until at + millis) (2 ^ 64 - 1)

-- a name as a number
unfoldable pub number_of : List ℕ → ℕ
number_of name = from_le_bytes w128 (padded name)

-- the player for whom a connection acts
abbrev pub player_of : Desk → Option ℕ → Option (List ℕ)
player_of desk None = None
player_of desk (Some c) = player_at desk c

-- who pays for the acts of a connection, as a number: the player for whom it acts
abbrev pub number_if : Option (List ℕ) → ℕ
number_if None = 0
number_if (Some name) = number_of name

abbrev pub payer_of : Desk → Option ℕ → ℕ
payer_of desk number = number_if (player_of desk number)

-- until when a player has paid, over all connections that act for him
abbrev pub paid_by : BTreeMap ℕ ℕ → ℕ → ℕ
paid_by paces player = count_at (get nat_cmp paces) player

-- He may act where he has not paid more than 100 ms ahead: an act takes 50 ms, so three at once, and 20 a second.
abbrev pub may_act : ℕ → ℕ → Bool
may_act at until = nat_le (until - at) 100

-- the moment from which on he may
abbrev pub acts_from : ℕ → ℕ
acts_from until = until - 100

-- He pays for an act, and nobody else pays anything; or nobody does.
abbrev pub PaysIf : Bool → ℕ → ℕ → BTreeMap ℕ ℕ → BTreeMap ℕ ℕ → Type 0
PaysIf true at player old new =
    (one : ℕ) → paid_by new one ≡ (if player == one then taken_until at (paid_by old player) 50 else paid_by old one)
PaysIf false at player old new = new ≡ old

-- A player who had paid so far acts at these moments, the newest first, at each of which he may; then he has paid so
-- far.
abbrev pub ActsAt : ℕ → List ℕ → ℕ → Type 0
ActsAt had [] until = until ≡ had
ActsAt had (at ∷ before) until =
    (was : ℕ) × ActsAt had before was × (may_act at was ≡ true) × (until ≡ taken_until at was 50)

-- All of these moments are between two.
abbrev pub AreBetween : ℕ → ℕ → List ℕ → Type 0
AreBetween from to [] = Unit {0}
AreBetween from to (at ∷ before) = (from ≤ at) × (at ≤ to) × AreBetween from to before
