-- What arbiters decide, and whether it was put down.
use Rattle.std.specs.Prelude.{ℕ, ◌≡◌, ⊤, Bool, true, false, List, [], ◌∷◌, ◌++◌, Option, None, Some}
use Rattle.lobby_desk.specs.Events.{message_values}
use Rattle.lobby_desk.specs.Strangers.{player_at}
use Rattle.lobby_desk.specs.Who.{IsDecisionTold}
use Rattle.lobby_talk.specs.declared.talk.Talk.{Talk}

-- a decision that was put: the name of the arbiter, and the message
pub record Decision : Type 0 where
  pub by : List ℕ
  pub text : List ℕ

-- these, and behind them one more where it was put
abbrev pub with_put : Bool → List Decision → Decision → List Decision
with_put true before one = before ++ one ∷ []
with_put false before one = before

-- This decision stands behind those that were put before, or it was not put and they are as they were; where they are
-- known.
abbrev pub IsPut : Bool → List ℕ → List ℕ → Option (List Decision) → Option (List Decision) → Type 0
IsPut is_put by text None after = ⊤
IsPut is_put by text (Some before) after =
    after ≡ Some (with_put is_put before (record { by = by; text = text }))

-- a name, and the empty text where there is none
abbrev pub name_in : Option (List ℕ) → List ℕ
name_in None = []
name_in (Some name) = name

-- What a message of a connection has put: nothing where it does not decide; else the decision of the player for whom
-- the connection acts, in this very message, and then everybody is told it; or nothing, and then it is refused.
abbrev pub IsDecided : Bool → ℕ → List ℕ → Option (List Decision) → Option (List Decision) → Talk → Talk → Type 0
IsDecided false c text before after old new = after ≡ before
IsDecided true c text before after old new =
    (is_put : Bool) × IsPut is_put (name_in (player_at old.desk c)) text before after
    × IsDecisionTold is_put old.desk c text (message_values old.told.items) (message_values new.told.items)
