-- Who is known by the players' file.
use Rattle.std.specs.Prelude.{ℕ, ◌≡◌, ◌≢◌, ◌+◌, ◌-◌, ◌^◌, ◌⊎◌, ◌&&◌, Bool, true, false, List, map, min}
use Rattle.std.specs.Prelude.{Option, None, Some}
use Rattle.std.specs.Global.{Vec}
use Rattle.lobby_words.specs.declared.players.Player.{Player}
use Rattle.lobby_loop.specs.declared.hall.Hall.{Hall}
use Rattle.lobby_loop.specs.Living.{Renews}
use Rattle.lobby_serving.specs.declared.players.Sight.{Sight}
use Rattle.lobby_serving.specs.declared.players.Players.{Players}

-- a player of the file, who is no arbiter where no log has who said what
abbrev pub known_as : Bool → Player → Player
known_as has_log player = record player { is_arbiter = player.is_arbiter && has_log }

abbrev pub known_of : Bool → List Player → List Player
known_of has_log players = map (known_as has_log) players

-- who is known from then on: the players that were read; else those before
abbrev pub Takes : {S : Type 0} → Bool → Option (Vec Player) → Hall S → Hall S → Type 0
Takes has_log None old new = new ≡ old
Takes has_log (Some read) old new = Renews (known_of has_log read.items) old new

-- Who is known stays, where the file stands as it was seen last, or was written a moment ago.
pub record Leaves {R S : Type 0} (sight : Sight) (old new : Players R) (hall after : Hall S) : Type 0 where
  pub reason : (sight.mark ≡ old.seen) ⊎ (sight.is_still ≡ false)
  pub seen : new.seen ≡ old.seen
  pub same : after ≡ hall

-- Who is known follows the file, where it stands otherwise: it is read.
pub record Follows {R S : Type 0} (gives : Option (Vec Player) → Type 0) (sight : Sight) (old new : Players R)
    (hall after : Hall S) : Type 0 where
  pub other : sight.mark ≢ old.seen
  pub still : sight.is_still ≡ true
  pub seen : new.seen ≡ sight.mark
  pub read : Option (Vec Player)
  pub given : gives read
  pub takes : Takes old.has_log read hall after

-- A look at the file at a moment: how it stands is found, and who is in it, where it is read.
pub record Looks {R S : Type 0} (shows : Sight → Type 0) (gives : Option (Vec Player) → Type 0) (at : ℕ)
    (old new : Players R) (hall after : Hall S) : Type 0 where
  pub sight : Sight
  pub shown : shows sight
  pub next : new.next_at ≡ min (at + 500) (2 ^ 64 - 1)
  pub log : new.has_log ≡ old.has_log
  pub known : Leaves sight old new hall after ⊎ Follows gives sight old new hall after
