-- What the lines of a players' file had so far.
use Rattle.std.specs.Prelude.{ℕ, ◌≡◌, List, String, map}
use Rattle.std.specs.Global.{Global}
use Rattle.std.specs.Str.{str_to_ascii_lowercase}
use Rattle.std.specs.String.{string_bytes}
use Rattle.lobby_words.specs.declared.players.Player.{Player}

abbrev pub texts_of : List (String Global) → List (List ℕ)
texts_of texts = map string_bytes texts

-- These are the names of the players, with small letters, and the sums of their tokens.
pub record AreSeen (names : List (String Global)) (sums : List (List ℕ)) (players : List Player) : Type 0 where
  pub named : texts_of names ≡ map (λ player. str_to_ascii_lowercase player.name) players
  pub shown : sums ≡ map (λ player. player.sum) players
