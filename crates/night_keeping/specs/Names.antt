-- How a tag tells of a player.
use Rattle.std.specs.Prelude.{ℕ, List, if◌then◌else◌}
use Rattle.std.specs.List.{list_any}
use Rattle.std.specs.Str.{bytes_eq}
use Rattle.lobby_words.specs.declared.initials.NameForm.{NameForm}
use Rattle.lobby_words.specs.declared.players.Player.{Player}
use Rattle.lobby_words.specs.Initials.{name_told}

-- What a tag has of a player where full names are told in this form: the value as it is, where it is a player's name of
-- the protocol, and else the full name that it is, in the form.
abbrev pub player_told : NameForm → List Player → List ℕ → List ℕ
player_told form players value =
    if list_any (λ player. bytes_eq player.name value) players then value else name_told form value
