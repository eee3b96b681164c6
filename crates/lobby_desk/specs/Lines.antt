-- Lines to the server.
use Rattle.std.specs.Prelude.{ℕ, ◌≡◌, List, [], ◌∷◌, ◌++◌, Option, Some, None, codes, decimal, if◌then◌else◌}
use Rattle.lobby_words.specs.declared.planning.Plan.{Plan}
use Rattle.lobby_words.specs.Words.{as_line, pair_line}
use Rattle.lobby_words.specs.declared.planning.Plan.TheVariants as plans
use Rattle.player_name.specs.Name.{IsName}
use Rattle.lobby_table.specs.Refusals.{game_named}
use Rattle.lobby_table.specs.declared.server_line.ServerLine.{ServerLine}
pub use Rattle.lobby_words.specs.Answers.{ended}
pub use Rattle.lobby_words.specs.Naming.{is_said}
pub use Rattle.lobby_words.specs.Lines.{bytes_of}
use Rattle.lobby_table.specs.Sending.{game_line, act_lines}

-- the lines that a plan sends
abbrev pub lines_of : Plan → Option (List ℕ) → List ℕ → List (List ℕ)
lines_of plans.Read said text = text ∷ []
lines_of (plans.Act who) said text = act_lines said who.name text (game_named text)
lines_of (plans.ActAs who name) said text = act_lines said name (as_line text) (game_named text)
lines_of (plans.Pair who white black) said text = act_lines said white (pair_line text) None
lines_of (plans.Drop who game) said text = game_line (codes "show ") game ∷ []
lines_of plans.Lobby said text = codes "list" ∷ []
lines_of (plans.Watch game) said text = game_line (codes "show ") game ∷ game_line (codes "fen ") game ∷ []
lines_of (plans.Line game) said text = game_line (codes "pgn ") game ∷ []
lines_of _ said text = []

-- the name that was said last after a plan's lines
abbrev pub said_after : Plan → Option (List ℕ) → Option (List ℕ)
said_after (plans.Act who) said = Some who.name
said_after (plans.ActAs who name) said = Some name
said_after (plans.Pair who white black) said = Some white
said_after _ said = said

-- the name under which a plan acts is one
abbrev pub IsNamed : Plan → Type 0
IsNamed (plans.Act who) = IsName who.name
IsNamed (plans.ActAs who name) = IsName name
IsNamed (plans.Pair who white black) = IsName white
IsNamed _ = Unit {0}
