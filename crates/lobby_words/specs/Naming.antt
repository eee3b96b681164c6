-- The name under which lines go to the server.
use Rattle.std.specs.Prelude.{ℕ, Bool, false, List, Option, Some, None}
use Rattle.std.specs.Str.{bytes_eq}
use Rattle.server_answers.specs.Heads as server
use Rattle.lobby_words.specs.Answers.{first_line}

-- whether a name is the one that was said last
abbrev pub is_said : Option (List ℕ) → List ℕ → Bool
is_said None name = false
is_said (Some said) name = bytes_eq said name

-- Whether an answer of the server takes a name: `ok name NAME`, with this very NAME. The name holds there from then on,
-- and by no other answer.
abbrev pub takes_name : List ℕ → List ℕ → Bool
takes_name name answer = server.takes_name name (first_line answer)
