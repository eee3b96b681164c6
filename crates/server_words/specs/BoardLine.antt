-- What a line asks for.
use Rattle.std.specs.Prelude.{ℕ, ◌≡◌, ◌<◌, ◌≤◌, List, ◌++◌, length, codes}
use Rattle.std.specs.List.{All}
use Rattle.server_words.specs.declared.board_line.BoardCommand.{BoardCommand}
use Rattle.server_words.specs.declared.board_line.BoardCommand.TheVariants.{Move, Bad}

-- one or more visible characters of ASCII, which leaves out the space
pub record IsVisibleText (text : List ℕ) : Type 0 where
  pub some : 0 < length text
  pub visible : All (λ b. (33 ≤ b) × (b ≤ 126)) text

-- the line is `move`, one space and this field
pub record AsksMove (line text : List ℕ) : Type 0 where
  pub words : line ≡ codes "move " ++ text
  pub field : IsVisibleText text

-- what a line asks for: a move, or nothing that is known
abbrev pub IsCommand : List ℕ → BoardCommand → Type 0
IsCommand line (Move text) = AsksMove line text.now
IsCommand line Bad = (text : List ℕ) → ¬ AsksMove line text
