use Rattle.std.specs.Prelude.{ℕ, ◌≡◌, ◌-◌, ◌≤◌, Bool, true, ◌||◌, ◌==◌, List, ◌++◌, length, replicate}
use Rattle.std.specs.Char.{is_ascii_alphanumeric}
use Rattle.std.specs.List.{list_all}

-- a letter A to Z or a to z, a digit, or `_`
abbrev pub is_name_byte : ℕ → Bool
is_name_byte c = is_ascii_alphanumeric c || c == 95

-- 1 to 16 of these
pub record IsName (text : List ℕ) : Type 0 where
  pub some : 1 ≤ length text
  pub short : length text ≤ 16
  pub bytes : list_all is_name_byte text ≡ true

-- a name in 16 bytes: its text and then zeros
abbrev pub padded : List ℕ → List ℕ
padded text = text ++ replicate (16 - length text) 0
