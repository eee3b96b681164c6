use Rattle.std.specs.Prelude.{ℕ, ◌≡◌, List, length, take}
use Rattle.player_name.specs.declared.names.Name.TheInside.{Inside}
use Rattle.player_name.specs.Name.{IsName, padded}

-- the text that a name keeps
abbrev pub text_of : Inside → List ℕ
text_of name = take name.len name.bytes

-- what a name keeps of a text
abbrev pub inside_of : List ℕ → Inside
inside_of text = record { len = length text; bytes = padded text }

-- what every name keeps true: its text is a name, with zeros after it
pub record IsSoundName (name : Inside) : Type 0 where
  pub named : IsName (text_of name)
  pub same : inside_of (text_of name) ≡ name
