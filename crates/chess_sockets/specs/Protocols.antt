-- How other protocols than this one begin.
use Rattle.std.specs.Prelude.{ℕ, ◌≡◌, ◌⊎◌, List, ◌∷◌, ◌++◌, codes}
use Rattle.text_lines.specs.Lines.{IsUnfinished}

-- This line is a request of HTTP: the version stands in it behind a space, as in each (RFC 9112, 3).
pub record IsRequest (line : List ℕ) : Type 0 where
  pub before : List ℕ
  pub after : List ℕ
  pub cut : line ≡ before ++ (codes " HTTP/" ++ after)

-- These bytes begin with a line that is a request of HTTP, and not too long.
pub record BeginHttp (bytes : List ℕ) : Type 0 where
  pub line : List ℕ
  pub more : List ℕ
  pub cut : bytes ≡ line ++ 10 ∷ more
  pub unfinished : IsUnfinished line
  pub request : IsRequest line

-- They begin with the byte of a handshake of TLS (RFC 8446, 5.1).
pub record BeginTls (bytes : List ℕ) : Type 0 where
  pub more : List ℕ
  pub cut : bytes ≡ 22 ∷ more

-- They begin as HTTP or TLS does. Of the first line no other matters.
abbrev pub AreOfAnotherProtocol : List ℕ → Type 0
AreOfAnotherProtocol bytes = BeginTls bytes ⊎ BeginHttp bytes
