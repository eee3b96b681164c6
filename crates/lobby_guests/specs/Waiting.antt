-- What waits for a browser.
use Rattle.std.specs.Prelude.{ℕ, ◌≡◌, nat_lt, if◌then◌else◌, Bool, true, false, not, List, [], ◌∷◌, Option, None, Some}
use Rattle.std.specs.String.{string_bytes}
use Rattle.lobby_desk.specs.declared.telling.Kind.{Kind}
use Rattle.lobby_desk.specs.declared.telling.Kind.TheVariants.{Whole, Position, Line, Moves, Log}
use Rattle.lobby_desk.specs.declared.telling.Message.{Message}
use Rattle.lobby_talk.specs.Making.{IsOfLine}
use Rattle.lobby_guests.specs.declared.waiting.Waiting.{Waiting}

-- whether a message of this kind is told by an answer that is not there yet
abbrev pub is_line : Kind → Bool
is_line Whole = false
is_line Position = false
is_line Moves = false
is_line Line = true
is_line Log = false

-- it is this message, and waits from this moment on
pub record IsCopyOf (at : ℕ) (made : Message) (one : Waiting) : Type 0 where
  pub since : one.since ≡ at
  pub kind : one.kind ≡ made.kind
  pub text : string_bytes one.text ≡ string_bytes made.text

-- Whether a message of this kind waits, behind these: where something does, or its answer is not there yet.
abbrev pub must_wait : List Waiting → Kind → Bool
must_wait [] kind = is_line kind
must_wait (one ∷ ones) kind = true

-- the text by which what waits is told: the answer to `line G`, and else the text that it has
abbrev pub IsToldBy : Bool → List ℕ → List ℕ → Type 0
IsToldBy true text told = ∥ IsOfLine text told ∥₁
IsToldBy false text told = told ≡ text

-- Nothing waits but behind an answer that is not there yet.
abbrev pub AtLine : List Waiting → Type 0
AtLine [] = Unit {0}
AtLine (one ∷ ones) = is_line one.kind ≡ true

-- whether the first that waits is whole
abbrev pub has_whole : List Waiting → Bool
has_whole [] = false
has_whole (one ∷ ones) = not (is_line one.kind)

-- the first that waits
abbrev pub wanted : List Waiting → Option Waiting
wanted [] = None
wanted (one ∷ ones) = Some one

-- the one of two that waits longer, where there are any; of two that wait as long the first
abbrev pub first_of : Option Waiting → Option Waiting → Option Waiting
first_of None b = b
first_of (Some a) None = Some a
first_of (Some a) (Some b) = Some (if nat_lt b.since a.since then b else a)
