-- What is owed where no socket opens.
use Rattle.std.proofs.Common.{◌≡◌, ℕ, Option, None, Some, refl}
use Rattle.lobby_guests.specs.Guests.{owed_after}

pub owed_same : (number : Option ℕ) (until : ℕ) → owed_after number number until ≡ until
owed_same None until = refl
owed_same (Some c) until = refl
