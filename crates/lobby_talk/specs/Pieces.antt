-- What one write takes.
use Rattle.std.specs.Prelude.{ℕ, ◌≤◌, List, [], Option, length, take}
use Rattle.std.specs.Io.KnownBytes.{Keeps, Appends}
use Rattle.lobby_talk.specs.declared.pieces.Gone.{Gone}
use Rattle.lobby_talk.specs.declared.pieces.Gone.TheVariants.{Nothing, Interrupted, Bytes, Fault}

-- So many bytes are written at once at most.
abbrev pub piece_most : ℕ
piece_most = 16384

-- what a write did to the bytes that a writer holds: it took a front of these
abbrev pub HasGone : Option (List ℕ) → Option (List ℕ) → List ℕ → Gone → Type 0
HasGone old new bytes (Bytes count) =
    (count ≤ length bytes) × (count ≤ piece_most) × Appends old new (take count bytes)
HasGone old new bytes Nothing = Keeps old new
HasGone old new bytes Interrupted = Keeps old new
HasGone old new bytes Fault = Appends old new []
