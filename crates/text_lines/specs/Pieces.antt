-- What a read brought.
use Rattle.std.specs.Prelude.{ℕ, ◌<◌, ◌≤◌, List, [], Option, length, take}
use Rattle.std.specs.Io.KnownBytes.{Keeps, Consumes, IsAtEnd}
use Rattle.text_lines.specs.declared.pieces.Came.{Came}
use Rattle.text_lines.specs.declared.pieces.Came.TheVariants.{Nothing, Interrupted, Bytes, End, Fault}

-- What came of a reader's bytes, and stands at the front of the piece: nothing at its end, or where it has nothing for
-- now, or where a signal came first, or after a fault.
abbrev pub HasCome : Option (List ℕ) → Option (List ℕ) → List ℕ → Came → Type 0
HasCome old new piece Nothing = Keeps old new
HasCome old new piece Interrupted = Keeps old new
HasCome old new piece (Bytes count) = (0 < count) × (count ≤ length piece) × Consumes old new (take count piece)
HasCome old new piece End = Consumes old new [] × IsAtEnd new
HasCome old new piece Fault = Keeps old new
