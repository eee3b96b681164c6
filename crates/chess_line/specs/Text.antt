-- What a text shows.
use Rattle.std.specs.Prelude.{[]}
use Rattle.arrayvec.specs.ArrayString.{ArrayString}

-- the text without the room that it leaves unused, which says nothing
abbrev pub shown : ArrayString → ArrayString
shown text = record { bytes = text.bytes; spare = [] }
