-- How a file stands, as bytes.
use Rattle.std.specs.Prelude.{ℕ, List, ◌++◌}
use Rattle.std.specs.Int.{w64, to_be_bytes, cast_unsigned}
use Rattle.lobby_serving.specs.declared.mark.Mark.{Mark}

-- its four numbers, each as eight bytes
abbrev pub mark_bytes : Mark → List ℕ
mark_bytes mark =
    to_be_bytes w64 mark.node ++ to_be_bytes w64 mark.size ++ to_be_bytes w64 (cast_unsigned w64 mark.seconds)
    ++ to_be_bytes w64 (cast_unsigned w64 mark.nanoseconds)
