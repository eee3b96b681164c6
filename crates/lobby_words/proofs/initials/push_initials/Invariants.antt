use Rattle.std.proofs.Common.{◌≡◌, ◌++◌, chars, IsUtf8}
use Rattle.std.specs.String.{string_bytes}
use Rattle.std.specs.Str.Iter.{chars_rest}
use Rattle.lobby_words.specs.Initials.{initials_from, initials}
use Rattle.lobby_words.proofs.initials.push_initials.Given as goal

abbrev pub invariant-loop-c : goal.invariant-loop-c
invariant-loop-c l =
    IsUtf8 (chars_rest l.c-iterator)
    × (string_bytes l.text ++ initials_from l.begins (chars (chars_rest l.c-iterator)) ≡ string_bytes l.fn.text ++ initials l.full_name)
