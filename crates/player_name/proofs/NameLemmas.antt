-- The text of a name is ASCII, and its padded form gives it back.
use Rattle.std.proofs.Common.{◌≡◌, ℕ, ◌-◌, ◌<◌, ◌≤◌, true, List, [], ◌∷◌, length, take, replicate, refl, arith}
use Rattle.std.specs.List.{list_all}
use Rattle.std.specs.Str.{IsAscii}
use Rattle.std.proofs.lemmas.Bool.{and_parts}
use Rattle.std.proofs.lemmas.Bool.Decides.{nat_tests}
use Rattle.std.proofs.lemmas.Str.Ascii.{IsAscii-nil, IsAscii-cons}
use Rattle.std.proofs.lemmas.List.{take_at, length-append, length-replicate}
use Rattle.player_name.specs.Name.{is_name_byte, padded}

below : (c : ℕ) → is_name_byte c ≡ true → c < 128
below c h = grind (arith, nat_tests)

pub IsAscii-name_bytes : (text : List ℕ) → list_all is_name_byte text ≡ true → IsAscii text
IsAscii-name_bytes [] h = IsAscii-nil
IsAscii-name_bytes (c ∷ text) h =
    let parts = and_parts (is_name_byte c) (list_all is_name_byte text) h in
    IsAscii-cons c text (below c parts.0) (IsAscii-name_bytes text parts.1)

pub take-padded : (text : List ℕ) → take (length text) (padded text) ≡ text
take-padded text = take_at text (replicate (16 - length text) 0) (length text) refl

pub length-padded : (text : List ℕ) → length text ≤ 16 → length (padded text) ≡ 16
length-padded text h = simp (length-append, length-replicate) (omega arith)
