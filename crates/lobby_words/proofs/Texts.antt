-- Bytes that may stand in a message are in UTF-8.
use Rattle.std.proofs.Common.{ℕ, ◌≡◌, ◌<◌, true, List, [], ◌∷◌, arith}
use Rattle.std.specs.List.{list_all}
use Rattle.std.specs.Str.{IsAscii, IsUtf8}
use Rattle.std.proofs.lemmas.Bool.{and_parts}
use Rattle.std.proofs.lemmas.Bool.Decides.{nat_tests}
use Rattle.std.proofs.lemmas.Str.{IsUtf8-from_ascii}
use Rattle.std.proofs.lemmas.Str.Ascii.{IsAscii-nil, IsAscii-cons}
use Rattle.lobby_words.specs.Words.{is_message_byte}

small : (b : ℕ) → is_message_byte b ≡ true → b < 128
small b h = grind (arith, nat_tests)

ascii : (bs : List ℕ) → list_all is_message_byte bs ≡ true → IsAscii bs
ascii [] h = IsAscii-nil
ascii (b ∷ bs) h =
    IsAscii-cons b bs (small b (and_parts (is_message_byte b) (list_all is_message_byte bs) h).0)
    (ascii bs (and_parts (is_message_byte b) (list_all is_message_byte bs) h).1)

pub message_utf8 : (bs : List ℕ) → list_all is_message_byte bs ≡ true → IsUtf8 bs
message_utf8 bs h = IsUtf8-from_ascii bs (ascii bs h)
