-- What stands in front of what came of a browser's socket.
use Rattle.std.specs.Prelude.{ℕ, Bool, List, [], ◌∷◌, ◌==◌, ◌&&◌, ◌||◌, ◌+◌, if◌then◌else◌, nat_le, eqb, codes, bit_xor}
use Rattle.std.specs.Prelude.{length, slice_index, not, Some}
use Rattle.std.specs.List.{starts_with, list_any}
use Rattle.std.specs.Str.{bytes_eq}
use Rattle.lobby_words.specs.Words.{word_of, is_act_word, is_as_word}
use Rattle.websocket.specs.declared.protocol.frame.coding.OpCode.TheVariants.{Data}
use Rattle.websocket.specs.declared.protocol.frame.coding.Data.TheVariants.{Text}
use Rattle.websocket.specs.Connection.{whole_header}
use Rattle.websocket.specs.Frame.{encode_frame}

abbrev pub begins : List ℕ → List ℕ → Bool
begins text word = starts_with eqb text word

-- Whether a text is an act, a pairing or a login, by how it begins; or `offers` or `unpair`, whose answers are short.
unfoldable pub is_act : List ℕ → Bool
is_act text =
    begins text (codes "move ") || begins text (codes "offer") || begins text (codes "accep")
    || begins text (codes "decli") || begins text (codes "resig") || begins text (codes "claim")
    || begins text (codes "flag ") || begins text (codes "open ") || begins text (codes "join ")
    || begins text (codes "drop ") || begins text (codes "login") || begins text (codes "pair ")
    || begins text (codes "as ") || begins text (codes "unpai")

-- the first words of acts, of a pairing, of what is offered, and of a login
abbrev pub is_hasty_word : List ℕ → Bool
is_hasty_word w =
    is_act_word w || bytes_eq w (codes "drop") || is_as_word w || bytes_eq w (codes "pair")
    || bytes_eq w (codes "login") || bytes_eq w (codes "offers") || bytes_eq w (codes "unpair")

-- The other words of messages: of those that ask for little, and of all others, which may ask for much.
abbrev pub brief_words : List (List ℕ)
brief_words =
    codes "watch" ∷ codes "leave" ∷ codes "show" ∷ codes "fen" ∷ codes "room" ∷ codes "moves" ∷ []

abbrev pub long_words : List (List ℕ)
long_words =
    codes "pgn" ∷ codes "list" ∷ codes "line" ∷ codes "lobby" ∷ codes "players" ∷ codes "who" ∷ codes "pause"
    ∷ codes "resume" ∷ codes "stop" ∷ codes "start" ∷ codes "announce" ∷ codes "decide" ∷ codes "link"
    ∷ codes "close" ∷ codes "player" ∷ []

-- the first word of a text is one of these
abbrev pub has_word : List (List ℕ) → List ℕ → Bool
has_word words text = list_any (λ w. bytes_eq (word_of text) w) words

-- Whether it asks for little: how one game stands, or that no more is told.
unfoldable pub is_brief : List ℕ → Bool
is_brief text =
    begins text (codes "watch") || begins text (codes "leave") || begins text (codes "show ")
    || begins text (codes "fen ") || begins text (codes "room ") || begins text (codes "moves")

-- Whether a frame that begins so is a whole text message of at most 125 bytes, and masked (RFC 6455, 5.2).
abbrev pub is_short_text : ℕ → ℕ → Bool
is_short_text first second = first == 129 && (nat_le 128 second && nat_le second 253)

-- the frame of a text message that is whole, under this mask
abbrev pub text_frame : List ℕ → List ℕ → List ℕ
text_frame key text = encode_frame (whole_header (Data Text) (Some key)) text

-- a letter of the text at this place, under the byte of the mask at that one
abbrev pub letter_at : List ℕ → ℕ → ℕ → ℕ
letter_at bytes place mask = bit_xor (slice_index bytes place) (slice_index bytes mask)

-- Whether bytes begin with such a frame, of which the head has two bytes and the mask four, and with five of its text.
abbrev pub has_letters : List ℕ → Bool
has_letters bytes = nat_le 11 (length bytes) && is_short_text (slice_index bytes 0) (slice_index bytes 1)

-- The first five letters of the text in the first frame of these bytes; zeros where that is no such frame.
unfoldable pub letters : List ℕ → List ℕ
letters bytes =
    if has_letters bytes
    then letter_at bytes 6 2 ∷ letter_at bytes 7 3 ∷ letter_at bytes 8 4 ∷ letter_at bytes 9 5
    ∷ letter_at bytes 10 2 ∷ []
    else 0 ∷ 0 ∷ 0 ∷ 0 ∷ 0 ∷ []

-- Whether it asks what is offered, and is no offer of a draw: its text has six letters or more (134 is 128 and 6), and
-- begins with `offers`.
abbrev pub asks_offers : List ℕ → Bool
asks_offers unread =
    nat_le 12 (length unread) && (nat_le 134 (slice_index unread 1)
    && (begins (letters unread) (codes "offer") && letter_at unread 11 3 == 115))

-- whether the first frame is a message that begins as an act does, or as what asks for little
abbrev pub has_act : List ℕ → Bool
has_act unread = is_act (letters unread) && not (asks_offers unread)

abbrev pub has_brief : List ℕ → Bool
has_brief unread = is_brief (letters unread) || asks_offers unread

-- whether it is no whole text message of at most 125 bytes, so that how it begins is not seen
abbrev pub is_hidden : List ℕ → Bool
is_hidden unread = nat_le 2 (length unread) && not (is_short_text (slice_index unread 0) (slice_index unread 1))

-- Whether the frame of such a text is there to its end: a head of two bytes, a mask of four, and the text, of so many
-- bytes as the second byte has beyond 128.
abbrev pub is_whole : List ℕ → Bool
is_whole unread = nat_le 2 (length unread) && nat_le (slice_index unread 1) (length unread + 122)

-- whether an act may stand in front, whole
abbrev pub may_be_act : List ℕ → Bool
may_be_act unread = (has_act unread && is_whole unread) || is_hidden unread
