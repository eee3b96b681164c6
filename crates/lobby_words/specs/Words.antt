-- What the first word of a message says.
use Rattle.std.specs.Prelude.{ℕ, ◌^◌, Bool, true, false, ◌&&◌, ◌||◌, ◌==◌, not, nat_le, List, ◌++◌, length, codes}
use Rattle.std.specs.Prelude.{Option, None, Some, if◌then◌else◌}
use Rattle.std.specs.List.{before_first, after_first, list_all}
use Rattle.std.specs.Str.{bytes_eq}
use Rattle.text_parts.specs.Numbers.{number_below}
use Rattle.lobby_words.specs.declared.words.Call.TheVariants as calls
use Rattle.lobby_words.specs.declared.words.Sort.{Sort}
use Rattle.lobby_words.specs.declared.words.Sort.TheVariants as sorts

-- what stands before the first space, and what stands behind it; all of a text without one is its word
abbrev pub word_of : List ℕ → List ℕ
word_of text = before_first (λ b. b == 32) text

abbrev pub rest_of : List ℕ → List ℕ
rest_of text = after_first (λ b. b == 32) text

abbrev pub is_message_byte : ℕ → Bool
is_message_byte b = nat_le 32 b && nat_le b 126

-- 1 to 255 bytes, each of them 32 to 126
abbrev pub is_message : List ℕ → Bool
is_message text = nat_le 1 (length text) && nat_le (length text) 255 && list_all is_message_byte text

-- the words of the server's lines that ask about a game
unfoldable pub is_show_word : List ℕ → Bool
is_show_word w = bytes_eq w (codes "show") || bytes_eq w (codes "fen") || bytes_eq w (codes "pgn")

abbrev pub is_digit : ℕ → Bool
is_digit b = nat_le 48 b && nat_le b 57

-- one digit or more
abbrev pub are_digits : List ℕ → Bool
are_digits text = nat_le 1 (length text) && list_all is_digit text

-- A line of the server that changes nothing, as it is passed on: with a game's number and nothing more, or `list`
-- alone. So none can be taken for the first line of a request for a web page.
abbrev pub is_question : List ℕ → List ℕ → List ℕ → Bool
is_question word rest text =
    is_show_word word && are_digits rest || bytes_eq word (codes "list") && bytes_eq word text

unfoldable pub is_read : List ℕ → Bool
is_read text = is_question (word_of text) (rest_of text) text

-- the words of acts in a game that is played
unfoldable pub is_play_word : List ℕ → Bool
is_play_word w =
    bytes_eq w (codes "move") || bytes_eq w (codes "offer") || bytes_eq w (codes "accept")
    || bytes_eq w (codes "decline")
    || bytes_eq w (codes "resign") || bytes_eq w (codes "claim") || bytes_eq w (codes "flag")

-- the words of acts, but `drop`
unfoldable pub is_act_word : List ℕ → Bool
is_act_word w = bytes_eq w (codes "open") || bytes_eq w (codes "join") || is_play_word w

-- the name and the line of a message `as NAME LINE`
abbrev pub as_name : List ℕ → List ℕ
as_name text = word_of (rest_of text)

abbrev pub as_line : List ℕ → List ℕ
as_line text = rest_of (rest_of text)

-- the full name in a message `player NAME FULL NAME`, in which both stand as NAME and LINE do there; without one NAME
abbrev pub full_said : List ℕ → List ℕ
full_said text = if length (as_line text) == 0 then as_name text else as_line text

-- Of a message `pair WHITE BLACK TIMES`, in which WHITE stands where NAME does in `as NAME LINE`: whether its word is
-- this; the name of BLACK, and the times, which are all that stands behind it; and the line that opens its game, under
-- WHITE.
abbrev pub is_pair : List ℕ → Bool
is_pair text = bytes_eq (word_of text) (codes "pair")

abbrev pub black_name : List ℕ → List ℕ
black_name text = word_of (as_line text)

abbrev pub pair_times : List ℕ → List ℕ
pair_times text = rest_of (as_line text)

abbrev pub pair_line : List ℕ → List ℕ
pair_line text = codes "open white " ++ pair_times text

-- what a message asks for whose word is `pair`: two players, and times with which that line has no more than 255 bytes
abbrev pub pair_sort : List ℕ → Sort
pair_sort text =
    if not (bytes_eq (as_name text) (black_name text)) && nat_le 1 (length (pair_times text))
    && nat_le (length (pair_times text)) 244
    then sorts.Pair else sorts.Nothing

-- what a message asks for whose word is `as`: LINE is an act, but `drop`
abbrev pub as_sort : List ℕ → Sort
as_sort text = if is_act_word (word_of (as_line text)) then sorts.As else sorts.Nothing

-- The line of the server that a message is, and the name under which it acts: of `as NAME LINE` these two, else the
-- message itself and the name of its player.
abbrev pub is_as_word : List ℕ → Bool
is_as_word w = bytes_eq w (codes "as")

abbrev pub line_said : List ℕ → List ℕ
line_said text = if is_as_word (word_of text) then as_line text else text

abbrev pub actor : List ℕ → List ℕ → List ℕ
actor by text = if is_as_word (word_of text) then as_name text else by

-- What an arbiter has everybody told: `stop clocks REASON`, where REASON has one byte at least and stands where LINE
-- does in `as NAME LINE`; `start clocks`; `announce TEXT`, or `announce` alone; and `decide ROUND BOARD RESULT ARTICLE
-- REASON`, where RESULT stands where TIMES do in `pair WHITE BLACK TIMES`, and REASON has one byte at least.
abbrev pub is_stop : List ℕ → Bool
is_stop text =
    bytes_eq (word_of text) (codes "stop") && bytes_eq (as_name text) (codes "clocks")
    && nat_le 1 (length (as_line text))

abbrev pub is_decision : List ℕ → Bool
is_decision text = bytes_eq (word_of text) (codes "decide")

abbrev pub call_sort : List ℕ → Sort
call_sort text =
    if is_stop text then sorts.Call calls.StopClocks
    else (if bytes_eq text (codes "start clocks") then sorts.Call calls.StartClocks
    else (if bytes_eq (word_of text) (codes "announce") then sorts.Call calls.Announce
    else (if is_decision text && nat_le 1 (length (as_line (pair_times text))) then sorts.Call calls.Decide
    else sorts.Nothing)))

-- whether a message is of the clocks, by its word
abbrev pub is_of_clocks : List ℕ → Bool
is_of_clocks text = bytes_eq (word_of text) (codes "stop") || bytes_eq (word_of text) (codes "start")

abbrev pub whole_sort : List ℕ → Sort
whole_sort text =
    if bytes_eq text (codes "players") then sorts.Players
    else (if bytes_eq text (codes "who") then sorts.Who
    else (if bytes_eq text (codes "offers") then sorts.Offers
    else (if bytes_eq text (codes "pause entries") then sorts.Pause
    else (if bytes_eq text (codes "resume entries") then sorts.Resume
    else (if bytes_eq text (codes "lobby") then sorts.Lobby
    else (if bytes_eq text (codes "leave lobby") then sorts.LeaveLobby
    else call_sort text))))))

abbrev pub arbiter_sort : List ℕ → List ℕ → Sort
arbiter_sort w text =
    if bytes_eq w (codes "link") then sorts.Link
    else (if bytes_eq w (codes "close") then sorts.Close
    else (if bytes_eq w (codes "pair") then pair_sort text
    else (if bytes_eq w (codes "player") then sorts.Player
    else (if bytes_eq w (codes "unpair") then sorts.Unpair
    else whole_sort text))))

abbrev pub own_sort : List ℕ → List ℕ → Sort
own_sort w text =
    if bytes_eq w (codes "login") then sorts.Login
    else (if bytes_eq w (codes "watch") then sorts.Watch
    else (if bytes_eq w (codes "line") then sorts.Line
    else (if bytes_eq w (codes "room") then sorts.Room
    else (if bytes_eq w (codes "moves") then sorts.Moves
    else (if bytes_eq w (codes "leave") && not (bytes_eq text (codes "leave lobby")) then sorts.Leave
    else arbiter_sort w text)))))

-- what a message asks for
unfoldable pub sort_of : List ℕ → Sort
sort_of text =
    if bytes_eq (word_of text) (codes "name") then sorts.Name
    else (if is_read text then sorts.Read
    else (if is_act_word (word_of text) then sorts.Act
    else (if bytes_eq (word_of text) (codes "drop") then sorts.Drop
    else (if bytes_eq (word_of text) (codes "as") then as_sort text
    else own_sort (word_of text) text))))

-- the lines of the server that change something, `drop` and the others
abbrev pub is_act_sort : Sort → Bool
is_act_sort sorts.Act = true
is_act_sort sorts.Drop = true
is_act_sort _ = false

abbrev pub is_drop_sort : Sort → Bool
is_drop_sort sorts.Drop = true
is_drop_sort _ = false

abbrev pub is_as_sort : Sort → Bool
is_as_sort sorts.As = true
is_as_sort _ = false

abbrev pub is_pair_sort : Sort → Bool
is_pair_sort sorts.Pair = true
is_pair_sort _ = false

abbrev pub is_unpair_sort : Sort → Bool
is_unpair_sort sorts.Unpair = true
is_unpair_sort _ = false

abbrev pub is_name_sort : Sort → Bool
is_name_sort sorts.Name = true
is_name_sort _ = false

abbrev pub is_login_sort : Sort → Bool
is_login_sort sorts.Login = true
is_login_sort _ = false

-- the players' file is changed: a player's link is another, or closed, or there is a player more
abbrev pub is_link_sort : Sort → Bool
is_link_sort sorts.Link = true
is_link_sort sorts.Close = true
is_link_sort sorts.Player = true
is_link_sort _ = false

abbrev pub is_player_sort : Sort → Bool
is_player_sort sorts.Player = true
is_player_sort _ = false

abbrev pub is_close_sort : Sort → Bool
is_close_sort sorts.Close = true
is_close_sort _ = false

-- an arbiter decides
abbrev pub is_decide_sort : Sort → Bool
is_decide_sort (sorts.Call calls.Decide) = true
is_decide_sort _ = false

abbrev pub is_leave_sort : Sort → Bool
is_leave_sort sorts.Leave = true
is_leave_sort _ = false

abbrev pub is_leave_lobby_sort : Sort → Bool
is_leave_lobby_sort sorts.LeaveLobby = true
is_leave_lobby_sort _ = false

-- the number below 2 ^ 32 that a text spells without a leading zero, and nothing else
unfoldable pub u32_in : List ℕ → Option ℕ
u32_in text = number_below (2 ^ 32) text

abbrev pub or_0 : Option ℕ → ℕ
or_0 None = 0
or_0 (Some n) = n

abbrev pub number_or_0 : List ℕ → ℕ
number_or_0 text = or_0 (u32_in text)
