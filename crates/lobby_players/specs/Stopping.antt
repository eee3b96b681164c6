-- Why all clocks are stopped, as a file tells it.
use Rattle.std.specs.Prelude.{ℕ, ◌≡◌, ◌≢◌, ◌==◌, ◌&&◌, ◌⊎◌, nat_le, Bool, true, List, [], length, codes}
use Rattle.std.specs.Prelude.{Option, None, Some, String, if◌then◌else◌}
use Rattle.std.specs.Global.{Global}
use Rattle.std.specs.List.{list_all, before_first}
use Rattle.std.specs.Str.{is_utf8}
use Rattle.std.specs.String.{string_bytes}
use Rattle.lobby_words.specs.Words.{is_message_byte}

-- bytes, where they are a text
abbrev pub text_in : List ℕ → List ℕ
text_in bytes = if is_utf8 bytes then bytes else []

-- It can be told for what clocks are stopped: it has a byte, no more than an arbiter says behind `stop clocks `, and
-- each of them may stand in a message.
abbrev pub is_reason : List ℕ → Bool
is_reason line = nat_le 1 (length line) && nat_le (length line) 243 && list_all is_message_byte line

abbrev pub told_as : List ℕ → List ℕ
told_as line = if is_reason line then line else codes "no reason is given"

-- the first line of a file, where that can be told
abbrev pub reason_in : List ℕ → List ℕ
reason_in bytes = told_as (before_first (λ b. b == 10) (text_in bytes))

-- the reason by a file that is there or not
abbrev pub reason_of : Bool → List ℕ → List ℕ
reason_of is_there bytes = if is_there then reason_in bytes else []

-- Clocks run, or what they are stopped for can be told.
abbrev pub MayStand : List ℕ → Type 0
MayStand reason = (reason ≡ []) ⊎ (is_reason reason ≡ true)

-- What a look finds, with the reason that was kept before and the one that is from then on: nothing, and it stays; or
-- another, which is kept.
abbrev pub IsFound : List ℕ → Option (String Global) → List ℕ → Type 0
IsFound before None after = after ≡ before
IsFound before (Some reason) after = (string_bytes reason ≡ after) × (after ≢ before) × MayStand after
