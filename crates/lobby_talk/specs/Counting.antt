-- What is counted of logins that are refused.
use Rattle.std.specs.Prelude.{ℕ, ◌==◌, ◌+◌, ◌-◌, ◌^◌, ◌&&◌, ◌||◌, Bool, true, false, List, Option, None, Some, max, min}
use Rattle.std.specs.Prelude.{codes, count_by}
use Rattle.std.specs.List.{starts_with}
use Rattle.std.specs.String.{string_bytes}
use Rattle.lobby_desk.specs.declared.telling.Message.{Message}
use Rattle.lobby_desk.specs.Who.{at_table}

-- whether an answer refuses a login
abbrev pub refuses_login : List ℕ → Bool
refuses_login text = starts_with (λ a b. a == b) text (codes "no 32 ")

-- whether a text answers a message, and is no notice: by the word in front
abbrev pub begins_with : List ℕ → List ℕ → Bool
begins_with word text = starts_with (λ a b. a == b) text word

abbrev pub is_answer : List ℕ → Bool
is_answer text =
    begins_with (codes "ok ") text || begins_with (codes "no ") text || begins_with (codes "fallen ") text
    || begins_with (codes "lost\n") text

-- whether a message is for a connection
abbrev pub is_for : Option ℕ → List ℕ → Bool
is_for None to = false
is_for (Some c) to = at_table to c

abbrev pub one_if : Bool → ℕ
one_if true = 1
one_if false = 0

-- so many more, up to 2^64 - 1
abbrev pub counted_up : ℕ → ℕ → ℕ
counted_up n more = max n (min (n + more) (2 ^ 64 - 1))

-- whether a message is for a connection and refuses a login of it
abbrev pub refuses : Option ℕ → Message → Bool
refuses number one = is_for number one.to.items && refuses_login (string_bytes one.text)

-- how many of these do, of one connection
abbrev pub refusals_of : List Message → Option ℕ → ℕ
refusals_of made number = count_by (refuses number) made
