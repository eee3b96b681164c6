-- What is counted of logins that are refused.
use Rattle.std.specs.Prelude.{ℕ, ◌≡◌, List}
use Rattle.std.specs.List.{AllZip, sum_by}
use Rattle.lobby_desk.specs.declared.telling.Message.{Message}
use Rattle.lobby_guests.specs.declared.guest.Guest.{Guest}
use Rattle.lobby_talk.specs.Counting.{counted_up, refusals_of}
use Rattle.lobby_talk.specs.declared.counts.Counts.{Counts}
use Rattle.lobby_talk.specs.declared.kept_answer.KeptAnswer.{KeptAnswer}
use Rattle.lobby_talk.specs.Keeping.{IsMadeOf}

-- how many of these messages refuse a login of one of these browsers
abbrev pub refusals_in : {S : Type 0} → List Message → List (Guest S) → ℕ
refusals_in made guests = sum_by (λ guest. refusals_of made guest.number) guests

-- Of the messages that go out so, each that refuses a login of a browser is counted once, and nothing else is.
pub record CountsLogins {S : Type 0} (kept : List KeptAnswer) (told : List Message) (guests : List (Guest S))
    (old new : ℕ) : Type 0 where
  pub made : List Message
  pub are_made : AllZip (IsMadeOf kept) told made
  pub counted : new ≡ counted_up old (refusals_in made guests)

-- Nothing is counted of logins, and it is the same moment.
pub record CountsNoLogin (old new : Counts) : Type 0 where
  pub at : new.at ≡ old.at
  pub logins : new.logins_refused ≡ old.logins_refused
