-- The first moment of a server's life, and for how long the clocks stood still before it.
use Rattle.std.specs.Prelude.{◌≡◌, ℕ, ◌+◌, ◌-◌, max, Option, Some, None, refl}
use Rattle.server_clock.specs.declared.slots.Beat.{Beat}

-- the later of the last entry's moment and the last beat's; the system's clock where there is neither
abbrev pub first_moment : ℕ → Option ℕ → Option Beat → ℕ
first_moment system None None = system
first_moment system (Some entry) None = entry
first_moment system None (Some beat) = beat.moment
first_moment system (Some entry) (Some beat) = max entry beat.moment

-- a life begins at this moment, whatever the system's clock is where there is an entry or a beat
abbrev pub BeginsAt : Option ℕ → Option Beat → ℕ → Type 0
BeginsAt entry last moment = (system : ℕ) × (moment ≡ first_moment system entry last)

-- By the system's clock: how long ago the first moment was. At the last beat both clocks were read, and from there on
-- they ran alike; without one the moments were those of the system's clock.
abbrev pub stood_still : ℕ → ℕ → Option Beat → ℕ
stood_still system first None = system - first
stood_still system first (Some beat) = system - (beat.system + (first - beat.moment))

-- for the examples: a beat at the moment 500 when the system's clock had 2500
abbrev beat_500 : Beat
beat_500 = record { number = 7; moment = 500; system = 2500 }

-- an hour later, whether an entry came before the beat or behind it
beat_is_later : first_moment 3602500 (Some 400) (Some beat_500) ≡ 500
beat_is_later = refl

entry_is_later : first_moment 3602500 (Some 800) (Some beat_500) ≡ 800
entry_is_later = refl

an_hour : stood_still 3602500 500 (Some beat_500) ≡ 3600000
an_hour = refl

less_what_ran : stood_still 3602500 800 (Some beat_500) ≡ 3599700
less_what_ran = refl

-- a system's clock that was set back tells nothing, and changes no moment
set_back : stood_still 2400 500 (Some beat_500) ≡ 0
set_back = refl
