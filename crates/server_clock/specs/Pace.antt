-- How the moment of a server goes on.
use Rattle.std.specs.Prelude.{◌≡◌, ℕ, ◌+◌, ◌-◌, ◌^◌, min, max, true, false, if◌then◌else◌, refl}
use Rattle.server_clock.specs.declared.pace.Pace.{Pace}

-- what counts of the time between two readings: so much at most, and nothing where the clock went back
abbrev pub gone : (longest from to : ℕ) → ℕ
gone longest from to = min (to - from) longest

-- how far the moment goes on at a reading: while all clocks are stopped it stands still
abbrev pub ran : Pace → ℕ → ℕ
ran pace to = if pace.is_stopped then 0 else gone pace.longest pace.reading to

-- what a reading makes of a pace
abbrev pub read_at : Pace → ℕ → Pace
read_at pace to = record pace {
  moment = min (pace.moment + ran pace to) (2 ^ 64 - 1);
  reading = max pace.reading to;
}

-- at some reading this pace comes of that
abbrev pub GoesOn : Pace → Pace → Type 0
GoesOn old new = (reading : ℕ) × (new ≡ read_at old reading)

-- no time passes; all clocks may be stopped, or go on
abbrev pub IsHeld : Pace → Pace → Type 0
IsHeld old new = new ≡ record old { is_stopped = new.is_stopped }

-- for the examples: at the moment 1000 and the reading 50, where 10 of a gap count
abbrev at_1000 : Pace
at_1000 = record { moment = 1000; reading = 50; longest = 10; is_stopped = false }

-- so much later the moment is
goes_on : (read_at at_1000 57).moment ≡ 1007
goes_on = refl

-- a long gap counts in part, and its rest is not made up for
holds_back : (read_at (read_at at_1000 90) 91).moment ≡ 1011
holds_back = refl

-- a clock that goes back brings nothing, and nothing is counted twice
goes_back : (read_at (read_at (read_at at_1000 57) 52) 58).moment ≡ 1008
goes_back = refl

-- stopped it stands still, and what passed meanwhile is not made up for
stands_still : (read_at (record (read_at (record at_1000 { is_stopped = true }) 57) { is_stopped = false }) 58).moment
    ≡ 1001
stands_still = refl
