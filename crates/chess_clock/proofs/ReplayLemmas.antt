-- One step of a clock that goes through a list of events.
use Rattle.std.proofs.Common.{ℕ, suc, ◌≡◌, ◌+◌, ◌-◌, ◌<◌, List, [], ◌∷◌, ◌++◌, length, get_or, take, drop, sym, ap, ◌∙◌, subst, arith, append_assoc}
use Rattle.std.proofs.lemmas.List.{take_more}
use Rattle.std.proofs.Math.Seq.{split_at}
use Rattle.chess_bits.specs.declared.men.Colour.{Colour}
use Rattle.chess_bits.specs.declared.men.Colour.TheVariants.{White}
use Rattle.chess_clock.specs.declared.events.ClockEvent.{ClockEvent}
use Rattle.chess_clock.specs.declared.events.ClockEvent.TheVariants.{Turn}
use Rattle.chess_clock.specs.ClockState.{ClockState, clock_after, time_of, turn_ended, TimesFit}
use Rattle.chess_clock.specs.Replay.{EndsInTime, IsWithinTime, TurnsEndInTime, TimesAlwaysFit}
use Rattle.chess_clock.proofs.AfterLemmas.{clock_after-append}
use Rattle.chess_clock.proofs.InTime.{IsWithinTime-push, may_come_at}

-- A clock has gone through the events before this place, and neither side has used more than it had.
pub record HasReplayed (start clock : ClockState) (events : List ClockEvent) (i : ℕ) : Type 0 where
  pub clock_is : clock ≡ clock_after start (take i events)
  pub within : IsWithinTime start (take i events)

-- the event at a place of a list
pub record IsAt (events : List ClockEvent) (i : ℕ) (event : ClockEvent) : Type 0 where
  pub below : i < length events
  pub here : get_or events i (Turn White 0) ≡ event

module _ {events : List ClockEvent} {i : ℕ} {event : ClockEvent} (at : IsAt events i event) where
  take_this : take (i + 1) events ≡ take i events ++ event ∷ []
  take_this = take_more events i (Turn White 0) at.below ∙ ap (λ e. take i events ++ e ∷ []) at.here

  split_this : events ≡ take i events ++ event ∷ drop (suc i) events
  split_this =
      split_at events i (Turn White 0) at.below ∙ ap (λ e. take i events ++ e ∷ drop (suc i) events) at.here

  split_after : events ≡ take (i + 1) events ++ drop (suc i) events
  split_after =
      split_this
      ∙ sym (append_assoc (take i events) (event ∷ []) (drop (suc i) events))
      ∙ ap (λ es. es ++ drop (suc i) events) (sym take_this)

module _ {start clock : ClockState} {events : List ClockEvent} {i : ℕ} (so_far : HasReplayed start clock events i) where
  -- what the event does is what the sums say
  pub after_this : {event : ClockEvent} → IsAt events i event → clock_after clock (event ∷ []) ≡ clock_after start (take (i + 1) events)
  after_this {event} at =
      ap (λ c. clock_after c (event ∷ [])) so_far.clock_is
      ∙ clock_after-append start (take i events) (event ∷ []) so_far.within
      ∙ ap (clock_after start) (sym (take_this at))

  pub fits_after_this : {event : ClockEvent} → IsAt events i event
      → TimesAlwaysFit start events → TimesFit (clock_after clock (event ∷ []))
  fits_after_this at fits =
      subst TimesFit (sym (after_this at)) (fits (take (i + 1) events) (drop (suc i) events) (split_after at))

  pub within_this : {event : ClockEvent} → IsAt events i event
      → TurnsEndInTime start events → IsWithinTime start (take (i + 1) events)
  within_this {event} at in_time =
      let split = subst (TurnsEndInTime start) (split_this at) in_time in
      let may_come = may_come_at start (take i events) event (drop (suc i) events) split in
      subst (IsWithinTime start) (sym (take_this at))
      (IsWithinTime-push start (take i events) event so_far.within may_come)

  pub replayed_this : {event : ClockEvent} {new : ClockState} → IsAt events i event → TurnsEndInTime start events
      → new ≡ clock_after clock (event ∷ []) → HasReplayed start new events (i + 1)
  replayed_this at in_time new_is =
      record { clock_is = new_is ∙ after_this at; within = within_this at in_time }

  -- a turn is of the side on move, and ends before its flag falls
  module _ {side : Colour} {ms : ℕ} (at : IsAt events i (Turn side ms)) (in_time : TurnsEndInTime start events) where
    ends_in_time : EndsInTime clock side ms
    ends_in_time =
        subst (λ (c : ClockState). EndsInTime c side ms) (sym so_far.clock_is)
        (in_time (take i events) side ms (drop (suc i) events) (split_this at))

    pub turn_in_time : ms < (time_of clock.side clock).held
    turn_in_time =
        subst (λ (s : Colour). ms < (time_of s clock).held) ends_in_time.on_move ends_in_time.in_time

    pub turn_ended_is : (at : ℕ) → at ≡ clock.since → turn_ended clock (at + ms) ≡ Turn side ms ∷ []
    turn_ended_is at is_since =
        let same : at + ms - clock.since ≡ ms = omega arith in
        ap (λ s. Turn s (at + ms - clock.since) ∷ []) (sym ends_in_time.on_move) ∙ ap (λ n. Turn side n ∷ []) same
