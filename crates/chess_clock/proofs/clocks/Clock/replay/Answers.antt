use Rattle.std.proofs.Common.{[], ◌∷◌, ap, sym, ◌∙◌, subst, arith}
use Rattle.chess_bits.specs.Man.{other}
use Rattle.chess_bits.proofs.ManLemmas.{other-other}
use Rattle.chess_clock.specs.declared.events.ClockEvent.TheVariants.{Turn, WrongClaim}
use Rattle.chess_clock.specs.ClockState.{clock_after, TimesFit}
use Rattle.chess_clock.proofs.ReplayLemmas.{IsAt, fits_after_this, replayed_this, turn_in_time, turn_ended_is}
use Rattle.chess_clock.proofs.clocks.Clock.replay.Goals as goal
use Rattle.chess_clock.proofs.clocks.Clock.replay.Goals.{in-Turn, in-WrongClaim}

pub finish_turn-requires-clause-in_time : goal.finish_turn-requires-clause-in_time
finish_turn-requires-clause-in_time c =
    let at : IsAt c.args.events.now c.loop-event.event-index (Turn c.in-Turn.field-0 c.in-Turn.length) =
    record { below = c.loop-event-test.true; here = c.in-Turn.is }
    in
    let in_time = turn_in_time c.loop-event.invariant at c.requires.in_time in
    omega arith

pub finish_turn-requires-clause-fits : goal.finish_turn-requires-clause-fits
finish_turn-requires-clause-fits c =
    let at : IsAt c.args.events.now c.loop-event.event-index (Turn c.in-Turn.field-0 c.in-Turn.length) =
    record { below = c.loop-event-test.true; here = c.in-Turn.is }
    in
    let ended = turn_ended_is c.loop-event.invariant at c.requires.in_time c.since.result c.since.ensures in
    subst (λ es. TimesFit (clock_after c.loop-event.self es)) (sym ended)
    (fits_after_this c.loop-event.invariant at c.requires.fits)

pub penalty-requires-clause-fits : goal.penalty-requires-clause-fits
penalty-requires-clause-fits c =
    let at : IsAt c.args.events.now c.loop-event.event-index (WrongClaim c.in-WrongClaim.claimant) =
    record { below = c.loop-event-test.true; here = c.in-WrongClaim.is }
    in
    let claimant = ap other c.other.ensures ∙ other-other c.in-WrongClaim.claimant in
    subst (λ s. TimesFit (clock_after c.loop-event.self (WrongClaim s ∷ []))) (sym claimant)
    (fits_after_this c.loop-event.invariant at c.requires.fits)

pub loop-event-preserved : goal.loop-event-preserved
loop-event-preserved c = elim c.match-event.branch [
  | in-Turn w ↦
      let at : IsAt c.args.events.now c.loop-event.event-index (Turn w.in-Turn.field-0 w.in-Turn.length) =
      record { below = c.loop-event-test.true; here = w.in-Turn.is }
      in
      let ended = turn_ended_is c.loop-event.invariant at c.requires.in_time w.since.result w.since.ensures in
      replayed_this c.loop-event.invariant at c.requires.in_time
      (w.self-is ∙ w.finish_turn.ensures ∙ ap (clock_after c.loop-event.self) ended)
  | in-WrongClaim w ↦
      let at : IsAt c.args.events.now c.loop-event.event-index (WrongClaim w.in-WrongClaim.claimant) =
      record { below = c.loop-event-test.true; here = w.in-WrongClaim.is }
      in
      let claimant = ap other w.other.ensures ∙ other-other w.in-WrongClaim.claimant in
      replayed_this c.loop-event.invariant at c.requires.in_time
      (w.self-is ∙ w.penalty.ensures ∙ ap (λ s. clock_after c.loop-event.self (WrongClaim s ∷ [])) claimant)
]
