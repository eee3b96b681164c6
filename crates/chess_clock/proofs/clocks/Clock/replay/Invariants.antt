use Rattle.chess_clock.proofs.ReplayLemmas.{HasReplayed}
use Rattle.chess_clock.proofs.clocks.Clock.replay.Given as goal

-- the clock is where the events so far have taken it
abbrev pub invariant-loop-event : goal.invariant-loop-event
invariant-loop-event l = HasReplayed l.initial.self l.self l.events l.event-index
