use Rattle.std.proofs.Common.{List, [], ◌∷◌, None, refl}
use Rattle.chess_bits.specs.declared.men.Colour.TheVariants.{White, Black}
use Rattle.chess_clock.specs.declared.events.ClockEvent.{ClockEvent}
use Rattle.chess_clock.specs.declared.events.ClockEvent.TheVariants.{Turn, WrongClaim}
use Rattle.chess_clock.specs.TimeControl.{time_control}
use Rattle.chess_clock.specs.ClockState.{ClockState, started}
use Rattle.chess_clock.proofs.Deciding.{TurnsEndInTime-from_test, TimesAlwaysFit-from_test}
use Rattle.test_rules.proofs.clock.a_clock_has_the_sums_of_a_game.Goals as goal

abbrev start : ClockState
start = started (time_control 300 2 None) White 1000

abbrev three_events : List ClockEvent
three_events = Turn White 4000 ∷ Turn Black 60000 ∷ WrongClaim White ∷ []

pub of_game-clock-requires-clause-in_time : goal.of_game-clock-requires-clause-in_time
of_game-clock-requires-clause-in_time g c = TurnsEndInTime-from_test start three_events refl

pub of_game-clock-requires-clause-fits : goal.of_game-clock-requires-clause-fits
of_game-clock-requires-clause-fits g c = TimesAlwaysFit-from_test start three_events refl
