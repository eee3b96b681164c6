use Rattle.std.proofs.Common.{◌≡◌, drop, None, option_map}
use Rattle.night_games.specs.Particulars.{texts_of}
use Rattle.night_games.specs.Called.{shared_from}
use Rattle.night_games.proofs.called.shared.Given as goal

abbrev pub invariant-loop-row : goal.invariant-loop-row
invariant-loop-row l =
    shared_from l.players l.value (option_map texts_of l.told) (drop l.row-index l.known)
    ≡ shared_from l.players l.value None l.known
