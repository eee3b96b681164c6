use Rattle.chess_table.specs.Stored.{table_from}
use Rattle.chess_table.proofs.StandLemmas.{GoesOn}
use Rattle.chess_table.proofs.standing.may_stand.Given as goal

abbrev pub invariant-loop-game : goal.invariant-loop-game
invariant-loop-game l = GoesOn (table_from l.limits l.games l.meta) l.games l.before l.game-index
