use Rattle.server_words.specs.Games.{WritesGames}
use Rattle.server_words.proofs.reading.write_games.Given as goal

abbrev pub invariant-loop-place : goal.invariant-loop-place
invariant-loop-place g l =
    let contents = g.W.Write.contents in
    WritesGames (contents l.fn.output) (contents l.output) l.table.games l.place
