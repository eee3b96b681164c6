use Rattle.std.proofs.Common.{sym}
use Rattle.server_words.proofs.GameLemmas.{games_on}
use Rattle.server_words.proofs.reading.write_games.Goals as goal

pub loop-place-preserved : goal.loop-place-preserved
loop-place-preserved g c =
    let contents = g.W.Write.contents in
    games_on (contents c.args.output.now) (contents c.loop-place.output) (contents c.write_game.new.output)
    c.args.table.now.games c.loop-place.place c.in-Some.game.now c.loop-place.invariant (sym c.in-Some.ensures.game)
    c.in_ok-write_game-in-Some.ensures.written
