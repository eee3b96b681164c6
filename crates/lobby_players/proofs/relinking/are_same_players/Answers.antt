use Rattle.std.proofs.Common.{◌<◌, ◌&&◌, length, refl, arith}
use Rattle.lobby_players.proofs.Same.{pairs_more}
use Rattle.lobby_players.proofs.relinking.are_same_players.Goals as goal

pub loop-i-preserved : goal.loop-i-preserved
loop-i-preserved c =
    let below : c.loop-i.i < length c.args.some.now = omega (arith, c.loop-i-test.true) in
    let inside : c.loop-i.i < length c.args.others.now = omega (arith, c.loop-i-test.true, c.if-some-others.false) in
    pairs_more c.args.some.now c.args.others.now c.loop-i.i c.index-some-i.result c.index-others-i.result c.loop-i.same
    (c.loop-i.same && c.is_same_player-same.result) c.is_same_player-same.result below inside c.index-some-i.is c.index-others-i.is
    c.loop-i.invariant c.is_same_player-same.ensures refl
