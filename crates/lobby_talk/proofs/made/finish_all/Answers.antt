-- One message more.
use Rattle.std.proofs.Common.{arith}
use Rattle.lobby_talk.specs.Keeping.{IsMadeOf}
use Rattle.lobby_talk.proofs.Each.{zipped_none, zipped_further, zipped_vec}
use Rattle.lobby_talk.proofs.made.finish_all.Goals as goal

pub loop-one-init : goal.loop-one-init
loop-one-init c =
    zipped_none (IsMadeOf c.args.kept.now.answers.items) c.args.told.now.items c.deref_mut-one-items.result.now c.deref_mut-one-items.ensures.value

pub loop-one-preserved : goal.loop-one-preserved
loop-one-preserved c =
    zipped_further (IsMadeOf c.args.kept.now.answers.items) c.args.told.now.items c.loop-one.one-items c.loop-one.one-index c.one-item.result c.finish.new.one
    (omega (arith, c.loop-one-test.true, c.loop-one.auto.one-items)) c.loop-one.invariant c.in_ok-finish.ensures

pub returns : goal.returns
returns c =
    zipped_vec (IsMadeOf c.args.kept.now.answers.items) c.args.told.now c.loop-one.one-items c.loop-one.one-index
    (omega (arith, c.loop-one-test.false, c.loop-one.auto.one-items)) c.loop-one.invariant
