use Rattle.std.proofs.Common.{[]}
use Rattle.sector_dev.proofs.Settled.{more_redone}
use Rattle.sector_dev.specs.declared.memory.Call.TheVariants.{Written}
use Rattle.sector_dev.proofs.memory.redo.Goals as goal

pub loop-call-preserved : goal.loop-call-preserved
loop-call-preserved c =
    more_redone c.args.sectors.now c.loop-call.sectors c.redo_one.new.sectors c.args.calls.now c.loop-call.call-index
    (Written 0 [])
    c.loop-call-test.true c.loop-call.invariant c.redo_one.ensures
