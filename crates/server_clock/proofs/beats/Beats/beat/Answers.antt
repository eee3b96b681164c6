use Rattle.std.proofs.Common.{arith}
use Rattle.server_clock.proofs.BeatLemmas.{within-by, after-by}
use Rattle.server_clock.proofs.beats.Beats.beat.Goals as goal

pub returns-in_err-put_beat-clause-any_moment : goal.returns-in_err-put_beat-clause-any_moment
returns-in_err-put_beat-clause-any_moment g c = λ rest tell.
    within-by g.D.Device.state g.D.Device.sector_count c.args.self.now.device c.put_beat.new.device c.args.self.now.last
    (g.met.D.Device.coherent c.args.self.now.device) c.args.self.now.sized c.args.moment c.args.system
    (omega (arith, c.in-Some.ensures.0, c.in-Some.ensures.1)) (omega (arith, c.ranges.moment.fits))
    (omega (arith, c.ranges.system.fits)) rest tell c.in-Some.number c.in-Some.ensures.0 c.put_beat.ensures.goes

pub returns-clause-any_moment : goal.returns-clause-any_moment
returns-clause-any_moment g c = λ rest tell.
    within-by g.D.Device.state g.D.Device.sector_count c.args.self.now.device c.put_beat.new.device c.args.self.now.last
    (g.met.D.Device.coherent c.args.self.now.device) c.args.self.now.sized c.args.moment c.args.system
    (omega (arith, c.in-Some.ensures.0, c.in-Some.ensures.1)) (omega (arith, c.ranges.moment.fits))
    (omega (arith, c.ranges.system.fits)) rest tell c.in-Some.number c.in-Some.ensures.0 c.put_beat.ensures.goes

pub returns-clause-lasts : goal.returns-clause-lasts
returns-clause-lasts g c = λ rest tell.
    after-by g.D.Device.state g.D.Device.sector_count c.args.self.now.device c.put_beat.new.device c.args.self.now.last
    (g.met.D.Device.coherent c.args.self.now.device) c.args.self.now.sized c.args.moment c.args.system
    (omega (arith, c.in-Some.ensures.0, c.in-Some.ensures.1)) (omega (arith, c.ranges.moment.fits))
    (omega (arith, c.ranges.system.fits)) rest tell c.in-Some.number c.in-Some.ensures.0 (c.put_beat.ensures.goes.model.1 rest.0)
    (c.in_ok-put_beat.ensures.settled rest.0)
