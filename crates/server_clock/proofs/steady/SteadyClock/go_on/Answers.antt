use Rattle.server_clock.proofs.steady.SteadyClock.go_on.Goals as goal

pub returns-clause-goes : goal.returns-clause-goes
returns-clause-goes g c = (c.milliseconds_since.result, c.read.ensures.read)
