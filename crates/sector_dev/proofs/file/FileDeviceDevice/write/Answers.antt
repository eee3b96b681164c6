use Rattle.std.proofs.Common.{arith, rules}
use Rattle.sector_dev.proofs.file.FileDeviceDevice.write.Goals as goal

pub returns-in-Ok-clause-call : goal.returns-in-Ok-clause-call
returns-in-Ok-clause-call g c = record {
  sectors = search rules;
  model = search rules;
  ok = λ model.
      c.in-Ok.ensures.ok model c.args.at (omega (arith, c.requires, c.args.self.now.sized model)) c.offset_of.ensures;
  err = search rules;
  time = λ model.
      c.in-Ok.ensures.time model c.args.at (omega (arith, c.requires, c.args.self.now.sized model)) c.offset_of.ensures;
  cause = search rules;
  calls_left = search rules;
}

pub returns-in-Err-clause-call : goal.returns-in-Err-clause-call
returns-in-Err-clause-call g c = record {
  sectors = search rules;
  model = search rules;
  ok = search rules;
  err = λ model.
      c.in-Err.ensures.err model c.args.at (omega (arith, c.requires, c.args.self.now.sized model)) c.offset_of.ensures;
  time = λ model.
      c.in-Err.ensures.time model c.args.at (omega (arith, c.requires, c.args.self.now.sized model)) c.offset_of.ensures;
  cause = search rules;
  calls_left = search rules;
}
