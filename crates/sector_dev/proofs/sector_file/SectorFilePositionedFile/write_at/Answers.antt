use Rattle.std.proofs.Common.{◌≡◌, ◌<◌, arith, rules, subst}
use Rattle.sector_dev.specs.Device.{MayBePending}
use Rattle.sector_dev.proofs.sector_file.SectorFilePositionedFile.write_at.Goals as goal

pub returns-in-Err-clause-call : goal.returns-in-Err-clause-call
returns-in-Err-clause-call g c =
    let before = g.D.Device.state c.args.self.now.device in
    let after = g.D.Device.state c.write.new.self in
    record {
      size = search rules;
      model = search rules;
      ok = search rules;
      err = λ model at within is.
          let same : c.in-Some.at ≡ at = omega (arith, is, c.in-Some.ensures.within.1) in
          subst (λ n. MayBePending n c.args.from.now before after) same (c.in-Err.ensures.err model);
      time = search rules;
    }

pub returns-in_default-clause-cause : goal.returns-in_default-clause-cause
returns-in_default-clause-cause g c = λ at within is.
    let lt : at < c.sectors.result = omega (arith, within, c.sectors.ensures) in
    absurd (c.in_default.not-Some at (c.sector_from.ensures.found at lt is))
