use Rattle.std.proofs.Common.{◌<◌, arith}
use Rattle.sector_dev.proofs.sector_file.SectorFilePositionedFile.read_at.Goals as goal

pub returns-in_default-clause-cause : goal.returns-in_default-clause-cause
returns-in_default-clause-cause g c = λ model at within is.
    let lt : at < c.sectors.result = omega (arith, within, c.sectors.ensures) in
    absurd (c.in_default.not-Some at (c.sector_from.ensures.found at lt is))
