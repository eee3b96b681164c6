use Rattle.std.proofs.Common.{◌∙◌, ℕ, sym, ap, arith}
use Rattle.sector_dev.specs.Image.{Sectors}
use Rattle.sector_layout.specs.Parts.{bytes_at}
use Rattle.sector_copy.proofs.still.StillSource.read_slots.Goals as goal

pub returns-in_err-read-2-clause-image : goal.returns-in_err-read-2-clause-image
returns-in_err-read-2-clause-image g c = λ model.
    c.read-2.ensures.image (c.read.ensures.told.1 model) ∙ c.read.ensures.image model

pub returns-clause-image : goal.returns-clause-image
returns-clause-image g c = λ model.
    c.read-2.ensures.image (c.read.ensures.told.1 model) ∙ c.read.ensures.image model

pub returns-clause-seen : goal.returns-clause-seen
returns-clause-seen g c = λ model.
    let zero = c.in_ok-read.ensures.seen model in
    let one = c.in_ok-read-2.ensures.seen (c.read.ensures.told.1 model) in
    record {
      moment = 0;
      later = omega arith;
      earlier = omega arith;
      zero_holds = zero.holds;
      one_holds = ap (λ (at : ℕ → Sectors). bytes_at (at 0) 1) (sym (c.read.ensures.image model)) ∙ one.holds;
    }
