use Rattle.std.proofs.Common.{◌∙◌, sym}
use Rattle.night_rounds.proofs.RowByRow.{under_ok, under_err}
use Rattle.night_rounds.proofs.reading.pairings_under.Goals as goal

pub returns-then-is_header-clause-pairings : goal.returns-then-is_header-clause-pairings
returns-then-is_header-clause-pairings c =
    under_ok c.args.header.now _ c.pairings_below.result (sym c.is_header.ensures ∙ c.if-is_header.true) c.pairings_below.ensures.pairings

pub returns-then-is_header-clause-fault : goal.returns-then-is_header-clause-fault
returns-then-is_header-clause-fault c =
    under_err c.args.header.now _ c.pairings_below.result (sym c.is_header.ensures ∙ c.if-is_header.true) c.pairings_below.ensures.fault
