use Rattle.night_rounds.proofs.RowByRow.{told_round, told_fault, unread_fault}
use Rattle.night_rounds.proofs.reading.read.Goals as goal

pub returns-in-Ok-clause-pairings : goal.returns-in-Ok-clause-pairings
returns-in-Ok-clause-pairings c =
    told_round c.args.text.now c.in-Ok.rows.items c.as_slice.result.now c.pairings_of.result c.in-Ok.ensures c.as_slice.ensures.value c.pairings_of.ensures.pairings

pub returns-in-Ok-clause-fault : goal.returns-in-Ok-clause-fault
returns-in-Ok-clause-fault c =
    told_fault c.args.text.now c.in-Ok.rows.items c.as_slice.result.now c.pairings_of.result c.in-Ok.ensures c.as_slice.ensures.value c.pairings_of.ensures.fault

pub returns-in-Err-clause-fault : goal.returns-in-Err-clause-fault
returns-in-Err-clause-fault c = unread_fault c.args.text.now c.fault_of.result c.fault_of.ensures
