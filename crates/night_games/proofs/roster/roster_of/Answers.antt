use Rattle.std.proofs.Common.{map}
use Rattle.csv.specs.Records.{fields_of}
use Rattle.night_games.proofs.Faults.{told_roster, told_fault, unread_fault}
use Rattle.night_games.proofs.roster.roster_of.Goals as goal

pub returns-in-Ok-clause-roster : goal.returns-in-Ok-clause-roster
returns-in-Ok-clause-roster c = told_roster c.args.text.now c.in-Ok.rows c.checked.result c.in-Ok.ensures c.checked.ensures.roster

pub returns-in-Ok-clause-fault : goal.returns-in-Ok-clause-fault
returns-in-Ok-clause-fault c =
    told_fault c.args.text.now (map fields_of c.in-Ok.rows.items) c.checked.result c.in-Ok.ensures c.checked.ensures.fault

pub returns-in-Err-clause-fault : goal.returns-in-Err-clause-fault
returns-in-Err-clause-fault c = unread_fault c.args.text.now c.unread.result c.unread.ensures
