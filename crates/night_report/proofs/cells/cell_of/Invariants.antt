use Rattle.std.proofs.Common.{◌≡◌, drop}
use Rattle.night_report.specs.Cells.{cell_in}
use Rattle.night_report.proofs.cells.cell_of.Given as goal

abbrev pub invariant-loop-meeting : goal.invariant-loop-meeting
invariant-loop-meeting l = cell_in l.number (drop l.meeting-index l.round) ≡ cell_in l.number l.round
