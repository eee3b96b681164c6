use Rattle.std.proofs.Common.{rules, arith}
use Rattle.night_report.proofs.room.fault_in.Goals as goal

pub returns-clause-none : goal.returns-clause-none
returns-clause-none c = record {
  numbers = omega (arith, c.if-count-gt9999.false);
  columns = grind (arith, c.all_rounds-all.ensures, c.if-all-gt99.false);
  told = grind (arith, c.all_rounds-all.ensures, c.if-rounds-all.false);
  dated = grind (arith, c.all_rounds-all.ensures, c.if-days-all.false);
  texts = grind (arith, c.all_fit.ensures, c.if-not-all_fit.false);
  seats = grind (arith, c.are_seated.ensures, c.if-not-are_seated.false);
  members = grind (arith, c.are_members.ensures, c.if-not-are_members.false);
}
