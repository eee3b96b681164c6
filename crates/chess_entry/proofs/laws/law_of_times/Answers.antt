use Rattle.chess_repeat.proofs.Counting.{counted_times}
use Rattle.chess_entry.proofs.laws.law_of_times.Goals as goal

pub returns : goal.returns
returns c = counted_times
