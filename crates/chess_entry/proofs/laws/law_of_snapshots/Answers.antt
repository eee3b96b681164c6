use Rattle.chess_entry.proofs.MeaningMore.{IsMeaning-of}
use Rattle.chess_entry.proofs.laws.law_of_snapshots.Goals as goal

pub returns : goal.returns
returns c = IsMeaning-of
