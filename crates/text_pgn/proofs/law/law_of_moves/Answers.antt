use Rattle.std.proofs.Common.{[], false, refl}
use Rattle.text_parts.specs.Parts.{parts_of}
use Rattle.text_pgn.specs.Pgn.{tokens_of}
use Rattle.text_pgn.proofs.Kept.{moves_told}
use Rattle.text_pgn.proofs.law.law_of_moves.Goals as goal

pub returns : goal.returns
returns c = λ pgn clocks. moves_told [] false (tokens_of (parts_of 10 pgn)) clocks refl
