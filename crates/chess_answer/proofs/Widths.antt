-- How long the words for a result are.
use Rattle.std.proofs.Common.{◌≤◌, length, lit≤}
use Rattle.std.specs.Prelude.{Option, Some, None}
use Rattle.chess_end.specs.declared.ending.Ending.{Ending}
use Rattle.chess_end.specs.declared.ending.GameResult.{GameResult}
use Rattle.chess_end.specs.declared.ending.GameResult.TheVariants as results
use Rattle.chess_text.specs.Pgn.{score_text, result_text}

length-score_text : (result : GameResult) → length (score_text result) ≤ 7
length-score_text results.White = lit≤ tt
length-score_text results.Black = lit≤ tt
length-score_text results.Draw = lit≤ tt

pub length-result_text : (ending : Option Ending) → length (result_text ending) ≤ 7
length-result_text None = lit≤ tt
length-result_text (Some ending) = length-score_text ending.result
