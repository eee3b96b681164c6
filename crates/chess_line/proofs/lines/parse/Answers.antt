use Rattle.std.proofs.lemmas.Str.{IsUtf8-from_ascii}
use Rattle.chess_line.proofs.Ascii.{line_ascii}
use Rattle.chess_line.proofs.lines.parse.Goals as goal

pub returns-in-Err-clause-none : goal.returns-in-Err-clause-none
returns-in-Err-clause-none c = λ line is. c.in-Err.ensures.cases.0 (IsUtf8-from_ascii _ (line_ascii _ line is.form))
