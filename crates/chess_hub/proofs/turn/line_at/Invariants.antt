use Rattle.std.proofs.Common.{◌≡◌, drop}
use Rattle.text_lines.specs.Lines.{lines_of}
use Rattle.chess_hub.proofs.turn.line_at.Given as goal

abbrev pub invariant-loop : goal.invariant-loop
invariant-loop l = lines_of l.ahead.bytes.now ≡ drop l.counter (lines_of l.lines.bytes)
