use Rattle.std.proofs.Common.{refl, arith}
use Rattle.text_lines.specs.Lines.{lines_of}
use Rattle.chess_hub.specs.Turn.{line_of}
use Rattle.chess_hub.proofs.TurnLineLemmas.{more-full, push-result, line-none, reading}
use Rattle.chess_hub.proofs.turn.push_line.Goals as goal

pub returns-then-len-most-clause-more : goal.returns-then-len-most-clause-more
returns-then-len-most-clause-more c =
    more-full c.args.most c.args.turn.now.items (line_of c.args.sid c.args.place (lines_of c.args.lines.now.bytes))
    (omega arith)

pub returns-in-Some-clause-more : goal.returns-in-Some-clause-more
returns-in-Some-clause-more c =
    push-result c.extend_from_slice.result c.args.most c.args.sid c.args.place (lines_of c.args.lines.now.bytes)
    c.args.turn.now.items c.extend_from_slice.new.self.items c.in-Some.text.now _ c.extend_from_slice.ensures.items
    c.in-Some.ensures (omega arith)
    (record { sid = refl; reads = reading c.in-Some.text.now c.parse.result c.parse.ensures.some c.parse.ensures.none })

pub returns-in-None-clause-more : goal.returns-in-None-clause-more
returns-in-None-clause-more c =
    line-none c.args.most c.args.sid c.args.place (lines_of c.args.lines.now.bytes) c.args.turn.now.items
    c.in-None.ensures
