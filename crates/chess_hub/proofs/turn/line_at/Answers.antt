use Rattle.std.proofs.Common.{◌≡◌, ◌∙◌, sym, ap, arith, drop}
use Rattle.text_lines.specs.Lines.{lines_of}
use Rattle.chess_hub.proofs.TurnLineLemmas.{drop-step, past-none, found}
use Rattle.chess_hub.proofs.turn.line_at.Goals as goal

pub returns-in_err-next_line : goal.returns-in_err-next_line
returns-in_err-next_line c =
    rw c.from_residual.ensures (past-none (lines_of c.args.lines.now.bytes) c.loop.counter c.args.place
    (sym c.loop.invariant ∙ c.in_err-next_line.ensures.none) (omega arith))

pub loop-preserved : goal.loop-preserved
loop-preserved c =
    sym (drop-step (lines_of c.args.lines.now.bytes) c.loop.counter _ _ (sym c.loop.invariant ∙ c.in_ok-next_line.ensures.line))

pub returns : goal.returns
returns c =
    let at_end : c.loop.counter ≡ c.args.place = omega arith in
    found (λ b. b.now) c.next_line-2.result (lines_of c.args.lines.now.bytes) (lines_of c.loop.ahead.bytes.now)
    (lines_of c.next_line-2.new.self.bytes.now) c.args.place
    (c.loop.invariant ∙ ap (λ n. drop n (lines_of c.args.lines.now.bytes)) at_end) c.next_line-2.ensures.line
    c.next_line-2.ensures.none
