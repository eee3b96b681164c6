use Rattle.std.proofs.Common.{◌∙◌, ap, sym, ◌∷◌, arith}
use Rattle.text_lines.specs.Lines.{lines_of, IsUnfinished}
use Rattle.text_lines.proofs.LineLemmas.{lines-feed, lines-long}
use Rattle.text_lines.proofs.Wholes.{lines-no_feed}
use Rattle.text_lines.proofs.heard.Ahead.next_line.Goals as goal

pub returns-in_err-part-clause-none : goal.returns-in_err-part-clause-none
returns-in_err-part-clause-none c =
    rw c.from_residual.ensures (lines-no_feed c.args.self.now.bytes.now c.in_err-part.ensures.none)

pub returns-then-part-gt-LINE_ROOM-clause-none : goal.returns-then-part-gt-LINE_ROOM-clause-none
returns-then-part-gt-LINE_ROOM-clause-none c =
    ap lines_of c.in_ok-part.ensures.split
    ∙ lines-long c.in_ok-part.part.now (10 ∷ c.in_ok-part.after.now) c.in_ok-part.ensures.first (omega arith)

pub returns-clause-line : goal.returns-clause-line
returns-clause-line c =
    let u : IsUnfinished c.in_ok-part.part.now = record { no_feed = c.in_ok-part.ensures.first; short = omega arith } in
    ap lines_of c.in_ok-part.ensures.split
    ∙ lines-feed c.in_ok-part.part.now c.in_ok-part.after.now u
    ∙ ap (λ xs. xs ∷ lines_of c.in_ok-part.after.now) (sym c.without_return.ensures)
