use Rattle.std.proofs.Common.{ap, ◌∙◌, Err}
use Rattle.text_lines.specs.declared.answerer.LoopFault.TheVariants as loop
use Rattle.server_words.proofs.BoardRunLemmas.{text-from, at-fault, front-all, taken-long, front-part, taken-part}
use Rattle.server_words.proofs.board_loop.board_reads.Goals as goal

pub returns-in-Ok-clause-whole : goal.returns-in-Ok-clause-whole
returns-in-Ok-clause-whole g c =
    text-from _ _ _ c.start-answered.result c.answer_lines-ended.result.0 c.start-answered.ensures.initial
    (rw c.in-Ok.is at c.answer_lines-ended.ensures.whole)

pub returns-in-Err-LineTooLong-clause-whole : goal.returns-in-Err-LineTooLong-clause-whole
returns-in-Err-LineTooLong-clause-whole g c =
    text-from _ _ _ c.start-answered.result c.answer_lines-ended.result.0 c.start-answered.ensures.initial
    (c.answer_lines-ended.ensures.long (c.in-Err-LineTooLong.is
    ∙ ap (λ fault. Err fault) (rw c.in-Err-LineTooLong.is at c.in-Err-LineTooLong.field-0-is)))

pub returns-in-Err-Read-clause-front : goal.returns-in-Err-Read-clause-front
returns-in-Err-Read-clause-front g c =
    front-all _ _ _ _ _
    (at-fault _ _ c.in-Err-Read.field-0 loop.Read _ _ _ _ _ _ c.in-Err-Read.is
    (rw c.in-Err-Read.is at c.in-Err-Read.field-0-is) c.start-answered.ensures.initial c.answer_lines-ended.ensures.ended)

pub returns-in-Err-Write-clause-front : goal.returns-in-Err-Write-clause-front
returns-in-Err-Write-clause-front g c =
    front-part _ _ _ _ _ _
    (at-fault _ _ c.in-Err-Write.field-0 loop.Write _ _ _ _ _ _ c.in-Err-Write.is
    (rw c.in-Err-Write.is at c.in-Err-Write.field-0-is) c.start-answered.ensures.initial c.answer_lines-ended.ensures.ended)

pub returns-in-Err-Write-clause-write : goal.returns-in-Err-Write-clause-write
returns-in-Err-Write-clause-write g c =
    λ _. taken-part _ _ _ _ _ _
    (at-fault _ _ c.in-Err-Write.field-0 loop.Write _ _ _ _ _ _ c.in-Err-Write.is
    (rw c.in-Err-Write.is at c.in-Err-Write.field-0-is) c.start-answered.ensures.initial c.answer_lines-ended.ensures.ended)

pub returns-in-Err-LineTooLong-clause-answered : goal.returns-in-Err-LineTooLong-clause-answered
returns-in-Err-LineTooLong-clause-answered g c =
    taken-long _ _ _ _ _
    (at-fault _ _ c.in-Err-LineTooLong.field-0 loop.LineTooLong _ _ _ _ _ _ c.in-Err-LineTooLong.is
    (rw c.in-Err-LineTooLong.is at c.in-Err-LineTooLong.field-0-is) c.start-answered.ensures.initial c.answer_lines-ended.ensures.ended)
