use Rattle.std.proofs.Common.{ℕ, ◌∙◌, refl, subst, take}
use Rattle.std.specs.Io.KnownBytes.{Consumes}
use Rattle.text_lines.specs.Turns.{moment_of}
use Rattle.text_lines.specs.declared.loops.Flow.TheVariants.{Open, TooLong, Broken}
use Rattle.text_lines.proofs.EndLemmas.{stands-first, stands-kept, stands-read, stands-all, stands-after, stands-lost}
use Rattle.text_lines.proofs.loops.LoopState.answer_all.Goals as goal

pub loop-count-init : goal.loop-count-init
loop-count-init g c = record {
  stands = stands-first g.A.Answerer.is_ready g.A.Answerer.answers (g.R.Read.remaining c.args.reader.now)
      (moment_of c.args.self.now (g.W.Write.contents c.args.writer.now)) c.requires.asked c.requires.empty
      c.requires.nothing;
  works = refl;
}

pub loop-count-preserved : goal.loop-count-preserved
loop-count-preserved g c = record {
  stands = stands-after g.A.Answerer.is_ready g.A.Answerer.answers g.A.Answerer.breaks _ _ _ _ _ _ _ _
      c.loop-count.invariant.stands c.in-Ok.ensures.bytes.0 _ Open c.in-Ok-Open.field-0-is c.in-Ok-Open.ensures.empty
      c.in-Ok-Open.ensures.taken;
  works = c.in-Ok.ensures.works ∙ c.loop-count.invariant.works;
}

pub returns-in-Ok-eq0-clause-ended : goal.returns-in-Ok-eq0-clause-ended
returns-in-Ok-eq0-clause-ended g c =
    let left = g.R.Read.remaining c.loop-count.reader in
    let later = g.R.Read.remaining c.next_piece.new.reader in
    let read = subst (λ (n : ℕ). Consumes left later (take n c.next_piece.new.piece)) c.in-Ok-eq0.field-0-test
    c.in-Ok-eq0.ensures.bytes.0 in
    stands-all g.A.Answerer.is_ready g.A.Answerer.answers _ _ _ _ _
    (stands-read g.A.Answerer.is_ready g.A.Answerer.answers _ left later _ _ _ c.loop-count.invariant.stands read)

pub returns-in-Ok-TooLong-clause-ended : goal.returns-in-Ok-TooLong-clause-ended
returns-in-Ok-TooLong-clause-ended g c =
    stands-after g.A.Answerer.is_ready g.A.Answerer.answers g.A.Answerer.breaks _ _ _ _ _ _ _ _
    c.loop-count.invariant.stands c.in-Ok.ensures.bytes.0 _ TooLong c.in-Ok-TooLong.field-0-is
    c.in-Ok-TooLong.ensures.empty c.in-Ok-TooLong.ensures.taken

pub returns-in-Ok-Broken-clause-ended : goal.returns-in-Ok-Broken-clause-ended
returns-in-Ok-Broken-clause-ended g c =
    stands-after g.A.Answerer.is_ready g.A.Answerer.answers g.A.Answerer.breaks _ _ _ _ _ _ _ _
    c.loop-count.invariant.stands c.in-Ok.ensures.bytes.0 _ (Broken c.in-Ok-Broken.fault) c.in-Ok-Broken.field-0-is
    c.in-Ok-Broken.ensures.empty c.in-Ok-Broken.ensures.taken

pub returns-in-Err-answer_piece-clause-ended : goal.returns-in-Err-answer_piece-clause-ended
returns-in-Err-answer_piece-clause-ended g c =
    stands-lost g.A.Answerer.is_ready g.A.Answerer.answers g.A.Answerer.breaks _ _ _ _ _ _
    (moment_of c.answer_piece.new.self (g.W.Write.contents c.answer_piece.new.writer)) _
    c.loop-count.invariant.stands c.in-Ok.ensures.bytes.0 _ c.in-Err-answer_piece.ensures.taken

pub returns-in-Err-clause-ended : goal.returns-in-Err-clause-ended
returns-in-Err-clause-ended g c =
    stands-all g.A.Answerer.is_ready g.A.Answerer.answers _ _ _ _ _
    (stands-kept g.A.Answerer.is_ready g.A.Answerer.answers _ _ _ _ _ _ c.loop-count.invariant.stands c.in-Err.ensures.bytes)
