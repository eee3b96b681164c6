use Rattle.text_lines.proofs.EndLemmas.{whole-ended, long-ended}
use Rattle.text_lines.proofs.loops.answer_lines.Goals as goal

pub returns-clause-whole : goal.returns-clause-whole
returns-clause-whole g c =
    whole-ended g.A.Answerer.answers g.A.Answerer.breaks c.answer_all-ended.result (g.R.Read.remaining c.args.reader.now)
    (g.R.Read.remaining c.answer_all-ended.new.reader) (g.W.Write.contents c.args.writer.now)
    (g.W.Write.contents c.answer_all-ended.new.writer) c.args.answerer c.answer_all-ended.new.self.answerer
    c.answer_all-ended.ensures.ended c.answer_all-ended.ensures.end

pub returns-clause-long : goal.returns-clause-long
returns-clause-long g c =
    long-ended g.A.Answerer.answers g.A.Answerer.breaks c.answer_all-ended.result (g.R.Read.remaining c.args.reader.now)
    (g.R.Read.remaining c.answer_all-ended.new.reader) (g.W.Write.contents c.args.writer.now)
    (g.W.Write.contents c.answer_all-ended.new.writer) c.args.answerer c.answer_all-ended.new.self.answerer
    c.answer_all-ended.ensures.ended
