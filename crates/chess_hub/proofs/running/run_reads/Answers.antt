-- What the loop over lines says of a session is said of the run.
use Rattle.std.proofs.Common.{refl, inr}
use Rattle.std.proofs.lemmas.Result.{err_from_is_err_and}
use Rattle.chess_hub.specs.Running.{standing}
use Rattle.chess_hub.proofs.RunLemmas.{whole-run, long-run, ended-ok, ended-err, of_source}
use Rattle.chess_hub.proofs.running.run_reads.Goals as goal
use Rattle.chess_hub.specs.Turning.{kept}

pub returns-in-Err-clause-ended : goal.returns-in-Err-clause-ended
returns-in-Err-clause-ended g c = inr (c.in-Err.ensures.fault, record { read = refl; written = refl })

pub returns-in_err-ended-clause-long : goal.returns-in_err-ended-clause-long
returns-in_err-ended-clause-long g c =
    let e = err_from_is_err_and c.from_residual.result c.from_residual.ensures.1 in
    long-run g.D.Device.state g.D.Device.sector_count g.D.Device.failures g.M.Moments.gives
    c.answer_lines-ended.result.0 c.in-Ok.talk
    (λ t. standing t.hub t.sid t.moments) (kept c.args.store) c.args.moments
    c.in-Ok.ensures.begins c.answer_lines-ended.result.1 c.in_err-ended.field-0.0 c.from_residual.result e.0 (g.W.Write.contents c.args.writer.now)
    (g.W.Write.contents c.answer_lines-ended.new.writer) (g.R.Read.remaining c.args.reader.now)
    c.in_err-ended.was e.1 e.2 c.answer_lines-ended.ensures.long

pub returns-in_err-ended-clause-ended : goal.returns-in_err-ended-clause-ended
returns-in_err-ended-clause-ended g c =
    let e = err_from_is_err_and c.from_residual.result c.from_residual.ensures.1 in
    ended-err g.D.Device.state g.D.Device.sector_count g.D.Device.failures g.M.Moments.gives
    c.answer_lines-ended.result.0 c.in-Ok.talk
    (λ t. standing t.hub t.sid t.moments) (kept c.args.store) c.args.moments
    c.in-Ok.ensures.begins c.answer_lines-ended.result.1 c.in_err-ended.field-0.0 c.from_residual.result e.0 (g.R.Read.remaining c.args.reader.now)
    (g.R.Read.remaining c.answer_lines-ended.new.reader) (g.W.Write.contents c.args.writer.now)
    (g.W.Write.contents c.answer_lines-ended.new.writer) c.in_err-ended.was e.1 e.2 c.answer_lines-ended.ensures.ended

pub returns-clause-whole : goal.returns-clause-whole
returns-clause-whole g c =
    whole-run g.D.Device.state g.D.Device.sector_count g.D.Device.failures g.M.Moments.gives
    c.answer_lines-ended.result.0 c.in-Ok.talk
    (λ t. standing t.hub t.sid t.moments) (kept c.args.store) c.args.moments
    c.in-Ok.ensures.begins c.answer_lines-ended.result.1 tt (g.W.Write.contents c.args.writer.now) (g.W.Write.contents c.answer_lines-ended.new.writer)
    (g.R.Read.remaining c.args.reader.now) c.in_ok-ended.was c.answer_lines-ended.ensures.whole

pub returns-clause-ended : goal.returns-clause-ended
returns-clause-ended g c =
    ended-ok g.D.Device.state g.D.Device.sector_count g.D.Device.failures g.M.Moments.gives
    c.answer_lines-ended.result.0 c.in-Ok.talk
    (λ t. standing t.hub t.sid t.moments) (kept c.args.store) c.args.moments
    c.in-Ok.ensures.begins c.answer_lines-ended.result.1 tt (g.R.Read.remaining c.args.reader.now) (g.R.Read.remaining c.answer_lines-ended.new.reader)
    (g.W.Write.contents c.args.writer.now) (g.W.Write.contents c.answer_lines-ended.new.writer) c.in_ok-ended.was c.answer_lines-ended.ensures.ended

pub returns-in_err-ended-clause-cause : goal.returns-in_err-ended-clause-cause
returns-in_err-ended-clause-cause g c =
    let e = err_from_is_err_and c.from_residual.result c.from_residual.ensures.1 in
    of_source c.answer_lines-ended.result.1 c.in_err-ended.field-0.0 c.from_residual.result e.0
    c.args.reads.now.has_failed c.answer_lines-ended.new.reads.has_failed
    c.in_err-ended.was e.1 e.2 c.answer_lines-ended.ensures.cause
