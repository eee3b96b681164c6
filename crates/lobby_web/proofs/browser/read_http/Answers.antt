-- How far the head is goes with the bytes that came.
use Rattle.std.proofs.Common.{sym, ap, ◌∙◌}
use Rattle.http_server.specs.Connection.{config_of, history}
use Rattle.http_server.specs.History.{History}
use Rattle.lobby_web.specs.Heading.{heading_of}
use Rattle.lobby_web.proofs.HeadingLemmas.{heading_read, headed_answers}
use Rattle.lobby_web.proofs.browser.read_http.Goals as goal

pub returns-then-is_read-clause-headed : goal.returns-then-is_read-clause-headed
returns-then-is_read-clause-headed c =
    headed_answers (config_of c.takes_all.new.connection) c.args.site.now (history c.takes_all.new.connection) c.answered.result
    c.is_read-is_read.new.self
    (heading_read (history c.args.connection) c.args.bytes.now c.args.heading.now c.is_read-is_read.new.self c.requires
    c.is_read-is_read.ensures.heading
    ∙ ap (λ (h : History). heading_of h.received) (sym (c.takes_all.ensures.all c.if-not-takes_all.false)))
    c.answered.ensures.answers

pub returns-else-is_read-clause-headed : goal.returns-else-is_read-clause-headed
returns-else-is_read-clause-headed c =
    heading_read (history c.args.connection) c.args.bytes.now c.args.heading.now c.is_read-is_read.new.self c.requires
    c.is_read-is_read.ensures.heading
    ∙ ap (λ (h : History). heading_of h.received) (sym (c.takes_all.ensures.all c.if-not-takes_all.false))
