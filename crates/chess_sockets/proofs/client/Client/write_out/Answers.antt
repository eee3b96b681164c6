-- What was written stood at the front of all that is to go.
use Rattle.chess_hub.specs.Session.{session_at}
use Rattle.chess_sockets.specs.Sending.{waiting}
use Rattle.chess_sockets.proofs.ClientLemmas.{hands-first, hands-lost, hands-both}
use Rattle.chess_sockets.proofs.client.Client.write_out.Goals as goal

pub returns-then-ne-clause-hands : goal.returns-then-ne-clause-hands
returns-then-ne-clause-hands g c = hands-first (session_at c.args.hub.now.sessions c.args.self.now.sid)
    (g.S.Write.contents c.args.self.now.wire.stream) (g.S.Write.contents c.write_to-sent.new.writer.stream)
    (waiting c.args.self.now.outgoing) (waiting c.write_to-sent.new.self) c.write_to-sent.ensures.front c.requires

pub returns-clause-hands : goal.returns-clause-hands
returns-clause-hands g c = hands-both (session_at c.args.hub.now.sessions c.args.self.now.sid)
    (session_at c.gather.new.hub.sessions c.args.self.now.sid) (g.S.Write.contents c.args.self.now.wire.stream)
    (g.S.Write.contents c.write_to-sent.new.writer.stream) (g.S.Write.contents c.write_to-sent-2.new.writer.stream)
    (waiting c.args.self.now.outgoing) (waiting c.write_to-sent.new.self) (waiting c.gather.new.outgoing)
    (waiting c.write_to-sent-2.new.self) c.write_to-sent.ensures.front c.in-Ok.ensures.same
    c.write_to-sent-2.ensures.front c.requires c.gather.ensures.open

pub returns-in-Err-clause-refused : goal.returns-in-Err-clause-refused
returns-in-Err-clause-refused g c = hands-lost (session_at c.args.hub.now.sessions c.args.self.now.sid)
    (g.S.Write.contents c.args.self.now.wire.stream) (g.S.Write.contents c.write_to-sent.new.writer.stream)
    (waiting c.args.self.now.outgoing) (waiting c.write_to-sent.new.self) c.write_to-sent.ensures.front

pub returns-then-ne-clause-failed : goal.returns-then-ne-clause-failed
returns-then-ne-clause-failed g c = λ fault. c.write_to-sent.ensures.failed fault

pub returns-clause-failed : goal.returns-clause-failed
returns-clause-failed g c = λ fault. c.write_to-sent-2.ensures.failed (c.as_far.ensures.fault.0 fault)

pub returns-in-Err-clause-memory : goal.returns-in-Err-clause-memory
returns-in-Err-clause-memory g c = c.in-Err.ensures.refused
