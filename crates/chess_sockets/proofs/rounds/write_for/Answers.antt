-- What the session is given goes to the connection.
use Rattle.std.proofs.Common.{ap, subst}
use Rattle.std.specs.Prelude.{IsSome}
use Rattle.chess_hub.specs.Session.{session_at}
use Rattle.chess_sockets.proofs.RoundLemmas.{not_closed, skipped}
use Rattle.chess_sockets.proofs.rounds.write_for.Goals as goal

pub returns-then-not-is_open-clause-written : goal.returns-then-not-is_open-clause-written
returns-then-not-is_open-clause-written g c = skipped g.S.Write.contents c.args.client.now c.args.hub.now.sessions

pub returns-clause-written : goal.returns-clause-written
returns-clause-written g c =
    let old = c.args.hub.now.sessions in
    let open_now = subst (λ sid. IsSome (session_at old sid)) c.sid.ensures
    (c.is_open.ensures.0 c.if-not-is_open.false) in
    record {
      sid = c.hand_out.ensures.peer.0;
      incoming = c.hand_out.ensures.peer.3;
      heard = c.hand_out.ensures.peer.4;
      ended = c.hand_out.ensures.peer.1;
      wait = ap (λ s. s.waited) c.hand_out.ensures.peer.5;
      spoken = ap (λ s. s.has_spoken) c.hand_out.ensures.peer.5;
      given = c.hand_out.ensures.given.given;
      reason = λ was none. c.hand_out.ensures.given.reason none;
      hands = c.hand_out.ensures.given.hands;
      closed = not_closed (session_at old c.args.client.now.sid) _ open_now;
    }
