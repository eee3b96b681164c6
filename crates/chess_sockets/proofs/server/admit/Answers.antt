-- A session begins for the connection, or none.
use Rattle.std.proofs.Common.{◌∙◌, [], ◌∷◌, ◌++◌, ap, subst, sym, append-nil}
use Rattle.chess_hub.specs.Calls.{Connected}
use Rattle.chess_sockets.proofs.ServingLemmas.{one_step, stays-refl}
use Rattle.chess_sockets.proofs.server.admit.Goals as goal
use Rattle.chess_hub.specs.Law.{hub_state}

pub returns-clause-welcomes : goal.returns-clause-welcomes
returns-clause-welcomes g c =
    let old = c.args.hub.now in
    let new = c.connect.new.self in
    let client = c.new.result in
    record {
      came = client ∷ [];
      whole = c.push_reserved.ensures.items ∙ ap (λ l. l ++ client ∷ []) c.reserve.ensures.items;
      welcomed = (
        one_step (hub_state old) (hub_state new) (Connected client.sid)
            (rw c.new.ensures.sid (c.in-Ok-connect.ensures.new, c.in-Ok-connect.ensures.opened, ap (λ s. s.table) c.connect.ensures.store)),
        record {
          connection = c.args.connection;
          made = subst (λ s. g.S.From.from_gives c.args.connection s) (sym c.new.ensures.stream) c.from.ensures;
          moment = c.new.ensures.heard;
          lasts = c.new.ensures.lasts;
          wait = c.new.ensures.wait;
          incoming = c.new.ensures.nothing.0;
          outgoing = c.new.ensures.nothing.1;
          first = c.new.ensures.first;
          sound = c.new.ensures.sound;
        },
      );
    }

pub returns-in-Err-clause-welcomes : goal.returns-in-Err-clause-welcomes
returns-in-Err-clause-welcomes g c = record {
  came = [];
  whole = c.reserve.ensures.items ∙ sym (append-nil c.args.clients.now.items);
  welcomed = stays-refl (hub_state c.args.hub.now);
}

pub returns-in-Err-connect-clause-welcomes : goal.returns-in-Err-connect-clause-welcomes
returns-in-Err-connect-clause-welcomes g c = record {
  came = [];
  whole = c.reserve.ensures.items ∙ sym (append-nil c.args.clients.now.items);
  welcomed = record {
    sessions = c.in-Err-connect.ensures.refused;
    table = ap (λ s. s.table) c.connect.ensures.store;
  };
}
