-- Whose session is open stays.
use Rattle.std.proofs.Common.{rules}
use Rattle.std.specs.Prelude.{is_some}
use Rattle.std.proofs.lemmas.Fn.{filter_same}
use Rattle.chess_hub.specs.Session.{session_at}
use Rattle.chess_sockets.proofs.server.Server.part.Goals as goal

pub returns-clause-stay : goal.returns-clause-stay
returns-clause-stay g c =
    filter_same _ (λ client. is_some (session_at c.args.self.now.hub.sessions client.sid)) _ (λ x b f' k. search rules) _ _
    c.retain.ensures.filtered
