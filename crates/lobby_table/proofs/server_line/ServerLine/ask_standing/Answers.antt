use Rattle.std.proofs.Common.{List, [], ◌∷◌, ◌++◌, map, ap, ◌∙◌, append_assoc, codes}
use Rattle.std.proofs.lemmas.Result.{on_ok_weaker}
use Rattle.lobby_table.specs.Owed.{Owed, owed_of, Nobody}
use Rattle.lobby_table.specs.Sending.{game_line}
use Rattle.lobby_table.proofs.Sent.{after_two}
use Rattle.lobby_table.proofs.server_line.ServerLine.ask_standing.Goals as goal

pub returns-clause-sent : goal.returns-clause-sent
returns-clause-sent c =
    on_ok_weaker c.ask-2.result
    (λ sent. after_two _ _ _ (game_line (codes "show ") c.args.game) (game_line (codes "fen ") c.args.game) c.in_ok-ask.ensures.sent sent)
    c.ask-2.ensures.sent

pub returns-clause-owed : goal.returns-clause-owed
returns-clause-owed c =
    on_ok_weaker c.ask-2.result
    (λ owed. owed
    ∙ (ap (λ (os : List Owed). os ++ owed_of c.args.due ∷ []) c.in_ok-ask.ensures.owed
    ∙ append_assoc (map owed_of c.args.self.now.queue.items) (Nobody ∷ []) (owed_of c.args.due ∷ [])))
    c.ask-2.ensures.owed
