use Rattle.std.proofs.Common.{[], ◌∷◌, map, ap, ◌∙◌}
use Rattle.std.proofs.lemmas.List.{map-append}
use Rattle.lobby_table.specs.Owed.{owed_of}
use Rattle.lobby_table.proofs.Tails.{on_ok_still}
use Rattle.lobby_table.proofs.server_line.ServerLine.send.Goals as goal

pub returns-clause-owed : goal.returns-clause-owed
returns-clause-owed c =
    on_ok_still c.put.result (ap (map owed_of) c.in_ok-push_back.ensures.items ∙ map-append owed_of c.args.self.now.queue.items (c.args.due ∷ []))
