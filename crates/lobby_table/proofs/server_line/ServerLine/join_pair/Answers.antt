use Rattle.std.proofs.Common.{ℕ, List, [], ◌∷◌, ◌++◌, map, ap, ◌∙◌, ◌≡◌}
use Rattle.std.specs.String.{string_bytes}
use Rattle.std.proofs.lemmas.Result.{on_ok_weaker}
use Rattle.lobby_table.specs.Owed.{Owed, Asker, ForAct, owed_of}
use Rattle.lobby_table.specs.Sending.{join_line}
use Rattle.lobby_table.proofs.Sent.{alone_bytes, alone_owed}
use Rattle.lobby_table.proofs.server_line.ServerLine.join_pair.Goals as goal

pub returns-clause-sent : goal.returns-clause-sent
returns-clause-sent c =
    on_ok_weaker c.ask.result
    (λ sent. alone_bytes c.args.self.now.said c.args.black (join_line c.args.game) c.args.wire.now.items c.say_name.new.wire.items c.ask.new.wire.items
    c.in_ok-say_name.ensures.sent sent)
    c.ask.ensures.sent

pub returns-clause-owed : goal.returns-clause-owed
returns-clause-owed c =
    let of = c.args.act.now in
    let owed : Asker c.in_ok-later.later.from (ForAct c.in_ok-later.later.who (string_bytes c.in_ok-later.later.text)) ≡ Asker of.from (ForAct of.who (string_bytes of.text)) =
    ap (λ (f : ℕ). Asker f (ForAct c.in_ok-later.later.who (string_bytes c.in_ok-later.later.text))) c.in_ok-later.ensures.0
    ∙ (ap (λ (w : List ℕ). Asker of.from (ForAct w (string_bytes c.in_ok-later.later.text))) c.in_ok-later.ensures.1
    ∙ ap (λ (t : List ℕ). Asker of.from (ForAct of.who t)) (c.in_ok-later.ensures.2 ∙ c.as_str.ensures.value)) in
    on_ok_weaker c.ask.result
    (λ sent. alone_owed c.args.self.now.said c.args.act.now.from c.args.act.now.who (string_bytes c.args.act.now.text) c.args.black (join_line c.args.game)
    (map owed_of c.args.self.now.queue.items) (map owed_of c.say_name.new.self.queue.items) (map owed_of c.ask.new.self.queue.items)
    c.in_ok-say_name.ensures.owed
    (sent ∙ ap (λ (o : Owed). map owed_of c.say_name.new.self.queue.items ++ o ∷ []) owed))
    c.ask.ensures.owed
