use Rattle.std.proofs.Common.{ℕ, codes, List, ◌++◌, map, ap, ◌∙◌}
use Rattle.std.specs.String.{string_bytes}
use Rattle.std.proofs.lemmas.Result.{on_ok_weaker}
use Rattle.lobby_words.specs.Words.{pair_line}
use Rattle.lobby_table.specs.Owed.{owed_of}
use Rattle.lobby_words.specs.Answers.{ended}
use Rattle.lobby_table.proofs.Sent.{alone_bytes, pair_owed}
use Rattle.lobby_table.proofs.server_line.ServerLine.open_pair.Goals as goal

pub returns-clause-sent : goal.returns-clause-sent
returns-clause-sent c =
    on_ok_weaker c.send.result
    (λ sent. alone_bytes c.args.self.now.said c.args.white (pair_line c.args.text.now) c.args.wire.now.items c.say_name.new.wire.items
    c.send.new.wire.items c.in_ok-say_name.ensures.sent
    (sent ∙ ap (λ (t : List ℕ). c.say_name.new.wire.items ++ ended (codes "open white " ++ t)) c.pair_times.ensures))
    c.send.ensures.sent

pub returns-clause-owed : goal.returns-clause-owed
returns-clause-owed c =
    on_ok_weaker c.send.result
    (λ sent. pair_owed c.args.self.now.said c.args.act.from c.args.act.who c.args.black (string_bytes c.args.act.text) c.args.white
    (pair_line c.args.text.now) (map owed_of c.args.self.now.queue.items) (map owed_of c.say_name.new.self.queue.items)
    (map owed_of c.send.new.self.queue.items) c.in_ok-say_name.ensures.owed sent)
    c.send.ensures.owed
