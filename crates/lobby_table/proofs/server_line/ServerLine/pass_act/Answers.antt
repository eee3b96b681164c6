use Rattle.std.proofs.Common.{ℕ, ◌++◌, map, Option, ap, sym, ◌∙◌}
use Rattle.std.specs.String.{string_bytes}
use Rattle.std.proofs.lemmas.Result.{on_ok_weaker}
use Rattle.lobby_words.specs.Lines.{bytes_of}
use Rattle.lobby_table.specs.Owed.{owed_of, owed_last, Behind}
use Rattle.lobby_table.specs.Refusals.{game_named}
use Rattle.lobby_table.specs.Sending.{notice_lines}
use Rattle.lobby_table.proofs.Sent.{act_bytes, act_owed}
use Rattle.lobby_table.proofs.server_line.ServerLine.pass_act.Goals as goal

pub returns-clause-sent : goal.returns-clause-sent
returns-clause-sent c =
    let named = ap game_named (sym c.as_str.ensures.value) ∙ sym c.game_named-game.ensures in
    on_ok_weaker c.ask_behind.result
    (λ sent. act_bytes c.args.self.now.said c.args.name c.args.line.now (game_named (string_bytes c.args.act.text)) c.args.wire.now.items
    c.say_name.new.wire.items c.pass.new.wire.items c.ask_behind.new.wire.items c.in_ok-say_name.ensures.sent c.in_ok-pass.ensures.sent
    (sent ∙ ap (λ (g : Option ℕ). c.pass.new.wire.items ++ bytes_of (notice_lines g)) (sym named)))
    c.ask_behind.ensures.sent

pub returns-clause-owed : goal.returns-clause-owed
returns-clause-owed c =
    let named = ap game_named (sym c.as_str.ensures.value) ∙ sym c.game_named-game.ensures in
    on_ok_weaker c.ask_behind.result
    (λ owed. act_owed c.args.self.now.said c.args.act.from c.args.act.who (string_bytes c.args.act.text) c.args.name c.args.line.now
    (game_named (string_bytes c.args.act.text)) (map owed_of c.args.self.now.queue.items) (map owed_of c.say_name.new.self.queue.items)
    (map owed_of c.pass.new.self.queue.items) (map owed_of c.ask_behind.new.self.queue.items) c.in_ok-say_name.ensures.owed
    c.in_ok-pass.ensures.owed (owed ∙ ap (λ (g : Option ℕ). map owed_of c.pass.new.self.queue.items ++ owed_last Behind (notice_lines g)) (sym named)))
    c.ask_behind.ensures.owed
