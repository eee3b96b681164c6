use Rattle.std.proofs.Common.{ℕ, ◌||◌, Bool, List, Option, get_or, ap, sym, ◌∙◌}
use Rattle.std.specs.HashSet.{contains_text}
use Rattle.std.proofs.lemmas.List.{take_all}
use Rattle.std.proofs.lemmas.List.Folds.{list_any_more}
use Rattle.lobby_words.specs.declared.planning.Identity.{Identity}
use Rattle.lobby_words.specs.Players.{is_named, is_present}
use Rattle.lobby_table.specs.Visitors.{who_in}
use Rattle.lobby_table.proofs.present.names_acted_for.Goals as goal

pub loop-connection-preserved : goal.loop-connection-preserved
loop-connection-preserved c = λ name.
    let who = who_in c.args.visitors.now in
    let connections = c.args.connections.now in
    let i = c.loop-connection.connection-index in
    let test = λ (one : ℕ). is_named (who one) name in
    c.in_ok-note_name.ensures name
    ∙ (ap (λ (w : Option Identity). contains_text c.loop-connection.names name || is_named w name) c.who_acts-who.ensures
    ∙ (ap (λ (b : Bool). b || test (get_or connections i 0)) (c.loop-connection.invariant name)
    ∙ sym (list_any_more test connections i 0 c.loop-connection-test.true)))

pub returns : goal.returns
returns c = λ name.
    c.loop-connection.invariant name
    ∙ ap (λ (all : List ℕ). is_present (who_in c.args.visitors.now) all name)
    (take_all c.loop-connection.connection-index c.args.connections.now c.loop-connection-test.false)
