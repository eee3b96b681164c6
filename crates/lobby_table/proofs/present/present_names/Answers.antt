use Rattle.std.proofs.Common.{ℕ, Bool, List, [], ◌∷◌, ◌++◌, sym, ap, ◌∙◌}
use Rattle.std.specs.Prelude.{if◌then◌else◌}
use Rattle.std.proofs.lemmas.List.{take_all}
use Rattle.lobby_words.specs.declared.players.Player.{Player}
use Rattle.lobby_words.specs.Players.{is_present}
use Rattle.lobby_table.specs.Visitors.{who_in}
use Rattle.lobby_table.proofs.PresentNames.{names_of, names_more}
use Rattle.lobby_table.proofs.present.present_names.Goals as goal

pub loop-player-preserved : goal.loop-player-preserved
loop-player-preserved c =
    let test = λ (p : Player). is_present (who_in c.args.visitors.now) c.args.connections.now p.name in
    let item = c.player-item.result in
    c.in_ok-add_if.ensures
    ∙ (ap (λ (b : Bool). c.loop-player.names.items ++ (if b then item.name ∷ [] else []))
    (c.is_among-is_here.ensures ∙ c.in_ok-present.ensures item.name)
    ∙ (ap (λ (xs : List (List ℕ)). xs ++ (if test item then item.name ∷ [] else [])) c.loop-player.invariant
    ∙ sym (names_more test c.args.players.now c.loop-player.player-index item c.loop-player-test.true c.player-item.is)))

pub returns : goal.returns
returns c =
    let test = λ (p : Player). is_present (who_in c.args.visitors.now) c.args.connections.now p.name in
    c.loop-player.invariant
    ∙ ap (names_of test) (take_all c.loop-player.player-index c.args.players.now c.loop-player-test.false)
