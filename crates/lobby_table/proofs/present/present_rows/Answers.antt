use Rattle.std.proofs.Common.{ℕ, List, ap, ◌∙◌}
use Rattle.std.proofs.lemmas.Result.{IfOk-weaker}
use Rattle.lobby_words.specs.Players.{present_names, who_text}
use Rattle.lobby_table.specs.Visitors.{who_in}
use Rattle.lobby_table.proofs.present.present_rows.Goals as goal

pub returns : goal.returns
returns c =
    let players = c.args.players.now in
    let visitors = c.args.visitors.now in
    IfOk-weaker c.who_text.result _ _ (λ text is. (
      c.in_ok-all.all.items,
      c.in_ok-all.ensures,
      is
          ∙ ap (who_text c.args.is_paused) (c.as_slice-2.ensures.value
          ∙ (c.in_ok-names.ensures ∙ ap (λ (all : List ℕ). present_names (who_in visitors) all players) c.as_slice.ensures.value)),
    )) c.who_text.ensures
