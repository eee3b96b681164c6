use Rattle.std.proofs.Common.{ℕ, ◌++◌, List, length, codes, decimal, ap, ◌∙◌}
use Rattle.lobby_words.specs.Answers.{ended}
use Rattle.lobby_words.specs.Players.{who_front}
use Rattle.lobby_words.proofs.PlayerRows.{lines_more}
use Rattle.lobby_words.proofs.rows.who_text.Goals as goal

pub loop-name-preserved : goal.loop-name-preserved
loop-name-preserved c =
    let names = c.args.names.now in
    let item = c.name-item.result in
    c.in_ok-push_name.ensures
    ∙ (ap (λ (t : List ℕ). t ++ ended item) c.loop-name.invariant
    ∙ lines_more (who_front c.args.is_paused ++ decimal (length names) ++ codes "\n") names c.loop-name.name-index item c.loop-name-test.true c.name-item.is)
