use Rattle.std.proofs.Common.{ℕ, ◌++◌, List, length, codes, decimal, ap, ◌∙◌}
use Rattle.lobby_words.specs.Players.{row_of}
use Rattle.lobby_words.proofs.PlayerRows.{rows_more}
use Rattle.lobby_words.proofs.rows.player_rows.Goals as goal

pub loop-player-preserved : goal.loop-player-preserved
loop-player-preserved c =
    let players = c.args.players.now in
    let item = c.player-item.result in
    c.in_ok-push_player.ensures
    ∙ (ap (λ (t : List ℕ). t ++ row_of item) c.loop-player.invariant
    ∙ rows_more (codes "ok players " ++ decimal (length players) ++ codes "\n") players c.loop-player.player-index item c.loop-player-test.true c.player-item.is)
