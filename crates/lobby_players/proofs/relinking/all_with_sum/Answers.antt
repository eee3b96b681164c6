use Rattle.std.proofs.Common.{◌≡◌, ◌+◌, List, [], ◌∷◌, ◌++◌, take, sym, ap, ◌∙◌, subst}
use Rattle.std.proofs.lemmas.List.{take_more}
use Rattle.lobby_words.specs.declared.players.Player.{Player}
use Rattle.lobby_words.specs.Players.{IsWithSum, sum_given}
use Rattle.lobby_players.proofs.EachLine.{zip_push}
use Rattle.lobby_players.proofs.NewLink.{AreWithSum}
use Rattle.lobby_players.proofs.relinking.all_with_sum.Goals as goal

pub loop-player-preserved : goal.loop-player-preserved
loop-player-preserved c =
    let players = c.args.players.now in
    let name = c.args.name.now in
    let sum = c.args.sum.now in
    let i = c.loop-player.player-index in
    let item = c.player-item.result in
    let more : take (c.loop-player.player-index + 1) c.args.players.now ≡ take c.loop-player.player-index c.args.players.now ++ c.player-item.result ∷ [] =
    take_more players i item c.loop-player-test.true ∙ ap (λ (one : Player). take i players ++ one ∷ []) (sym c.player-item.is) in
    subst (λ (ys : List Player). AreWithSum name sum (take (i + 1) players) ys) (sym c.in_ok-push.ensures.items)
    (subst (λ (xs : List Player). AreWithSum name sum xs (c.loop-player.after.items ++ c.in_ok-new.new ∷ [])) (sym more)
    (zip_push (λ (old new : Player). IsWithSum (sum_given name sum old) old new) (take i players) c.loop-player.after.items item
    c.in_ok-new.new c.loop-player.invariant c.in_ok-new.ensures))
