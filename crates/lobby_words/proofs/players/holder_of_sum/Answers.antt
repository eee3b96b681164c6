use Rattle.std.proofs.Common.{ℕ, Bool, Option, ap, sym, ◌≡◌, ◌∙◌, ◌+◌, ◌++◌, [], ◌∷◌, take, length, List, arith}
use Rattle.std.specs.Prelude.{find, option_map}
use Rattle.std.proofs.lemmas.List.{take_more}
use Rattle.std.proofs.Math.Seq.{take-length}
use Rattle.lobby_words.specs.declared.players.Player.{Player}
use Rattle.lobby_words.specs.declared.planning.Identity.{Identity}
use Rattle.lobby_words.specs.Players.{identity_of, has_sum, or_holder}
use Rattle.lobby_words.proofs.Found.{found_more}
use Rattle.lobby_words.proofs.players.holder_of_sum.Goals as goal

pub loop-player-preserved : goal.loop-player-preserved
loop-player-preserved c =
    let players = c.args.players.now in
    let i = c.loop-player.player-index in
    let sum = c.args.sum.now in
    let item = c.player-item.result in
    let before = option_map identity_of (find (has_sum sum) (take i players)) in
    let more : take (c.loop-player.player-index + 1) c.args.players.now ≡ take c.loop-player.player-index c.args.players.now ++ c.player-item.result ∷ [] =
    take_more players i item c.loop-player-test.true ∙ ap (λ (one : Player). take i players ++ one ∷ []) (sym c.player-item.is) in
    c.or_holder-holder.ensures
    ∙ (ap (λ (h : Option Identity). or_holder h c.is_same_sum-is_holder.result (identity_of item)) c.loop-player.invariant
    ∙ (ap (λ (b : Bool). or_holder before b (identity_of item)) c.is_same_sum-is_holder.ensures
    ∙ (sym (found_more sum (take i players) item)
    ∙ ap (λ (ps : List Player). option_map identity_of (find (has_sum sum) ps)) (sym more))))

pub returns : goal.returns
returns c =
    let players = c.args.players.now in
    let all : c.loop-player.player-index ≡ length c.args.players.now = omega arith in
    c.loop-player.invariant
    ∙ (ap (λ (n : ℕ). option_map identity_of (find (has_sum c.args.sum.now) (take n players))) all
    ∙ ap (λ (ps : List Player). option_map identity_of (find (has_sum c.args.sum.now) ps)) (take-length players))
