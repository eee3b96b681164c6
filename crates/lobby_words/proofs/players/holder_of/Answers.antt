use Rattle.std.proofs.Common.{◌≡◌, Bool, true, false, None, sym, ap, ◌∙◌}
use Rattle.std.specs.Prelude.{ℕ, List, if◌then◌else◌}
use Rattle.sha2.specs.Sha256.{sha256}
use Rattle.lobby_words.specs.Players.{is_token, holder_of_sum, holder_of}
use Rattle.lobby_words.proofs.players.holder_of.Goals as goal

pub returns-then-not-is_token : goal.returns-then-not-is_token
unfolding holder_of
returns-then-not-is_token c =
    let none : is_token c.args.token.now ≡ false = sym c.if-not-is_token.ensures in
    sym (ap (λ (b : Bool). if b then holder_of_sum c.args.players.now (sha256 c.args.token.now) else None) none)

pub returns : goal.returns
unfolding holder_of
returns c =
    let players = c.args.players.now in
    let one : is_token c.args.token.now ≡ true = sym c.if-not-is_token.ensures in
    c.holder_of_sum.ensures
    ∙ (ap (λ (s : List ℕ). holder_of_sum players s) c.digest-sum.ensures
    ∙ sym (ap (λ (b : Bool). if b then holder_of_sum c.args.players.now (sha256 c.args.token.now) else None) one))
