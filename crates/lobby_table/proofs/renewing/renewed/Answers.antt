use Rattle.std.proofs.Common.{ℕ, List, Option, ap, ◌∙◌}
use Rattle.std.specs.Option.{option_copied}
use Rattle.lobby_words.specs.declared.planning.Identity.{Identity}
use Rattle.lobby_words.specs.declared.players.Player.{Player}
use Rattle.lobby_words.specs.Players.{first_named, goes_on, renewed}
use Rattle.lobby_table.proofs.renewing.renewed.Goals as goal

pub returns : goal.returns
returns c =
    let who = c.in_ok-who.who.now in
    let before = c.args.before.now in
    let later = c.args.later.now in
    c.goes_on.ensures
    ∙ (ap (λ (o : Option Player). goes_on o (option_copied c.player_by_name-new.result))
    (c.player_by_name-old.ensures ∙ ap (λ (n : List ℕ). first_named before n) c.as_str-name.ensures.text)
    ∙ (ap (λ (o : Option Player). goes_on (first_named before who.name) o)
    (c.player_by_name-new.ensures ∙ ap (λ (n : List ℕ). first_named later n) c.as_str-name.ensures.text)
    ∙ ap (λ (w : Option Identity). renewed before later w) c.in_ok-who.ensures.value))
