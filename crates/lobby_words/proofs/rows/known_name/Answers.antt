use Rattle.std.proofs.Common.{◌≡◌, ◌∙◌, ap, refl, Option, None, Some, rules}
use Rattle.std.specs.Borrow.{Bor}
use Rattle.std.specs.Option.{option_copied}
use Rattle.std.specs.Prelude.{option_map}
use Rattle.lobby_words.specs.declared.players.Player.{Player}
use Rattle.lobby_words.proofs.ByName.{name_found, found_named}
use Rattle.lobby_words.proofs.Mapped.{mapped}
use Rattle.lobby_words.proofs.rows.known_name.Goals as goal

of_copied : (o : Option (Bor Player)) → option_map (λ (p : Bor Player). p.now.name) o ≡ name_found (option_copied o)
of_copied None = refl
of_copied (Some p) = refl

pub returns : goal.returns
returns c =
    mapped c.player_by_name.result c.map.result _ (λ (p : Bor Player). p.now.name) (λ x y k. search rules) c.map.ensures.cases
    ∙ (of_copied c.player_by_name.result
    ∙ (ap name_found c.player_by_name.ensures ∙ found_named c.args.players.now c.args.name.now))
