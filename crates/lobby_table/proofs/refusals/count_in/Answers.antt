use Rattle.std.proofs.Common.{ℕ, ◌≡◌, ◌==◌, ◌∙◌, ap, Option, None, Some, rules, tests}
use Rattle.std.specs.Borrow.{Bor}
use Rattle.std.specs.Option.{MatchOption}
use Rattle.std.specs.Prelude.{option_map}
use Rattle.std.proofs.lemmas.Iterator.{YieldsList-from_slice}
use Rattle.std.proofs.lemmas.Iterator.Search.{find_from_yields_List}
use Rattle.lobby_table.specs.declared.refusals.RefusedActs.{RefusedActs}
use Rattle.lobby_table.proofs.First.{count_found, count_first}
use Rattle.lobby_table.proofs.refusals.count_in.Goals as goal

counted : (o : Option (Bor RefusedActs)) (r : ℕ) (Q : Bor RefusedActs → Type 0) → ((x : Bor RefusedActs) → Q x → r ≡ x.now.count) →
    MatchOption o (r ≡ 0) Q → r ≡ count_found (option_map (λ (x : Bor RefusedActs). x.now) o)
counted None r Q k is = is
counted (Some x) r Q k is = k x is

pub returns : goal.returns
returns c =
    let is_there = λ (r : RefusedActs). r.game == c.args.game in
    counted c.find.result c.map_or.result _ (λ x k. search rules) c.map_or.ensures
    ∙ (ap count_found
    (find_from_yields_List is_there _ _ c.find.result c.find.ensures.ran (YieldsList-from_slice c.args.refused.now cc) (λ x b q k. search (rules, tests)))
    ∙ count_first c.args.game c.args.refused.now)
