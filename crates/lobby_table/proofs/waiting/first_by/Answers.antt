use Rattle.std.proofs.Common.{ℕ, ◌≡◌, ◌==◌, ◌∙◌, ap, refl, Option, None, Some, rules, tests}
use Rattle.std.specs.Borrow.{Bor}
use Rattle.std.specs.Prelude.{option_map}
use Rattle.std.proofs.lemmas.Iterator.{YieldsList-from_slice}
use Rattle.std.proofs.lemmas.Iterator.Search.{find_from_yields_List}
use Rattle.lobby_words.specs.declared.listing.Seat.{Seat}
use Rattle.lobby_words.proofs.Mapped.{mapped}
use Rattle.lobby_table.proofs.First.{by_first}
use Rattle.lobby_table.proofs.waiting.first_by.Goals as goal

of_found : (o : Option (Bor Seat)) → option_map (λ (s : Bor Seat). s.now.by) o ≡ option_map (λ (s : Seat). s.by) (option_map (λ (s : Bor Seat). s.now) o)
of_found None = refl
of_found (Some s) = refl

pub returns : goal.returns
returns c =
    let is_there = λ (s : Seat). s.game == c.args.game in
    mapped c.find.result c.map.result _ (λ (s : Bor Seat). s.now.by) (λ x y k. search rules) c.map.ensures.cases
    ∙ (of_found c.find.result
    ∙ (ap (option_map (λ (s : Seat). s.by))
    (find_from_yields_List is_there _ _ c.find.result c.find.ensures.ran (YieldsList-from_slice c.args.seats.now cc) (λ x b q k. search (rules, tests)))
    ∙ by_first c.args.game c.args.seats.now))
