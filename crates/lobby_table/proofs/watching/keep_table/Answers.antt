use Rattle.std.proofs.Common.{ℕ, rules}
use Rattle.std.proofs.lemmas.Fn.{filter_same}
use Rattle.lobby_table.specs.Visitors.{who_in, acting}
use Rattle.lobby_table.proofs.watching.keep_table.Goals as goal

pub returns : goal.returns
returns c = filter_same _ (λ (one : ℕ). acting (who_in c.args.visitors.now) one) _ (λ x b f' k. search rules) _ _ c.retain.ensures.filtered
