use Rattle.std.proofs.Common.{ℕ, not, ◌==◌, rules}
use Rattle.std.proofs.lemmas.Fn.{filter_same}
use Rattle.lobby_table.proofs.watching.rise.Goals as goal

pub returns : goal.returns
returns c = filter_same _ (λ (one : ℕ). not (one == c.args.by)) _ (λ x b f' k. search rules) _ _ c.retain.ensures.filtered
