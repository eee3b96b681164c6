use Rattle.std.proofs.Common.{not, ◌==◌, rules}
use Rattle.std.proofs.lemmas.Fn.{filter_same}
use Rattle.lobby_table.specs.declared.watching.Watch.{Watch}
use Rattle.lobby_table.proofs.watching.unwatch_all.Goals as goal

pub returns : goal.returns
returns c = filter_same _ (λ (w : Watch). not (w.by == c.args.by)) _ (λ x b f' k. search rules) _ _ c.retain.ensures.filtered
