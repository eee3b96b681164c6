use Rattle.std.proofs.Common.{rules}
use Rattle.std.proofs.lemmas.Fn.{filter_same}
use Rattle.lobby_table.specs.declared.watching.Watch.{Watch}
use Rattle.lobby_table.specs.Visitors.{who_in, acting}
use Rattle.lobby_table.proofs.watching.keep_watches.Goals as goal

pub returns : goal.returns
returns c = filter_same _ (λ (w : Watch). acting (who_in c.args.visitors.now) w.by) _ (λ x b f' k. search rules) _ _ c.retain.ensures.filtered
