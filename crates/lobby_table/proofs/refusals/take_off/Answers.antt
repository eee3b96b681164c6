use Rattle.std.proofs.Common.{not, ◌==◌, rules}
use Rattle.std.proofs.lemmas.Fn.{filter_same}
use Rattle.lobby_table.specs.declared.refusals.RefusedActs.{RefusedActs}
use Rattle.lobby_table.proofs.refusals.take_off.Goals as goal

pub returns : goal.returns
returns c = filter_same _ (λ (r : RefusedActs). not (r.game == c.args.game)) _ (λ x b f' k. search rules) _ _ c.retain.ensures.filtered
