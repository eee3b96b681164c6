use Rattle.std.proofs.Common.{not, ◌==◌, rules}
use Rattle.std.proofs.lemmas.Fn.{filter_same}
use Rattle.lobby_talk.specs.declared.kept_answer.KeptAnswer.{KeptAnswer}
use Rattle.lobby_talk.proofs.kept.take_off.Goals as goal

pub returns : goal.returns
returns c =
    filter_same _ (λ (kept : KeptAnswer). not (kept.game == c.args.game)) _ (λ x b f' k. search rules) _ _ c.retain.ensures.filtered
