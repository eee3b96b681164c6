use Rattle.std.proofs.Common.{rules, tests}
use Rattle.std.proofs.lemmas.Iterator.Consumers.{YieldsList-from_first}
use Rattle.std.proofs.lemmas.Iterator.Search.{any_from_yields_List}
use Rattle.lobby_web.specs.Answering.{is_tag_of}
use Rattle.lobby_web.specs.Listed.{elements_left}
use Rattle.lobby_web.proofs.answer.lists_tag.Goals as goal

pub returns : goal.returns
returns c =
    any_from_yields_List (is_tag_of c.args.file.now) _ _ _ c.any.ensures.ran
    (YieldsList-from_first (λ x. x.now) elements_left _ c.new.ensures) (λ x b q k. search (rules, tests))
