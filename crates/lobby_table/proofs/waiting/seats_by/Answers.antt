use Rattle.std.proofs.Common.{◌∙◌, rules}
use borrow.Author.Tests.{tests}
use Rattle.std.proofs.lemmas.Iterator.{YieldsList-from_slice}
use Rattle.std.proofs.lemmas.Iterator.Consumers.{YieldsList-from_filter, count_from_yields_List}
use Rattle.std.proofs.lemmas.List.Sums.{length-filter}
use Rattle.lobby_table.specs.Waiting.{is_seat}
use Rattle.lobby_table.proofs.waiting.seats_by.Goals as goal

pub returns : goal.returns
returns c =
    count_from_yields_List c.filter.result _ c.count.ensures.ran
    (YieldsList-from_filter _ (is_seat c.args.stage c.args.name.now) (YieldsList-from_slice c.args.seats.now cc) c.filter.ensures.closure
    (λ x r q k. search (rules, tests)))
    ∙ length-filter (is_seat c.args.stage c.args.name.now) c.args.seats.now
