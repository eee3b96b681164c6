use Rattle.std.proofs.Common.{◌==◌, rules}
use borrow.Author.Tests.{tests}
use Rattle.std.proofs.lemmas.Iterator.{YieldsList-from_slice}
use Rattle.std.proofs.lemmas.Iterator.Consumers.{YieldsList-from_filter, count_from_yields_List}
use Rattle.lobby_table.specs.declared.watching.Watch.{Watch}
use Rattle.lobby_table.proofs.rooms.watching.Goals as goal

pub returns : goal.returns
returns c =
    count_from_yields_List c.filter.result _ c.count.ensures.ran
    (YieldsList-from_filter _ (λ (w : Watch). w.game == c.args.game) (YieldsList-from_slice c.args.watches.now cc) c.filter.ensures.closure
    (λ x r q k. search (rules, tests)))
