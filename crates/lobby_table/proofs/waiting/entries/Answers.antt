use Rattle.std.proofs.Common.{sym, ◌∙◌, rules}
use borrow.Author.Tests.{tests}
use Rattle.std.proofs.lemmas.Iterator.Consumers.{YieldsList-from_deque, YieldsList-from_filter, count_from_yields_List}
use Rattle.std.proofs.lemmas.List.Sums.{length-filter}
use Rattle.lobby_table.specs.declared.server_line.Due.{Due}
use Rattle.lobby_table.specs.Owed.{owed_of}
use Rattle.lobby_table.specs.Waiting.{is_entry}
use Rattle.lobby_table.proofs.Waited.{count_map}
use Rattle.lobby_table.proofs.waiting.entries.Goals as goal

pub returns : goal.returns
returns c =
    let dues = c.args.queue.now.items in
    count_from_yields_List c.filter.result _ c.count.ensures.ran
    (YieldsList-from_filter _ (λ (due : Due). is_entry c.args.stage c.args.name.now (owed_of due)) (YieldsList-from_deque dues cc) c.filter.ensures.closure
    (λ x r q k. search (rules, tests)))
    ∙ (length-filter (λ (due : Due). is_entry c.args.stage c.args.name.now (owed_of due)) dues ∙ sym (count_map owed_of (is_entry c.args.stage c.args.name.now) dues))
