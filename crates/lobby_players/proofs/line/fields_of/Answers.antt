use Rattle.lobby_players.proofs.Words.{for_none, cut_some, cut_none, fields_some, no_name, no_role, no_sum}
use Rattle.lobby_players.proofs.line.fields_of.Goals as goal

pub returns-in_err-name-clause-none : goal.returns-in_err-name-clause-none
returns-in_err-name-clause-none c =
    for_none c.from_residual.result _
    (no_name c.args.line.now (cut_none c.args.line.now c.split_once.result c.split_once.ensures.cases c.in_err-name.was))

pub returns-in_err-role-clause-none : goal.returns-in_err-role-clause-none
returns-in_err-role-clause-none c =
    let one = cut_some c.args.line.now c.split_once.result c.in_ok-name.name c.in_ok-name.rest c.split_once.ensures.cases c.in_ok-name.was in
    for_none c.from_residual-in_err-role.result _
    (no_role c.args.line.now c.in_ok-name.name.now c.in_ok-name.rest.now one
    (cut_none c.in_ok-name.rest.now c.split_once-2.result c.split_once-2.ensures.cases c.in_err-role.was))

pub returns-in_err-sum-clause-none : goal.returns-in_err-sum-clause-none
returns-in_err-sum-clause-none c =
    let one = cut_some c.args.line.now c.split_once.result c.in_ok-name.name c.in_ok-name.rest c.split_once.ensures.cases c.in_ok-name.was in
    let two = cut_some c.in_ok-name.rest.now c.split_once-2.result c.in_ok-role.role c.in_ok-role.rest c.split_once-2.ensures.cases c.in_ok-role.was in
    for_none c.from_residual-in_err-sum.result _
    (no_sum c.args.line.now c.in_ok-name.name.now c.in_ok-name.rest.now c.in_ok-role.role.now c.in_ok-role.rest.now one two
    (cut_none c.in_ok-role.rest.now c.split_once-3.result c.split_once-3.ensures.cases c.in_err-sum.was))

pub returns-clause-some : goal.returns-clause-some
returns-clause-some c =
    let one = cut_some c.args.line.now c.split_once.result c.in_ok-name.name c.in_ok-name.rest c.split_once.ensures.cases c.in_ok-name.was in
    let two = cut_some c.in_ok-name.rest.now c.split_once-2.result c.in_ok-role.role c.in_ok-role.rest c.split_once-2.ensures.cases c.in_ok-role.was in
    let three = cut_some c.in_ok-role.rest.now c.split_once-3.result c.in_ok-sum.sum c.in_ok-sum.full_name c.split_once-3.ensures.cases c.in_ok-sum.was in
    fields_some c.args.line.now c.in_ok-name.name.now c.in_ok-name.rest.now c.in_ok-role.role.now c.in_ok-role.rest.now c.in_ok-sum.sum.now
    c.in_ok-sum.full_name.now one two three
