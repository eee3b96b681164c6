use Rattle.std.proofs.Common.{ℕ, sym, ap, ◌∙◌}
use Rattle.std.specs.Prelude.{max}
use Rattle.chess_entry.specs.Parsed.{parsed}
use Rattle.chess_entry.specs.Verdict.{effective, name_or_none}
use Rattle.chess_table.proofs.CheckLemmas.{read-checked, named-checked}
use Rattle.chess_table.proofs.judging.checked.Goals as goal

pub returns-then-is_read : goal.returns-then-is_read
returns-then-is_read c =
    let table = c.args.table.now in
    let command = c.args.command.now in
    let tells = parsed c.args.named.now.start c.args.named.now.mv in
    read-checked table command tells c.read_verdict.result c.if-command-gt-GREATEST_MOMENT.false
    (sym c.is_read.ensures ∙ c.if-is_read.true)
    (c.read_verdict.ensures table c.requires.found (effective table command.at) (name_or_none command.who) tells)

pub returns : goal.returns
returns c =
    let table = c.args.table.now in
    let command = c.args.command.now in
    let tells = parsed c.args.named.now.start c.args.named.now.mv in
    named-checked table command tells c.player_verdict.result c.max-at.result c.in-Some.name
    c.if-command-gt-GREATEST_MOMENT.false c.in-Some.is
    (c.max-at.ensures ∙ ap (λ (n : ℕ). max n command.at) c.moment.ensures) c.player_verdict.ensures
