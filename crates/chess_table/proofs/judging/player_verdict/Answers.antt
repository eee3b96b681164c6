use Rattle.std.proofs.Common.{Option, sym, ap, ◌∙◌}
use Rattle.chess_entry.specs.State.{GameState}
use Rattle.chess_entry.specs.Verdict.{in_game, by_side, side_of}
use Rattle.chess_table.specs.Asked.{asked_verdict}
use Rattle.chess_table.proofs.CheckLemmas.{other-reads}
use Rattle.chess_table.proofs.judging.player_verdict.Goals as goal

pub returns-in-Some : goal.returns-in-Some
returns-in-Some c =
    let table = c.args.table.now in
    let name = c.args.name.now in
    c.seat_verdict.ensures
    ∙ ap (λ (o : Option GameState). in_game (λ game. by_side
    (asked_verdict table c.args.at c.in-Some.asked game) (side_of name game)) o) c.requires.found
    ∙ sym (c.in-Some.ensures.some table c.args.at name c.args.named.now.start)

pub read_verdict-requires : goal.read_verdict-requires
read_verdict-requires c =
    other-reads c.args.act.now c.in_default.ensures.none c.in_default-act.not-NewGame c.in_default-act.not-Join
