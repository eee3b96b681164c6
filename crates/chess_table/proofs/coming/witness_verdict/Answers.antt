use Rattle.std.proofs.Common.{sym, ap, ◌∙◌}
use Rattle.rec_codec.specs.declared.record.Event.{Event}
use Rattle.chess_entry.specs.State.{position_of}
use Rattle.chess_table.specs.Witness.{witness_verdict}
use Rattle.chess_table.proofs.coming.witness_verdict.Goals as goal

pub returns-in-Fallen : goal.returns-in-Fallen
returns-in-Fallen c =
    let game = c.args.game.now in
    c.flag_verdict.ensures (position_of game).side
    ∙ ap (λ (ev : Event). witness_verdict c.args.table.now c.args.at game ev) (sym c.in-Fallen.is)

pub returns-in-Drop : goal.returns-in-Drop
returns-in-Drop c =
    let game = c.args.game.now in
    c.drop_verdict.ensures (position_of game).side
    ∙ ap (λ (ev : Event). witness_verdict c.args.table.now c.args.at game ev) (sym c.in-Drop.is)
