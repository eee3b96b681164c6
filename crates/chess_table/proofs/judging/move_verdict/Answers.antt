use Rattle.std.proofs.Common.{ℕ, ◌≡◌, ◌++◌, List, Option, None, sym, ap, ◌∙◌}
use Rattle.chess_bits.specs.declared.men.Colour.{Colour}
use Rattle.chess_board.specs.declared.moves.Move.{Move}
use Rattle.rec_codec.specs.declared.record.Event.TheVariants as event
use Rattle.rec_codec.specs.Records.{entry}
use Rattle.chess_entry.specs.declared.verdicts.Verdict.{Verdict}
use Rattle.chess_entry.specs.declared.verdicts.Verdict.TheVariants.{Enter}
use Rattle.chess_entry.specs.State.{GameState, TableState}
use Rattle.chess_entry.specs.Verdict.{Check, while_running, in_turn, for_move, move_entered, move_verdict}
use Rattle.chess_table.specs.Checks.{stopped_by}
use Rattle.chess_table.proofs.CheckLemmas.{stops, passes, stops_last, passes_last}
use Rattle.chess_table.proofs.judging.move_verdict.Goals as goal

-- the checks of the turn
abbrev turn : ℕ → ℕ → GameState → Colour → List Check
turn at ply game side = while_running game at ++ in_turn game side ply

-- no check stops the move
entered : (table : TableState) (at ply : ℕ) (mv : Option Move) (game : GameState) (side : Colour)
    (by_turn by_move : Option Verdict) → by_turn ≡ stopped_by (turn at ply game side) → by_turn ≡ None
    → by_move ≡ stopped_by (for_move table game mv) → by_move ≡ None
    → move_verdict table at ply mv game side ≡ move_entered game at mv
entered table at ply mv game side by_turn by_move turned goes_on moved may_move =
    passes by_turn (turn at ply game side) (for_move table game mv) (move_entered game at mv) turned goes_on
    ∙ passes_last by_move (for_move table game mv) (move_entered game at mv) moved may_move

pub returns-in-Some : goal.returns-in-Some
returns-in-Some c =
    let game = c.args.game.now in
    let mv = c.args.mv.now in
    sym (stops c.while_in_turn.result (turn c.args.at c.args.ply game c.args.side) (for_move c.args.table.now game mv)
    (move_entered game c.args.at mv) c.in-Some.stop c.while_in_turn.ensures c.in-Some.is)

pub returns-in-Some-for_move : goal.returns-in-Some-for_move
returns-in-Some-for_move c =
    let game = c.args.game.now in
    let mv = c.args.mv.now in
    let last = move_entered game c.args.at mv in
    sym (passes c.while_in_turn.result (turn c.args.at c.args.ply game c.args.side)
    (for_move c.args.table.now game mv) last c.while_in_turn.ensures c.in_default.is
    ∙ stops_last c.for_move.result (for_move c.args.table.now game mv) last c.in-Some-for_move.stop
    c.for_move.ensures c.in-Some-for_move.is)

pub returns-in-None : goal.returns-in-None
returns-in-None c =
    let game = c.args.game.now in
    sym (entered c.args.table.now c.args.at c.args.ply c.args.mv.now game c.args.side c.while_in_turn.result
    c.for_move.result c.while_in_turn.ensures c.in_default.is c.for_move.ensures c.in_default-for_move.is
    ∙ ap (move_entered game c.args.at) c.in-None.is)

pub returns-in-Some-mv : goal.returns-in-Some-mv
returns-in-Some-mv c =
    let game = c.args.game.now in
    sym (entered c.args.table.now c.args.at c.args.ply c.args.mv.now game c.args.side c.while_in_turn.result
    c.for_move.result c.while_in_turn.ensures c.in_default.is c.for_move.ensures c.in_default-for_move.is
    ∙ ap (move_entered game c.args.at) c.in-Some-mv.is
    ∙ sym (c.entry_verdict.ensures ∙ ap (λ (n : ℕ). Enter (entry game.number c.args.at
    (event.Move (record { mv = c.in-Some-mv.mv; ply = n })))) c.ply.ensures.ply))
