use Rattle.std.proofs.Common.{sym, subst, List}
use Rattle.chess_board.specs.declared.moves.Move.{Move}
use Rattle.chess_table.proofs.Promotions.{AllBecome, AllBecome-legal}
use Rattle.chess_table.proofs.PartLemmas.{game_written, game_begun}
use Rattle.chess_table.proofs.parts.writing.push_game.Goals as goal

pub put_moves-requires : goal.put_moves-requires
put_moves-requires c =
    let game = c.args.game.now in
    subst (λ (ms : List Move). AllBecome ms) (sym c.moves.ensures)
    (AllBecome-legal game.start game.moves c.number.ensures.game.played.line.legal)

pub returns-clause-written : goal.returns-clause-written
returns-clause-written c =
    game_written c.put_moves.result c.args.records.now.items c.put_head.new.records.items
    c.put_moves.new.records.items c.args.game.now c.number.result c.moves.result.now c.in_ok-put_head.ensures.ok
    c.number.ensures.number c.moves.ensures c.put_moves.ensures.ok

pub returns-clause-refused : goal.returns-clause-refused
returns-clause-refused c =
    game_begun c.put_moves.result c.args.records.now.items c.put_head.new.records.items
    c.put_moves.new.records.items c.args.game.now c.in_ok-put_head.ensures.ok c.put_moves.ensures.err
