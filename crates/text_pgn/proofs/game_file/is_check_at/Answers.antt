use Rattle.text_pgn.proofs.Checked.{check_read, check_of_none}
use Rattle.text_pgn.proofs.game_file.is_check_at.Goals as goal

pub returns-in-Ok : goal.returns-in-Ok
returns-in-Ok c =
    check_read c.fen_read.result c.args.fen.now c.in-Ok.board c.in_check.result c.fen_read.ensures.read c.in-Ok.is
    c.in_check.ensures

pub returns-in-Err : goal.returns-in-Err
returns-in-Err c = check_of_none c.fen_read.result c.args.fen.now _ _ c.fen_read.ensures.read c.in-Err.is
