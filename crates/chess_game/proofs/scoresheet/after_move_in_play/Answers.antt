use Rattle.std.proofs.Common.{refl}
use Rattle.chess_game.proofs.EndingLemmas.{no_mate, no_stalemate}
use Rattle.chess_game.proofs.scoresheet.after_move_in_play.Goals as goal

pub returns-then-is_listed_dead-clause-some : goal.returns-then-is_listed_dead-clause-some
returns-then-is_listed_dead-clause-some c =
    let p = c.args.board.now in
    let drawn = c.drawn_by.ensures in
    record {
      article = rw drawn.article
          (no_mate p c.requires, no_stalemate p c.requires, c.is_listed_dead.ensures.0 c.if-is_listed_dead.true);
      result = rw (drawn.article, drawn.result) refl;
    }
