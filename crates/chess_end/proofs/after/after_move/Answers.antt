use Rattle.std.proofs.Common.{rules}
use Rattle.chess_end.proofs.after.after_move.Goals as goal

-- dead material, where there is a legal move
pub returns-then-is_listed_dead-clause-some : goal.returns-then-is_listed_dead-clause-some
returns-then-is_listed_dead-clause-some c =
    let drawn = c.drawn_by-then-is_listed_dead.ensures in
    record { article = rw drawn.article (search rules); result = rw (drawn.article, drawn.result) (search rules) }
