use Rattle.chess_mates.proofs.Dead.{dead_never}
use Rattle.chess_mates.proofs.material.is_dead.Goals as goal

pub returns-clause-cannot : goal.returns-clause-cannot
returns-clause-cannot c dead side =
    dead_never side c.args.board.now c.rights-valid.ensures.valid (c.is_listed_dead.ensures.0 dead)
