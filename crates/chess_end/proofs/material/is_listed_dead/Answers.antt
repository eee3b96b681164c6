use Rattle.chess_end.proofs.Dead.{dead-then, dead-else}
use Rattle.chess_end.proofs.material.is_listed_dead.Goals as goal

pub returns-then-are_kings_and_knight : goal.returns-then-are_kings_and_knight
returns-then-are_kings_and_knight c =
    rw (← c.men-men.ensures) (dead-then c.men-men.result.now c.are_kings_and_knight.result c.if-are_kings_and_knight.true
    c.are_kings_and_knight.ensures)

pub returns-else-are_kings_and_knight : goal.returns-else-are_kings_and_knight
returns-else-are_kings_and_knight c =
    rw (← c.men-men.ensures) (dead-else c.men-men.result.now c.are_kings_and_knight.result
    c.are_kings_and_bishops.result c.if-are_kings_and_knight.false c.are_kings_and_knight.ensures
    c.are_kings_and_bishops.ensures)
