use Rattle.std.proofs.Common.{true}
use Rattle.chess_end.proofs.Dead.{bishops-else}
use Rattle.chess_end.proofs.material.are_kings_and_bishops.Goals as goal

pub returns-then-are_bishops_on : goal.returns-then-are_bishops_on
returns-then-are_bishops_on c = (λ e. (true, c.are_bishops_on.ensures.0 e), λ _. c.if-are_bishops_on.true)

pub returns-else-are_bishops_on : goal.returns-else-are_bishops_on
returns-else-are_bishops_on c =
    bishops-else c.args.men.now c.are_bishops_on.result c.are_bishops_on-else-are_bishops_on.result
    c.if-are_bishops_on.false c.are_bishops_on.ensures c.are_bishops_on-else-are_bishops_on.ensures
