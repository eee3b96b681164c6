use Rattle.std.proofs.Common.{◌∙◌, sym, ap, length}
use Rattle.chess_bits.specs.Table.{empty}
use Rattle.chess_attacks.proofs.Listed.{length-empty}
use Rattle.chess_moves.proofs.FreeMen.{passing_from, no_passing}
use Rattle.chess_moves.proofs.free.passing.Goals as goal

pub returns-in-None-clause-passing : goal.returns-in-None-clause-passing
returns-in-None-clause-passing c = λ s t on e reaches. absurd (no_passing c.args.board.now t (sym c.in-None.ensures) e)

pub returns-in-Some-clause-passing : goal.returns-in-Some-clause-passing
returns-in-Some-clause-passing c = λ s t on e reaches.
    passing_from c.args.board.now c.pawn.result s t c.in-Some.target on c.number-on_board.ensures.on_board
    (rw (c.other.ensures, c.side.ensures) at (c.pawn.ensures empty)) (sym c.in-Some.ensures) e reaches

pub returns-in-None-clause-whole : goal.returns-in-None-clause-whole
returns-in-None-clause-whole c = ap length c.new.ensures ∙ length-empty

pub returns-in-Some-clause-whole : goal.returns-in-Some-clause-whole
returns-in-Some-clause-whole c = (c.pawn.ensures empty).whole
