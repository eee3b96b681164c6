use Rattle.std.proofs.Common.{◌≡◌, ◌∙◌, ap}
use Rattle.chess_bits.specs.Attack.{forward, along}
use Rattle.chess_bits.specs.Square.{IsOnBoard}
use Rattle.chess_board.specs.Legal.{Advances}
use Rattle.chess_moves.specs.Targets.{plain}
use Rattle.chess_moves.proofs.SetForms.{none_set}
use Rattle.chess_moves.proofs.pawns.one_step.Goals as goal

pub returns-in-None : goal.returns-in-None
returns-in-None c =
    let way : c.forward.result ≡ forward c.args.board.now.side = c.forward.ensures ∙ ap forward c.side.ensures in
    let off : ¬ IsOnBoard (along 1 (forward c.args.board.now.side) c.args.from) = rw way at c.in-None.ensures.none in
    rw c.new.ensures
    (none_set (λ s. Advances c.args.board.now (plain c.args.from s)) (λ s on step. off (rw step.there at on)))
