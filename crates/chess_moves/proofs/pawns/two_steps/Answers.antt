use Rattle.std.proofs.Common.{◌∙◌, ap, sym}
use Rattle.chess_board.specs.Legal.{pawn_rank, AdvancesTwo}
use Rattle.chess_moves.specs.Targets.{plain}
use Rattle.chess_moves.proofs.SetForms.{none_set}
use Rattle.chess_moves.proofs.pawns.two_steps.Goals as goal

pub returns-then-rank-pawn_rank : goal.returns-then-rank-pawn_rank
returns-then-rank-pawn_rank c =
    rw c.new.ensures
    (none_set (λ s. AdvancesTwo c.args.board.now (plain c.args.from s))
    (λ s on two. c.if-rank-pawn_rank.true
    (c.rank.ensures.rank ∙ two.first ∙ sym (c.pawn_rank.ensures ∙ ap pawn_rank c.side-side.ensures))))
