use Rattle.std.specs.Prelude.{◌⊎◌}
use Rattle.chess_bits.specs.declared.men.Kind.TheVariants.{King}
use Rattle.chess_bits.specs.Table.{union}
use Rattle.chess_bits.proofs.SetLemmas.{IsSetOf-union}
use Rattle.chess_board.specs.declared.castling.Wing.TheVariants as wing
use Rattle.chess_board.specs.Legal.{IsPieceMove, Castles}
use Rattle.chess_moves.specs.Targets.{plain}
use Rattle.chess_moves.proofs.targets.king_targets.Goals as goal

pub returns : goal.returns
returns c =
    let p = c.args.board.now in
    let from = c.args.from in
    rw (c.union.ensures, c.union-castled.ensures)
    (IsSetOf-union c.piece_targets.result (union c.castling_target.result c.castling_target-2.result)
    (λ to. IsPieceMove p (plain from to) King)
    (λ to. Castles p (plain from to) wing.King ⊎ Castles p (plain from to) wing.Queen) c.piece_targets.ensures
    (IsSetOf-union c.castling_target.result c.castling_target-2.result (λ to. Castles p (plain from to) wing.King)
    (λ to. Castles p (plain from to) wing.Queen) c.castling_target.ensures c.castling_target-2.ensures))
