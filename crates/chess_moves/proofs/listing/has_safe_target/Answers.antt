use Rattle.chess_moves.proofs.Counted.{safe_told, told_safe}
use Rattle.chess_moves.proofs.Safely.{not_told}
use Rattle.chess_moves.proofs.listing.has_safe_target.Goals as goal

pub returns : goal.returns
returns c =
    let p = c.args.board.now in
    not_told c.is_empty.result c.is_empty.ensures (
      λ safe. told_safe p c.args.kind c.args.from c.safe_targets.result c.safe_targets.ensures safe,
      λ some. safe_told p c.args.kind c.args.from c.safe_targets.result c.safe_targets.ensures some,
    )
