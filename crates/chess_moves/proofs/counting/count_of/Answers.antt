use Rattle.std.proofs.Common.{◌∙◌, sym}
use Rattle.std.proofs.lemmas.Bool.{false≢true}
use Rattle.chess_moves.proofs.Counted.{length-other}
use Rattle.chess_moves.proofs.counting.count_of.Goals as goal

pub returns-else-is_pawn : goal.returns-else-is_pawn
returns-else-is_pawn c =
    let p = c.args.board.now in
    c.count.ensures
    ∙ sym (length-other p c.args.from c.args.kind c.safe_targets-safe.result c.requires.masks.valid.whole
    c.requires.own (λ pawn. false≢true (c.if-is_pawn.ensures.1 pawn)) c.safe_targets-safe.ensures)
