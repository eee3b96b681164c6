use Rattle.std.proofs.Common.{◌∙◌, ap, not}
use Rattle.std.proofs.lemmas.Bool.Decides.{same_from_decides}
use Rattle.chess_board.specs.Position.{is_in_check}
use Rattle.chess_board.proofs.Deciding.{Decides-is_in_check}
use Rattle.chess_board.proofs.draft.Draft.has_no_check.Goals as goal

pub returns : goal.returns
returns c =
    ap not (same_from_decides c.is_in_check.result (is_in_check c.args.self.now.men c.other.result)
    c.is_in_check.ensures
    (Decides-is_in_check c.args.self.now.men c.other.result)
    ∙ ap (is_in_check c.args.self.now.men) c.other.ensures)
