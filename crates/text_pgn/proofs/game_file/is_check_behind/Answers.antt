use Rattle.std.proofs.Common.{ℕ, List, map, ap, ◌∙◌, subst}
use Rattle.std.specs.Borrow.{Bor}
use Rattle.text_pgn.specs.Rows.{last_row, position_in}
use Rattle.text_pgn.specs.Spectators.{IsCheckAt}
use Rattle.text_pgn.proofs.game_file.is_check_behind.Goals as goal

pub returns : goal.returns
returns c =
    let now = λ (row : Bor (List ℕ)). row.now in
    subst (λ (fen : List ℕ). IsCheckAt c.is_check_at.result fen)
    (c.position_in.ensures
    ∙ ap position_in (c.last_row.ensures ∙ ap last_row (ap (map now) c.as_slice.ensures.value ∙ c.in_ok-rows.ensures)))
    c.is_check_at.ensures
