use Rattle.std.proofs.Common.{List, [], ◌∷◌, ◌≡◌, ℕ, ap, ◌∙◌, decimal}
use Rattle.std.specs.Prelude.{codes, Some}
use Rattle.chess_end.specs.declared.ending.Ending.{Ending}
use Rattle.chess_entry.specs.State.{position_of}
use Rattle.chess_game.proofs.EndingLemmas.{flag_ending-answered}
use Rattle.chess_answer.specs.Fields.{with_fields, end_fields}
use Rattle.chess_answer.proofs.acts.fallen_line.Goals as goal

pub returns : goal.returns
returns c =
    let game = c.args.game.now in
    let answered = flag_ending-answered (position_of game) c.board-board.result.now c.side.result
    c.flag_result-ending.result c.board-board.ensures c.side.ensures c.flag_result-ending.ensures.result
    c.flag_result-ending.ensures.article in
    let numbered : c.push_number_field.new.text.bytes ≡ with_fields (codes "fallen") (decimal game.number ∷ []) = cc in
    c.push_ending.ensures.bytes
    ∙ (ap (λ (text : List ℕ). with_fields text (end_fields (Some c.flag_result-ending.result))) numbered
    ∙ ap (λ (e : Ending). with_fields (codes "fallen") (decimal game.number ∷ end_fields (Some e))) answered)
