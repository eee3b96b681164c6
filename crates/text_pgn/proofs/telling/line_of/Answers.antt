use Rattle.std.proofs.Common.{ap, sym, ◌∙◌, ◌++◌, ℕ, List, map, codes}
use Rattle.std.proofs.lemmas.List.Elements.{All-same}
use Rattle.std.specs.String.{string_bytes}
use Rattle.chess_board.specs.declared.moves.Move.{Move}
use Rattle.text_pgn.specs.Telling.{spaced, coordinate_of, IsBetweenSquares}
use Rattle.text_pgn.proofs.Naming.{tells}
use Rattle.text_pgn.proofs.telling.line_of.Goals as goal

pub returns : goal.returns
returns c =
    let sign = c.check_text.result.now in
    let slice = c.as_slice.result.now in
    let items = c.legal_moves-moves.result.items in
    tells (string_bytes c.push_moves.new.text) sign c.args.board.now items c.in_check-is_check.result
    c.in_check-is_check.ensures c.legal_moves-moves.ensures
    (All-same IsBetweenSquares items slice (sym c.as_slice.ensures.value) c.in_ok-push_moves.ensures.squares)
    c.check_text.ensures
    (c.in_ok-push_moves.ensures.bytes
    ∙ (ap (λ (t : List ℕ). t ++ spaced (map coordinate_of slice))
    (c.in_ok-push_str.ensures.bytes ∙ ap (λ (t : List ℕ). t ++ sign) c.in_ok-text.ensures.ok)
    ∙ ap (λ (ms : List Move). (codes "moves " ++ sign) ++ spaced (map coordinate_of ms)) c.as_slice.ensures.value))
