use Rattle.std.proofs.Common.{arith, map, take, ◌++◌}
use Rattle.std.proofs.lemmas.List.Elements.{All-push, All-same}
use Rattle.std.proofs.lemmas.List.{take_more}
use Rattle.std.proofs.Common.{ap, sym, ◌∙◌, ◌∷◌, [], ◌<◌, length, List, ℕ}
use Rattle.std.specs.String.{string_bytes}
use Rattle.chess_board.specs.declared.moves.Move.{Move}
use Rattle.text_pgn.specs.Telling.{spaced, coordinate_of, IsBetweenSquares}
use Rattle.text_pgn.proofs.Naming.{spaced_more, put_more}
use Rattle.text_pgn.proofs.telling.push_moves.Goals as goal

pub loop-mv-preserved : goal.loop-mv-preserved
loop-mv-preserved c =
    let moves = c.args.moves.now in
    let i = c.loop-mv.mv-index in
    let m = c.mv-item.result in
    let below : c.loop-mv.mv-index < length c.args.moves.now = omega arith in
    record {
      bytes = put_more (string_bytes c.args.text.now) (spaced (map coordinate_of (take i moves)))
          (string_bytes c.loop-mv.text) (string_bytes c.push_move.new.text) (32 ∷ coordinate_of m)
          c.loop-mv.invariant.bytes c.in_ok-push_move.ensures.bytes
          ∙ ap (λ (t : List ℕ). string_bytes c.args.text.now ++ t) (sym (spaced_more moves i m below c.mv-item.is));
      squares = All-same IsBetweenSquares _ _
          (take_more moves i m below ∙ ap (λ (n : Move). take i moves ++ n ∷ []) (sym c.mv-item.is))
          (All-push IsBetweenSquares (take i moves) m c.loop-mv.invariant.squares c.in_ok-push_move.ensures.squares);
    }
