use Rattle.std.proofs.Common.{◌≡◌, ◌∙◌, ◌+◌, ◌++◌, ◌∷◌, [], take, ap, sym}
use Rattle.std.proofs.lemmas.List.{take_more, take_all}
use Rattle.chess_board.specs.declared.moves.Move.{Move}
use Rattle.chess_board.specs.Position.{Position}
use Rattle.chess_board.specs.Legal.{IsLegal}
use Rattle.chess_board.specs.Next.{next}
use Rattle.chess_board.specs.Line.{position_after}
use Rattle.chess_board.proofs.LineLemmas.{position_after-push, IsLegalLine-push}
use Rattle.chess_mates.proofs.lines.is_mating_line.Goals as goal

pub loop-mv-preserved : goal.loop-mv-preserved
loop-mv-preserved c =
    let p : Position = c.args.board.now in
    let moves = c.args.moves.now in
    let i = c.loop-mv.mv-index in
    let m = c.mv-item.result in
    let at = c.loop-mv.invariant.at in
    let taken : take (i + 1) moves ≡ take i moves ++ m ∷ [] =
    take_more moves i m c.loop-mv-test.true ∙ ap (λ (x : Move). take i moves ++ x ∷ []) (sym c.mv-item.is) in
    let legal : IsLegal (position_after p (take i moves)) m = rw at at c.in-Some.ensures.legal in
    rw taken (record {
      at = c.in-Some.ensures.next
          ∙ (ap (λ (q : Position). next q m) at ∙ sym (position_after-push p (take i moves) m));
      legal = IsLegalLine-push p (take i moves) m c.loop-mv.invariant.legal legal;
    })

pub returns : goal.returns
returns c mated =
    let moves = c.args.moves.now in
    let i = c.loop-mv.mv-index in
    let all : take i moves ≡ moves = take_all i moves c.loop-mv-test.false in
    let legal = rw all at c.loop-mv.invariant.legal in
    let at = rw all at c.loop-mv.invariant.at in
    record { legal = legal; mated = rw at at (c.is_mated_by.ensures.0 mated) }
