use Rattle.std.proofs.Common.{◌≡◌, ◌∙◌, ◌+◌, ◌++◌, ◌∷◌, [], take, ap, sym}
use Rattle.std.proofs.lemmas.Bool.{false≢true}
use Rattle.std.proofs.lemmas.List.{take_more}
use Rattle.chess_board.specs.declared.moves.Move.{Move}
use Rattle.chess_board.specs.Legal.{IsLegal}
use Rattle.chess_board.specs.Next.{next}
use Rattle.chess_board.specs.Line.{position_after}
use Rattle.chess_board.proofs.LineLemmas.{position_after-push, IsLegalLine-push}
use Rattle.chess_text.proofs.GameLemmas.{legal_at, room_at, room_more}
use Rattle.chess_text.proofs.game.is_playable.Goals as goal

pub returns-then-not-can_play : goal.returns-then-not-can_play
returns-then-not-can_play c = (
  λ e. absurd (false≢true e),
  λ both.
      let p = c.args.start.now in
      let i = c.loop-mv.mv-index in
      let below = c.loop-mv-test.true in
      let legal : IsLegal c.loop-mv.board c.mv-item.result =
      rw (c.loop-mv.invariant.at, c.mv-item.is) (legal_at p c.args.moves.now i c.mv-item.result both.0 below) in
      let room = room_at p c.args.moves.now i both.1 below in
      let yes_it_can = c.can_play.ensures.1 (legal, rw c.loop-mv.invariant.at room.0, rw c.loop-mv.invariant.at room.1) in
      absurd (false≢true (sym c.if-not-can_play.true ∙ yes_it_can)),
)

pub loop-mv-preserved : goal.loop-mv-preserved
loop-mv-preserved c =
    let p = c.args.start.now in
    let moves = c.args.moves.now in
    let i = c.loop-mv.mv-index in
    let m = c.mv-item.result in
    let can = c.can_play.ensures.0 c.if-not-can_play.false in
    let at = c.loop-mv.invariant.at in
    let taken : take (i + 1) moves ≡ take i moves ++ m ∷ [] =
    take_more moves i m c.loop-mv-test.true ∙ ap (λ (x : Move). take i moves ++ x ∷ []) (sym c.mv-item.is) in
    let legal : IsLegal (position_after p (take i moves)) m = rw at at can.0 in
    rw taken (record {
      at = c.apply-board.ensures.next ∙ (ap (λ q. next q m) at ∙ sym (position_after-push p (take i moves) m));
      legal = IsLegalLine-push p (take i moves) m c.loop-mv.invariant.legal legal;
      room = room_more p (take i moves) m c.loop-mv.invariant.room (rw at at can.1) (rw at at can.2);
    })
