use Rattle.std.proofs.Common.{◌≡◌, ◌∙◌, ◌+◌, ◌++◌, ◌∷◌, [], true, take, ap, sym}
use Rattle.std.proofs.lemmas.List.{take_more}
use Rattle.std.specs.String.{string_bytes}
use Rattle.chess_board.specs.declared.moves.Move.{Move}
use Rattle.chess_board.specs.Next.{next}
use Rattle.chess_board.specs.Line.{position_after}
use Rattle.chess_board.proofs.LineLemmas.{position_after-push}
use Rattle.chess_text.specs.Game.{numbers_before, AddsMove}
use Rattle.chess_text.proofs.GameLemmas.{is_first_after, is_first_after-more, legal_at, room_at, tokens_more}
use Rattle.chess_text.proofs.game.push_moves.Goals as goal

pub push_move-requires-clause-legal : goal.push_move-requires-clause-legal
push_move-requires-clause-legal c =
    rw (c.loop-mv.invariant.at, c.mv-item.is)
    (legal_at c.args.start.now c.args.moves.now c.loop-mv.mv-index c.mv-item.result c.requires.legal
    c.loop-mv-test.true)

pub apply-board-requires-clause-legal : goal.apply-board-requires-clause-legal
apply-board-requires-clause-legal c =
    rw (c.loop-mv.invariant.at, c.mv-item.is)
    (legal_at c.args.start.now c.args.moves.now c.loop-mv.mv-index c.mv-item.result c.requires.legal
    c.loop-mv-test.true)

pub apply-board-requires-clause-halfmove : goal.apply-board-requires-clause-halfmove
apply-board-requires-clause-halfmove c =
    rw c.loop-mv.invariant.at
    (room_at c.args.start.now c.args.moves.now c.loop-mv.mv-index c.requires.room c.loop-mv-test.true).0

pub apply-board-requires-clause-fullmove : goal.apply-board-requires-clause-fullmove
apply-board-requires-clause-fullmove c =
    rw c.loop-mv.invariant.at
    (room_at c.args.start.now c.args.moves.now c.loop-mv.mv-index c.requires.room c.loop-mv-test.true).1

pub loop-mv-preserved : goal.loop-mv-preserved
loop-mv-preserved c =
    let p = c.args.start.now in
    let moves = c.args.moves.now in
    let i = c.loop-mv.mv-index in
    let m = c.mv-item.result in
    let at = c.loop-mv.invariant.at in
    let before = c.loop-mv.invariant.added in
    let front = string_bytes c.args.text.now in
    let taken : take (i + 1) moves ≡ take i moves ++ m ∷ [] =
    take_more moves i m c.loop-mv-test.true ∙ ap (λ (x : Move). take i moves ++ x ∷ []) (sym c.mv-item.is) in
    let added : AddsMove (position_after p (take i moves)) (is_first_after true (take i moves)) m front before.tokens
    (string_bytes c.push_move.new.text) c.in_ok-width.width =
    rw (sym at, sym c.loop-mv.invariant.first) (c.in_ok-width.ensures.added front before.tokens before.under_way) in
    rw taken (record {
      at = c.apply-board.ensures.next ∙ (ap (λ q. next q m) at ∙ sym (position_after-push p (take i moves) m));
      first = sym (is_first_after-more true (take i moves) m);
      added = record {
        tokens = before.tokens ++ (numbers_before (position_after p (take i moves)).side
            (is_first_after true (take i moves)) (position_after p (take i moves)).fullmove ++ added.san ∷ []);
        are = tokens_more p true (take i moves) before.tokens m added.san before.are added.is_san;
        under_way = added.under_way;
      };
      width = c.in_ok-width.ensures.width;
    })
