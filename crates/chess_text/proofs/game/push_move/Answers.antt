use Rattle.std.proofs.Common.{◌++◌, ◌∷◌, [], sym, append_assoc}
use Rattle.std.specs.String.{string_bytes}
use Rattle.std.proofs.lemmas.Result.{IfOk-weaker}
use Rattle.chess_text.specs.Game.{numbers_before, AddsMove}
use Rattle.chess_text.proofs.game.push_move.Goals as goal

pub returns-clause-added : goal.returns-clause-added
returns-clause-added c = λ front tokens before.
    let p = c.args.board.now in
    let numbers = numbers_before p.side c.args.is_first p.fullmove in
    let san = c.write.result.bytes in
    let numbered = c.in_ok-width.ensures.under_way front tokens before in
    let told = c.push_token.ensures.under_way front (tokens ++ numbers) numbered in
    IfOk-weaker c.push_token.result _ (AddsMove p c.args.is_first c.args.mv front tokens
    (string_bytes c.push_token.new.text)) (λ wide under_way. record {
      san = san;
      is_san = c.write.ensures.san;
      under_way = rw (sym (append_assoc tokens numbers (san ∷ []))) (rw c.as_str.ensures.value at under_way);
    }) told
