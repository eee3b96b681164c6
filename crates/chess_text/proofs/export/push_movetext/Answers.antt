use Rattle.std.proofs.Common.{◌∙◌, ◌++◌, ◌∷◌, [], List, ℕ, ap, arith}
use Rattle.std.specs.String.{string_bytes}
use Rattle.chess_text.specs.Pgn.{result_text}
use Rattle.chess_text.proofs.Lines.{ended, pushed_filled}
use Rattle.chess_text.proofs.export.push_movetext.Goals as goal

pub returns : goal.returns
returns c =
    let front : List ℕ = string_bytes c.args.text.now in
    let added = c.in_ok-width.ensures.added in
    let last : List ℕ = result_text c.args.game.now.ending in
    let under_way = rw c.result_code.ensures at (c.in_ok-push_token.ensures.under_way front added.tokens added.under_way) in
    let text = ended front (added.tokens ++ (last ∷ [])) (string_bytes c.push_token.new.text)
    c.in_ok-push_token.field-0 under_way (pushed_filled added.tokens last) in
    record {
      tokens = added.tokens;
      are = added.are;
      movetext = text.movetext;
      is_movetext = text.is_movetext;
      put = c.in_ok-push.ensures.bytes
          ∙ (ap (λ t. string_bytes c.push_token.new.text ++ t) (c.in_ok-push.ensures.ascii (omega arith)) ∙ text.written);
    }
