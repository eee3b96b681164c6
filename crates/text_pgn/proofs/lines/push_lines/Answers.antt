use Rattle.std.proofs.Common.{◌≡◌, ◌∙◌, ℕ, List, map, take, get_or, ap, sym, subst, arith}
use Rattle.std.proofs.lemmas.List.{take_all, get_or-map, length-map}
use Rattle.chess_text.specs.Movetext.{IsToken, IsUnderWay}
use Rattle.chess_text.proofs.Lines.{ended}
use Rattle.text_pgn.proofs.Fits.{token_at, laid_some}
use Rattle.text_pgn.proofs.lines.push_lines.Goals as goal

pub push_token-requires-clause-token : goal.push_token-requires-clause-token
push_token-requires-clause-token c =
    let tokens = c.args.tokens.now in
    let i : ℕ = c.loop-token.token-index in
    let item = c.token-item.result in
    let texts : List (List ℕ) = map (λ t. t.items) tokens in
    let same : get_or texts i item.items ≡ c.as_slice.result.now =
    get_or-map (λ t. t.items) tokens i item item.items c.loop-token-test.true
    ∙ (ap (λ t. t.items) (sym c.token-item.is) ∙ sym c.as_slice.ensures.value) in
    subst IsToken same (token_at texts i item.items c.requires (omega (arith, length-map tokens (λ t. t.items))))

pub returns : goal.returns
returns c =
    let tokens = c.args.tokens.now in
    let front : List ℕ = c.args.out.now.items in
    let texts : List (List ℕ) = map (λ t. t.items) tokens in
    let at = c.loop-token in
    let all : take at.token-index tokens ≡ tokens = take_all at.token-index tokens (omega arith) in
    let under_way : IsUnderWay front texts at.out.items at.width =
    subst (λ ts. IsUnderWay front (map (λ t. t.items) ts) at.out.items at.width) all at.invariant.under_way in
    let text = ended front texts at.out.items at.width under_way (laid_some texts c.requires) in
    record { movetext = text.movetext; is_movetext = text.is_movetext; put = c.in_ok-push.ensures.items ∙ text.written }
