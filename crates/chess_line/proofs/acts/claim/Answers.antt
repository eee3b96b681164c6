use Rattle.std.proofs.Common.{◌≡◌, Bool, Option, Some, None, ◌∷◌, decimal, sym, ◌∙◌}
use Rattle.std.specs.List.{join_with_byte}
use Rattle.chess_entry.specs.Parsed.{bytes_of}
use Rattle.chess_line.specs.Fields.{claim_word, optional}
use Rattle.chess_line.specs.Cut.{rest_of}
use Rattle.chess_line.proofs.Cuts.{same_cut}
use Rattle.chess_line.proofs.Cases.{claim_after, claim_without, optional_joined}
use Rattle.chess_line.proofs.acts.claim.Goals as goal

pub returns-in_err-fifty-clause-every : goal.returns-in_err-fifty-clause-every
returns-in_err-fifty-clause-every c = λ act h.
    let o = claim_after c.args.rest.now act h in
    let first = c.in_ok-game.ensures.every o.game (join_with_byte 32 (decimal o.ply ∷ claim_word o.fifty ∷ optional o.text))
    o.game_number o.spelled in
    let second = c.in_ok-ply.ensures.every o.ply (join_with_byte 32 (claim_word o.fifty ∷ optional o.text)) o.ply_number first.1 in
    let parts = same_cut c.cut_word.result.0.now (claim_word o.fifty) (rest_of c.cut_word.result.1) (bytes_of o.text)
    c.cut_word.ensures.unspaced (claim_without o.fifty)
    (sym c.cut_word.ensures.joined ∙ (second.1 ∙ optional_joined (claim_word o.fifty) o.text)) in
    let no : ◌≡◌ {A = Option Bool} None (Some o.fifty) = c.in_err-fifty.ensures.every o.fifty parts.front in absurd (cc)
