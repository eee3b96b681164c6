use Rattle.std.proofs.Common.{◌≡◌, ◌∙◌, length, ap, arith, rules}
use Rattle.std.proofs.lemmas.Grind.{common_steps}
use Rattle.std.proofs.lemmas.List.{length-map}
use Rattle.chess_repeat.proofs.histories.History.len.Goals as goal

pub returns-clause-len : goal.returns-clause-len
returns-clause-len c list is =
    let counted : c.len.result ≡ length c.args.self.now.clocks = first_of (search rules, grind (arith, common_steps)) in
    counted ∙ ap length is.clocks ∙ length-map list (λ p. p.halfmove)
