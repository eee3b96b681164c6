use Rattle.std.proofs.Common.{ℕ, ◌≡◌, ◌-◌, ◌∙◌, List, length, get_or, ap, arith, rules}
use Rattle.std.proofs.lemmas.Grind.{common_steps}
use Rattle.chess_repeat.proofs.QuietRuns.{quiet_run-clocks}
use Rattle.chess_repeat.proofs.histories.History.quiet.Goals as goal

pub returns-clause-quiet : goal.returns-clause-quiet
returns-clause-quiet c list is =
    let clocks = c.args.self.now.clocks in
    let clock : c.from.result ≡ get_or clocks (length clocks - 1) 0 =
    first_of (search rules, grind (arith, common_steps)) in
    clock ∙ ap (λ (ns : List ℕ). get_or ns (length ns - 1) 0) is.clocks ∙ quiet_run-clocks list
