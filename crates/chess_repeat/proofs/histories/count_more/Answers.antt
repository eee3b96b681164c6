use Rattle.std.proofs.Common.{◌≡◌, ◌∙◌, ◌+◌, ℕ, List, Option, ap, sym, subst, arith}
use Rattle.std.specs.Option.{unwrap_or}
use Rattle.chess_repeat.specs.History.{count_in, IsGivenCount}
use Rattle.chess_repeat.proofs.histories.count_more.Goals as goal

pub returns-in-None-clause-counted : goal.returns-in-None-clause-counted
returns-in-None-clause-counted c =
    subst (λ (key : List ℕ). IsGivenCount key c.args.counts.now.entries c.insert.new.self.entries 1) c.new.ensures
    c.in_ok-insert.ensures.updates.0

pub returns-in-None-clause-more : goal.returns-in-None-clause-more
returns-in-None-clause-more c =
    let none : count_in c.args.counts.now.entries c.args.key ≡ 0 =
    ap (λ (key : List ℕ). count_in c.args.counts.now.entries key) (sym c.new.ensures)
    ∙ sym (ap (λ (o : Option ℕ). unwrap_or o 0) c.in_ok-insert.ensures.old)
    ∙ ap (λ (o : Option ℕ). unwrap_or o 0) c.in-None.is in
    omega (arith, none)
