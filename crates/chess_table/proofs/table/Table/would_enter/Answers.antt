use Rattle.std.proofs.Common.{ℕ, arith, sym, ap, ◌∙◌}
use Rattle.std.proofs.lemmas.Bool.{false≢true}
use Rattle.chess_entry.specs.State.{find_game}
use Rattle.chess_table.proofs.AllowedLemmas.{early-iff, late-iff, opened-iff, absent-iff, illegal-iff, acted-iff}
use Rattle.chess_table.proofs.table.Table.would_enter.Goals as goal

pub returns-then-entry-moment : goal.returns-then-entry-moment
returns-then-entry-moment c =
    let moment = c.moment.ensures in
    let below = c.if-entry-moment.true in
    early-iff c.args.self.now c.args.entry.now c.limits-limits.ensures.table (omega (arith, moment, below))

pub returns-then-entry-gt-GREATEST_MOMENT : goal.returns-then-entry-gt-GREATEST_MOMENT
returns-then-entry-gt-GREATEST_MOMENT c =
    late-iff c.args.self.now c.args.entry.now c.limits-limits.ensures.table c.if-entry-gt-GREATEST_MOMENT.true

pub returns-in-Open : goal.returns-in-Open
returns-in-Open c =
    let moment = c.moment.ensures in
    let from = c.if-entry-moment.false in
    let told = c.opening_verdict-verdict.ensures in
    opened-iff c.args.self.now c.args.entry.now c.limits-limits.ensures.table c.in-Open.opening c.opening_verdict-verdict.result
    c.enters.result c.in-Open.is told.named told.valid (omega (arith, moment, from)) c.if-entry-gt-GREATEST_MOMENT.false
    told.verdict c.enters.ensures

pub returns-in_default-find : goal.returns-in_default-find
returns-in_default-find c =
    let table = c.args.self.now in
    absent-iff table c.args.entry.now c.limits-limits.ensures.table c.in_default.not-Open
    (c.in_default-find.ensures.game ∙ ap (λ (n : ℕ). find_game n table.games) c.get.ensures.number)

pub returns-then-not-states_legal : goal.returns-then-not-states_legal
returns-then-not-states_legal c =
    let table = c.args.self.now in
    illegal-iff table c.args.entry.now c.limits-limits.ensures.table c.in-Some.game.now c.in_default.not-Open
    (c.in-Some.ensures.game ∙ ap (λ (n : ℕ). find_game n table.games) c.get.ensures.number)
    (λ legal. false≢true (sym c.if-not-states_legal.true ∙ c.states_legal.ensures.legal.1 legal))

pub returns : goal.returns
returns c =
    let table = c.args.self.now in
    let moment = c.moment.ensures in
    let from = c.if-entry-moment.false in
    let told = c.states_legal.ensures in
    acted-iff table c.args.entry.now c.limits-limits.ensures.table c.in-Some.game.now c.in_default.not-Open
    (c.in-Some.ensures.game ∙ ap (λ (n : ℕ). find_game n table.games) c.get.ensures.number)
    c.witness_verdict-verdict.result c.enters-2.result (omega (arith, moment, from)) c.if-entry-gt-GREATEST_MOMENT.false
    (told.legal.0 c.if-not-states_legal.false) told.named c.witness_verdict-verdict.ensures c.enters-2.ensures
