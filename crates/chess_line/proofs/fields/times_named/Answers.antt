use Rattle.std.proofs.Common.{◌≡◌, ℕ, Option, Some, None, decimal, ap, sym, ◌∙◌, arith}
use Rattle.std.proofs.lemmas.Str.Pattern.{split_after, split_parts}
use Rattle.chess_line.specs.Fields.{AreTimes, times_text}
use Rattle.chess_line.proofs.Cuts.{decimal_without, decimal_without_colon}
use Rattle.chess_line.proofs.Cases.{period_cut}
use Rattle.chess_line.proofs.fields.times_named.Goals as goal

-- without a slash there is no second period
no_number : (c : goal.After-from_residual) (initial : ℕ) (period : Option (ℕ × ℕ)) → AreTimes initial period →
    c.args.text.now ≡ times_text initial period → ⊥
no_number c initial None are e =
    let no : ◌≡◌ {A = Option ℕ} None (Some initial) = c.in_err-initial.ensures.every initial are e in cc
no_number c initial (Some p) are e =
    let after = split_after 47 c.args.text.now (decimal p.0) _ c.split_once.result c.split_once.ensures.cases (omega arith) e
    (decimal_without 47 p.0 (omega arith) are.0) in
    rw c.in_default.is at after

pub returns-in_err-initial-clause-every : goal.returns-in_err-initial-clause-every
returns-in_err-initial-clause-every c = λ initial period are e. absurd (no_number c initial period are e)

one_number : (c : goal.In_ok-initial) (initial : ℕ) (period : Option (ℕ × ℕ)) → AreTimes initial period →
    c.args.text.now ≡ times_text initial period →
    ◌≡◌ {A = Option (ℕ × Option (ℕ × ℕ))} (Some (c.in_ok-initial.initial, None)) (Some (initial, period))
one_number c initial None are e =
    let read : ◌≡◌ {A = Option ℕ} (Some c.in_ok-initial.initial) (Some initial) = c.in_ok-initial.ensures.every initial are e in
    let same : c.in_ok-initial.initial ≡ initial = cc in
    ap (λ n. Some (n, None)) same
one_number c initial (Some p) are e =
    let after = split_after 47 c.args.text.now (decimal p.0) _ c.split_once.result c.split_once.ensures.cases (omega arith) e
    (decimal_without 47 p.0 (omega arith) are.0) in
    absurd (rw c.in_default.is at after)

pub returns-in_default-clause-every : goal.returns-in_default-clause-every
returns-in_default-clause-every c = λ initial period are e. one_number c initial period are e

pub returns-in_err-initial-2-clause-every : goal.returns-in_err-initial-2-clause-every
returns-in_err-initial-2-clause-every c = λ initial period are e.
    let parts = split_parts 47 c.args.text.now (Some (c.in-Some.moves, c.in-Some.rest)) c.in-Some.ensures.cases (omega arith) in
    let told = period_cut c.args.text.now c.in-Some.moves.now c.in-Some.rest.now initial period parts.1 parts.0 are e in
    absurd (split_after 58 c.in-Some.rest.now (decimal initial) (decimal told.pair.1) None c.in_err-initial-2.ensures.cases
    (omega arith) told.rest_is (decimal_without_colon initial told.initial_number))

pub returns-in_err-moves-clause-every : goal.returns-in_err-moves-clause-every
returns-in_err-moves-clause-every c = λ initial period are e.
    let parts = split_parts 47 c.args.text.now (Some (c.in-Some.moves, c.in-Some.rest)) c.in-Some.ensures.cases (omega arith) in
    let told = period_cut c.args.text.now c.in-Some.moves.now c.in-Some.rest.now initial period parts.1 parts.0 are e in
    let no : ◌≡◌ {A = Option ℕ} None (Some told.pair.0) = c.in_err-moves.ensures.every told.pair.0 told.moves_number told.moves_is in
    absurd (cc)

pub returns-in_err-initial-3-clause-every : goal.returns-in_err-initial-3-clause-every
returns-in_err-initial-3-clause-every c = λ initial period are e.
    let parts = split_parts 47 c.args.text.now (Some (c.in-Some.moves, c.in-Some.rest)) c.in-Some.ensures.cases (omega arith) in
    let told = period_cut c.args.text.now c.in-Some.moves.now c.in-Some.rest.now initial period parts.1 parts.0 are e in
    let colon = split_after 58 c.in-Some.rest.now (decimal initial) (decimal told.pair.1)
    (Some (c.in_ok-initial-2.initial, c.in_ok-initial-2.second)) c.in_ok-initial-2.ensures.cases (omega arith) told.rest_is
    (decimal_without_colon initial told.initial_number) in
    let no : ◌≡◌ {A = Option ℕ} None (Some initial) = c.in_err-initial-3.ensures.every initial told.initial_number colon.0 in
    absurd (cc)

pub returns-in_err-second-clause-every : goal.returns-in_err-second-clause-every
returns-in_err-second-clause-every c = λ initial period are e.
    let parts = split_parts 47 c.args.text.now (Some (c.in-Some.moves, c.in-Some.rest)) c.in-Some.ensures.cases (omega arith) in
    let told = period_cut c.args.text.now c.in-Some.moves.now c.in-Some.rest.now initial period parts.1 parts.0 are e in
    let colon = split_after 58 c.in-Some.rest.now (decimal initial) (decimal told.pair.1)
    (Some (c.in_ok-initial-2.initial, c.in_ok-initial-2.second)) c.in_ok-initial-2.ensures.cases (omega arith) told.rest_is
    (decimal_without_colon initial told.initial_number) in
    let no : ◌≡◌ {A = Option ℕ} None (Some told.pair.1) = c.in_err-second.ensures.every told.pair.1 told.second_number colon.1 in
    absurd (cc)

pub returns-clause-every : goal.returns-clause-every
returns-clause-every c = λ initial period are e.
    let parts = split_parts 47 c.args.text.now (Some (c.in-Some.moves, c.in-Some.rest)) c.in-Some.ensures.cases (omega arith) in
    let told = period_cut c.args.text.now c.in-Some.moves.now c.in-Some.rest.now initial period parts.1 parts.0 are e in
    let colon = split_after 58 c.in-Some.rest.now (decimal initial) (decimal told.pair.1)
    (Some (c.in_ok-initial-2.initial, c.in_ok-initial-2.second)) c.in_ok-initial-2.ensures.cases (omega arith) told.rest_is
    (decimal_without_colon initial told.initial_number) in
    let moves : ◌≡◌ {A = Option ℕ} (Some c.in_ok-moves.moves) (Some told.pair.0) =
    c.in_ok-moves.ensures.every told.pair.0 told.moves_number told.moves_is in
    let times : ◌≡◌ {A = Option ℕ} (Some c.in_ok-initial-3.initial) (Some initial) =
    c.in_ok-initial-3.ensures.every initial told.initial_number colon.0 in
    let seconds : ◌≡◌ {A = Option ℕ} (Some c.in_ok-second.second) (Some told.pair.1) =
    c.in_ok-second.ensures.every told.pair.1 told.second_number colon.1 in
    let same_moves : c.in_ok-moves.moves ≡ told.pair.0 = cc in
    let same_initial : c.in_ok-initial-3.initial ≡ initial = cc in
    let same_second : c.in_ok-second.second ≡ told.pair.1 = cc in
    ap (λ n. Some (n, Some (c.in_ok-moves.moves, c.in_ok-second.second))) same_initial
    ∙ (ap (λ n. Some (initial, Some (n, c.in_ok-second.second))) same_moves
    ∙ (ap (λ n. Some (initial, Some (told.pair.0, n))) same_second
    ∙ ap (λ p. Some (initial, p)) (sym told.is)))
