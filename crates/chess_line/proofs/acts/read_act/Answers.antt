use Rattle.std.proofs.Common.{◌≡◌, ℕ, Option, Some, None, [], ◌∷◌, decimal, refl, ap, sym, ◌∙◌}
use Rattle.chess_line.proofs.Cases.{game_after}
use Rattle.chess_line.proofs.acts.read_act.Goals as goal

pub returns-in_err-game-in_default-clause-every : goal.returns-in_err-game-in_default-clause-every
returns-in_err-game-in_default-clause-every c = λ act h.
    let o = game_after c.args.word.now c.args.rest.now act c.requires c.in_default.not-open c.in_default.not-move
    c.in_default.not-claim h in
    let no : ◌≡◌ {A = Option ℕ} None (Some o.game) = c.in_err-game-in_default.ensures.every o.game o.number o.is in
    absurd (cc)

pub returns-in_ok-game-in_default-clause-every : goal.returns-in_ok-game-in_default-clause-every
returns-in_ok-game-in_default-clause-every c = λ act h.
    let o = game_after c.args.word.now c.args.rest.now act c.requires c.in_default.not-open c.in_default.not-move
    c.in_default.not-claim h in
    let numbers : ◌≡◌ {A = Option ℕ} (Some c.in_ok-game-in_default.game) (Some o.game) =
    c.in_ok-game-in_default.ensures.every o.game o.number o.is in
    let same : c.in_ok-game-in_default.game ≡ o.game = cc in
    let read = c.game_act.ensures.every act o.sayable
    (o.fields ∙ ap (λ n. c.args.word.now ∷ decimal n ∷ []) (sym same)) in
    rw read refl
