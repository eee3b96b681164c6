use Rattle.std.proofs.Common.{ℕ, ◌≡◌, ◌+◌, ◌<◌, arith, rules, sym, subst, ◌∙◌}
use Rattle.std.proofs.lemmas.Bool.{false≢true}
use Rattle.chess_entry.specs.Table.{IsOnTable}
use Rattle.chess_table.specs.Stored.{table_from}
use Rattle.chess_table.proofs.StandLemmas.{GoesOn, GoesOn-more, stands_not}
use Rattle.chess_table.proofs.standing.may_stand.Goals.{then-number-before-via-then-number-before, then-number-before-via-else-number-before+then-not-is_on_table}
use Rattle.chess_table.proofs.standing.may_stand.Goals as goal

pub returns-then-number-before : goal.returns-then-number-before
returns-then-number-before c =
    let games = c.args.games.now in
    let table = table_from c.args.limits games c.args.meta.now in
    let before = c.loop-game.before in
    let game = c.game-item.result in
    let number : c.get-number.result ≡ game.number = c.get-number.ensures.number ∙ c.number.ensures.number in
    let not_here : before < game.number → IsOnTable table game → ⊥ = elim c.then-number-before.branch [
      | then-number-before-via-then-number-before w ↦ λ rises on.
          let most = w.if-number-before.true in absurd (omega (arith, number, most, rises))
      | then-number-before-via-else-number-before+then-not-is_on_table w ↦ λ rises on.
          let yes = (w.is_on_table.ensures games).1 on in
          let no = w.if-not-is_on_table.true in false≢true (sym no ∙ yes)
    ] in (
      λ yes. absurd (false≢true yes),
      λ all. absurd (stands_not table games before c.loop-game.game-index game c.loop-game.invariant
          (omega (arith, c.loop-game-test.true)) c.game-item.is not_here all),
    )

pub loop-game-preserved : goal.loop-game-preserved
loop-game-preserved c =
    let games = c.args.games.now in
    let table = table_from c.args.limits games c.args.meta.now in
    let before = c.loop-game.before in
    let game = c.game-item.result in
    let number : c.get-number.result ≡ game.number = c.get-number.ensures.number ∙ c.number.ensures.number in
    let low = c.if-number-before.false in
    let on : IsOnTable table game = (c.is_on_table.ensures games).0 (search rules) in
    subst (λ (n : ℕ). GoesOn table games n (c.loop-game.game-index + 1)) (sym number)
    (GoesOn-more table games before c.loop-game.game-index game c.loop-game.invariant
    (omega (arith, c.loop-game-test.true)) c.game-item.is (omega (arith, number, low)) on)
