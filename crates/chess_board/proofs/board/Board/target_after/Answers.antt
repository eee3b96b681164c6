use Rattle.std.proofs.Common.{◌≡◌, ◌∙◌, refl, sym, ap, subst, Option, None, Some, IfSome, IfNone, arith}
use Rattle.std.proofs.lemmas.Bool.{and_parts}
use Rattle.chess_bits.specs.declared.steps.Step.{Step}
use Rattle.chess_bits.specs.Square.{Square, IsOnBoard}
use Rattle.chess_bits.specs.Attack.{along, forward}
use Rattle.chess_bits.proofs.TableLemmas.{is_square-true}
use Rattle.chess_bits.proofs.AlongLemmas.{along-between}
use Rattle.chess_board.specs.Position.{Position}
use Rattle.chess_board.specs.Next.{target_after}
use Rattle.chess_board.proofs.board.Board.target_after.Goals as goal

-- a step to a square of the board is found
found : (r : Option Square) (q : Square) → IfSome r (λ s. (s ≡ q) × IsOnBoard s) → IfNone r (¬ IsOnBoard q) →
    IsOnBoard q → r ≡ Some q
found None q some none on = absurd (none on)
found (Some s) q some none on = ap Some some.0

pub returns-then-is_double_advance : goal.returns-then-is_double_advance
unfolding target_after
returns-then-is_double_advance c =
    let facts = c.if-is_double_advance.ensures in
    let there = is_square-true c.args.mv.now.to (along 2 (forward c.args.self.now.side) c.args.mv.now.from)
    (and_parts _ _ (sym facts.advance)).1 in
    let two : IsOnBoard (along 2 (forward c.args.self.now.side) c.args.mv.now.from) = subst IsOnBoard there
    facts.on_board in
    let one : IsOnBoard (along 1 (forward c.args.self.now.side) c.args.mv.now.from) =
    along-between 1 2 (forward c.args.self.now.side) c.args.mv.now.from c.step.ensures.on_board (omega arith) two in
    let way : c.forward.result ≡ forward c.args.self.now.side = c.forward.ensures
    ∙ ap (λ (p : Position). forward p.side) c.self.view_is in
    let There' : Step → Type 0 = λ step. IsOnBoard (along 1 step c.args.mv.now.from) in
    rw (← facts.advance)
    (found c.step.result (along 1 c.forward.result c.args.mv.now.from) c.step.ensures.some c.step.ensures.none
    (subst There' (sym way) one)
    ∙ ap (λ (step : Step). Some (along 1 step c.args.mv.now.from)) way)

pub returns-else-is_double_advance : goal.returns-else-is_double_advance
unfolding target_after
returns-else-is_double_advance c = rw (← c.if-is_double_advance.ensures.advance) refl
