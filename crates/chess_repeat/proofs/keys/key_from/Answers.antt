use Rattle.std.proofs.Common.{ℕ, ◌≡◌, ◌∙◌, inl, inr, length, get_or, ap, sym, subst, List, arith}
use Rattle.std.proofs.lemmas.Bool.{cases_eq}
use Rattle.std.proofs.lemmas.Grind.{get_or-set_at}
use Rattle.std.proofs.lemmas.List.{get_or-set_other, length-set}
use Rattle.chess_bits.specs.Square.{Square}
use Rattle.chess_bits.specs.Table.{members}
use Rattle.chess_bits.specs.Attack.{SomeOf}
use Rattle.chess_bits.specs.SquaresOf.{squares_left}
use Rattle.chess_board.specs.Occupancy.{AreChanges}
use Rattle.chess_board.specs.Position.{Placement}
use Rattle.chess_repeat.specs.Key.{men_byte}
use Rattle.chess_repeat.proofs.KeyBytes.{key_of-written, key_of-men, length-key_of}
use Rattle.chess_repeat.proofs.KeyChanges.{PointsTo, byte_kept}
use Rattle.chess_repeat.proofs.keys.key_from.Goals as goal

pub loop-square-init : goal.loop-square-init
loop-square-init c =
    let before = c.args.before.now in
    let p = c.args.board.now in
    let start : squares_left c.into_iter-square-iterator.result ≡ members c.changes.result =
    ap squares_left c.into_iter-square-iterator.ensures.into_iter_gives ∙ c.iter-square-items.ensures in
    let same : AreChanges before.placement p.placement c.changes.result =
    subst (λ (old : Placement). AreChanges old p.placement c.changes.result) c.men.ensures
    (subst (λ (new : Placement). AreChanges c.men.result.now new c.changes.result) c.men-2.ensures c.changes.ensures) in
    record {
      whole = ap length c.requires ∙ length-key_of before;
      written = λ k below none.
          let Some' : List Square → Type 0 = SomeOf (PointsTo k) in
          ap (λ (bytes : List ℕ). get_or bytes k 0) c.requires ∙ key_of-men before k below
          ∙ byte_kept before.placement p.placement c.changes.result k same below
          (λ some. none (subst Some' (sym start) some));
    }

pub loop-square-preserved : goal.loop-square-preserved
loop-square-preserved c =
    let bytes = c.loop-square.bytes in
    let i = c.from.result in
    let x = c.men_byte.result in
    let placement = c.args.board.now.placement in
    let square = c.in-Some.square in
    record {
      whole = length-set bytes i x ∙ c.loop-square.invariant.whole;
      written = λ k below none. elim (cases_eq k i) [
        | inl e ↦
            get_or-set_at bytes i k x 0 e (omega (arith, e, below, c.loop-square.invariant.whole))
            ∙ c.men_byte.ensures ∙ ap (men_byte placement) (sym (e ∙ c.from.ensures))
        | inr ne ↦
            get_or-set_other bytes i k x 0 ne
            ∙ c.loop-square.invariant.written k below (λ some.
            let Some' : List Square → Type 0 = SomeOf (PointsTo k) in
            elim (subst Some' c.in-Some.ensures.steps some) [
              | inl here ↦ ne (omega (arith, here, c.from.ensures, c.number-pair.ensures.number))
              | inr later ↦ none later
            ])
      ];
    }

pub returns : goal.returns
returns c =
    key_of-written c.args.board.now c.loop-square.bytes c.state_byte.result c.target_byte.result
    c.loop-square.invariant.whole
    (λ k below. c.loop-square.invariant.written k below (λ some.
    let Some' : List Square → Type 0 = SomeOf (PointsTo k) in
    subst Some' c.in-None.ensures.steps.0 some))
    c.state_byte.ensures c.target_byte.ensures
