use Rattle.std.proofs.Common.{◌≡◌, List, ◌∙◌, ap, subst, sym, refl}
use Rattle.chess_bits.specs.declared.men.Colour.{Colour}
use Rattle.chess_bits.specs.declared.men.Kind.TheVariants.{King}
use Rattle.chess_bits.specs.Man.{other, is_man}
use Rattle.chess_bits.specs.Square.{Square}
use Rattle.chess_bits.specs.Attack.{SomeOf}
use Rattle.chess_bits.specs.Table.{members, has}
use Rattle.chess_bits.specs.SquaresOf.{squares_left}
use Rattle.chess_bits.proofs.AlongLemmas.{PassesEach, PassesEach-members, SomeOf-members}
use Rattle.chess_board.specs.Occupancy.{squares_with}
use Rattle.chess_board.specs.Position.{IsAttacked}
use Rattle.chess_board.proofs.AttackLemmas.{has-man, man-has}
use Rattle.chess_board.proofs.Candidates.{IsOnBoard-from_man}
use Rattle.chess_board.proofs.attack.is_in_check.Goals as goal

pub loop-square-init : goal.loop-square-init
loop-square-init c =
    let kings = squares_with (is_man (c.args.side, King)) c.args.men.now in
    let start : squares_left c.into_iter-square-iterator.result ≡ members kings =
    ap squares_left c.into_iter-square-iterator.ensures.into_iter_gives ∙ c.iter-square-items.ensures
    ∙ ap members c.of_man.ensures in
    let Some' : List Square → Type 0 = SomeOf (IsAttacked c.args.men.now (other c.args.side)) in
    let Passes' : List Square → Type 0 = PassesEach (has kings) in
    record {
      some = λ check. subst Some' (sym start)
          (SomeOf-members (IsAttacked c.args.men.now (other c.args.side)) kings check.0 (IsOnBoard-from_man
          c.args.men.now check.0 (c.args.side, King) check.1)
          (has-man c.args.men.now c.args.side King check.0 check.1) check.2);
      kings = subst Passes' (sym start) (PassesEach-members kings);
    }

pub returns-then-is_attacked : goal.returns-then-is_attacked
returns-then-is_attacked c =
    let Passes' : List Square → Type 0 = PassesEach (has (squares_with (is_man (c.args.side, King)) c.args.men.now)) in
    let here = subst Passes' c.in-Some.ensures.steps c.loop-square.invariant.kings in
    let Attacked' : Colour → Type 0 = λ side. IsAttacked c.args.men.now side c.in-Some.square in (
      λ _. (
        c.in-Some.square,
        man-has c.args.men.now c.args.side King c.in-Some.square here.0,
        subst Attacked'
            c.other.ensures (c.if-is_attacked.ensures.0 refl),
      ),
      λ _. refl,
    )
