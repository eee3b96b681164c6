use Rattle.std.proofs.Common.{◌∙◌, ap, sym, subst, refl, List, Bool}
use Rattle.std.proofs.lemmas.Bool.{false≢true}
use Rattle.chess_bits.specs.declared.men.Kind.TheVariants.{King}
use Rattle.chess_bits.specs.SquaresOf.{squares_left}
use Rattle.chess_moves.specs.Targets.{GoesTo, LeavesKingSafe}
use Rattle.chess_moves.proofs.Safely.{KeepsSafe, keeps_start, keeps_safe, keeps_exposed, keeps_end}
use Rattle.chess_moves.proofs.safe.king_goes.Goals as goal

pub loop-to-init : goal.loop-to-init
loop-to-init c =
    let p = c.args.board.now in
    keeps_start (GoesTo p King c.args.from) (LeavesKingSafe p c.args.from) c.targets-safe.result
    (squares_left c.into_iter-to-iterator.result) c.targets-safe.ensures
    (ap squares_left c.into_iter-to-iterator.ensures.into_iter_gives ∙ c.iter-to-items.ensures)

pub loop-to-preserved-then-not-is_king_safe : goal.loop-to-preserved-then-not-is_king_safe
loop-to-preserved-then-not-is_king_safe c =
    let p = c.args.board.now in
    let Keeps' : List Bool → Type 0 = λ set. KeepsSafe (GoesTo p King c.args.from) (LeavesKingSafe p c.args.from) set
    (squares_left c.next.new.self) in
    subst Keeps' (sym c.remove.ensures.removed)
    (keeps_exposed (GoesTo p King c.args.from) (LeavesKingSafe p c.args.from) c.loop-to.safe c.in-Some.to
    (squares_left c.next.new.self) (squares_left c.loop-to.to-iterator) c.loop-to.invariant c.in-Some.ensures.steps
    c.remove.ensures.on_board (λ safe. false≢true (c.if-not-is_king_safe.ensures.1 safe)))

pub loop-to-preserved : goal.loop-to-preserved
loop-to-preserved c =
    let p = c.args.board.now in
    keeps_safe (GoesTo p King c.args.from) (LeavesKingSafe p c.args.from) c.loop-to.safe c.in-Some.to
    (squares_left c.next.new.self) (squares_left c.loop-to.to-iterator) c.loop-to.invariant c.in-Some.ensures.steps
    (c.if-not-is_king_safe.ensures.0 refl)

pub returns : goal.returns
returns c =
    let p = c.args.board.now in
    keeps_end (GoesTo p King c.args.from) (LeavesKingSafe p c.args.from) c.loop-to.safe
    (squares_left c.loop-to.to-iterator) c.loop-to.invariant c.in-None.ensures.steps.0
