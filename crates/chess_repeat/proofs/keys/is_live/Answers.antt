use Rattle.std.proofs.Common.{◌≡◌, ◌∙◌, Bool, ◌||◌, List, [], ap, sym}
use Rattle.std.specs.List.{list_any}
use Rattle.chess_bits.specs.declared.men.Kind.TheVariants.{Pawn}
use Rattle.chess_bits.specs.declared.men.Colour.{Colour}
use Rattle.chess_bits.specs.Square.{Square}
use Rattle.chess_bits.specs.Man.{is_man, other}
use Rattle.chess_bits.specs.Table.{members, meet, IsSetOf}
use Rattle.chess_bits.specs.Attack.{Reaches, pawn_attacks}
use Rattle.chess_bits.specs.SquaresOf.{squares_left}
use Rattle.chess_board.specs.Occupancy.{squares_with}
use Rattle.chess_board.specs.Computing.{is_legal}
use Rattle.chess_moves.specs.Targets.{plain}
use Rattle.chess_repeat.specs.Key.{takers}
use Rattle.chess_repeat.proofs.Takers.{members-takers}
use Rattle.chess_repeat.proofs.LiveTargets.{told_legal}
use Rattle.chess_repeat.proofs.keys.is_live.Goals as goal

pub loop-from-init : goal.loop-from-init
loop-from-init c =
    let p = c.args.board.now in
    let t = c.args.target in
    let same_side : other c.side-side.result ≡ other p.side = ap other c.side-side.ensures in
    let of : IsSetOf c.pawn.result (Reaches (pawn_attacks c.other.result) t) = c.pawn.ensures p_none in
    let of' : IsSetOf c.pawn.result (Reaches (pawn_attacks (other p.side)) t) =
    rw (c.other.ensures, c.side-side.ensures) at of in
    let pawns : c.of_man-pawns.result ≡ squares_with (is_man (p.side, Pawn)) p.placement =
    c.of_man-pawns.ensures
    ∙ ap (λ (side : Colour). squares_with (is_man (side, Pawn)) c.men.result.now) c.side-side.ensures
    ∙ ap (squares_with (is_man (p.side, Pawn))) c.men.ensures in
    let start : squares_left c.into_iter-from-iterator.result ≡ takers p t =
    ap squares_left c.into_iter-from-iterator.ensures.into_iter_gives ∙ c.iter-from-items.ensures
    ∙ ap members (c.meet.ensures ∙ ap (meet c.pawn.result) pawns)
    ∙ members-takers p t c.pawn.result c.number-on_board.ensures.on_board of' in
    ap (list_any (λ from. is_legal p (plain from t))) (sym start)
  where
    p_none : List Bool
    p_none = []

pub returns-then-legal : goal.returns-then-legal
returns-then-legal c =
    let p = c.args.board.now in
    let t = c.args.target in
    let test : Square → Bool = λ from. is_legal p (plain from t) in
    sym (c.loop-from.invariant ∙ ap (list_any test) c.in-Some.ensures.steps
    ∙ ap (λ (b : Bool). b || list_any test (squares_left c.next.new.self))
    (told_legal p (plain c.in-Some.from t) c.legal.result c.legal.ensures ∙ c.if-legal.true))

pub loop-from-preserved : goal.loop-from-preserved
loop-from-preserved c =
    let p = c.args.board.now in
    let t = c.args.target in
    let test : Square → Bool = λ from. is_legal p (plain from t) in
    c.loop-from.invariant ∙ ap (list_any test) c.in-Some.ensures.steps
    ∙ ap (λ (b : Bool). b || list_any test (squares_left c.next.new.self))
    (told_legal p (plain c.in-Some.from t) c.legal.result c.legal.ensures ∙ c.if-legal.false)
