use Rattle.std.proofs.Common.{◌≡◌, ◌∙◌, List, Bool, Option, ap, sym}
use Rattle.chess_bits.specs.declared.men.Colour.{Colour}
use Rattle.chess_bits.specs.declared.men.Kind.TheVariants.{King}
use Rattle.chess_bits.specs.Man.{Man, is_of, is_man}
use Rattle.chess_bits.specs.Table.{has, meet, members}
use Rattle.chess_bits.proofs.SetLemmas.{IsLeast-first, no_head}
use Rattle.chess_board.specs.Occupancy.{squares_with, is_a}
use Rattle.chess_board.proofs.AttackLemmas.{meet-is_man, man-has}
use Rattle.chess_moves.proofs.Foes.{king_there}
use Rattle.chess_moves.proofs.masks.king_of.Goals as goal

kings : (placement : List (Option Man)) (side side' : Colour) (own of_kind kings' : List Bool) (men : List (Option Man)) →
    own ≡ squares_with (is_of side') placement → side' ≡ side → of_kind ≡ squares_with (is_a King) men →
    men ≡ placement → kings' ≡ meet own of_kind → kings' ≡ squares_with (is_man (side, King)) placement
kings placement side side' own of_kind kings' men is_own same is_kings there both =
    both ∙ ap (λ (set : List Bool). meet set of_kind)
    (is_own ∙ ap (λ (colour : Colour). squares_with (is_of colour) placement) same)
    ∙ ap (meet (squares_with (is_of side) placement)) (is_kings ∙ ap (squares_with (is_a King)) there)
    ∙ meet-is_man placement side King

pub unreachable-requires : goal.unreachable-requires
unreachable-requires c =
    let p = c.args.board.now in
    let all = kings p.placement p.side c.side.result c.men_of-own.result c.of_kind.result c.meet.result c.men.result.now
    c.men_of-own.ensures.squares c.side.ensures c.of_kind.ensures c.men.ensures c.meet.ensures in
    king_there p c.men_of-own.ensures.valid
    (ap members (sym all) ∙ no_head (members c.meet.result) (sym c.in-None.is ∙ c.first.ensures))

pub returns-clause-king : goal.returns-clause-king
returns-clause-king c =
    let p = c.args.board.now in
    let all = kings p.placement p.side c.side.result c.men_of-own.result c.of_kind.result c.meet.result c.men.result.now
    c.men_of-own.ensures.squares c.side.ensures c.of_kind.ensures c.men.ensures c.meet.ensures in
    man-has p.placement p.side King c.in-Some.square
    (ap (λ (set : List Bool). has set c.in-Some.square) (sym all)
    ∙ (IsLeast-first c.meet.result c.in-Some.square c.in-Some.ensures).member)
