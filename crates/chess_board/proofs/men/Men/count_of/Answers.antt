use Rattle.std.proofs.Common.{◌∙◌, ap, sym, List, Bool, length}
use Rattle.chess_bits.specs.declared.men.Colour.{Colour}
use Rattle.chess_bits.specs.declared.men.Colour.TheVariants.{White, Black}
use Rattle.chess_bits.specs.Man.{is_of, holds}
use Rattle.chess_bits.specs.Table.{members}
use Rattle.chess_bits.proofs.MemberLemmas.{length-members_map}
use Rattle.chess_board.specs.Position.{count_of}
use Rattle.chess_board.specs.Men.{placement_of}
use Rattle.chess_board.proofs.MenLemmas.{squares_with-colour, length-placement_of}
use Rattle.chess_board.proofs.men.Men.count_of.Goals as goal

pub returns-in-White : goal.returns-in-White
returns-in-White c =
    c.count.ensures ∙ ap (λ (bs : List Bool). length (members bs))
    (sym (squares_with-colour White c.self.inside c.self.invariant))
    ∙ length-members_map (holds (is_of White)) (placement_of c.self.inside) (length-placement_of c.self.inside)
    ∙ ap (count_of (is_of White)) c.self.view_is ∙ ap (λ (k : Colour). count_of (is_of k) c.args.self.now)
    (sym c.in-White.is)

pub returns-in-Black : goal.returns-in-Black
returns-in-Black c =
    c.count-in-Black.ensures ∙ ap (λ (bs : List Bool). length (members bs))
    (sym (squares_with-colour Black c.self.inside c.self.invariant))
    ∙ length-members_map (holds (is_of Black)) (placement_of c.self.inside) (length-placement_of c.self.inside)
    ∙ ap (count_of (is_of Black)) c.self.view_is ∙ ap (λ (k : Colour). count_of (is_of k) c.args.self.now)
    (sym c.in-Black.is)
