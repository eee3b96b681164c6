use Rattle.std.proofs.Common.{ℕ, ◌≡◌, ◌∙◌, ap, sym, List, Bool, length}
use Rattle.chess_bits.specs.declared.men.Colour.{Colour}
use Rattle.chess_bits.specs.declared.men.Colour.TheVariants.{White, Black}
use Rattle.chess_bits.specs.declared.men.Kind.TheVariants.{King}
use Rattle.chess_bits.specs.Man.{is_of, is_man, holds}
use Rattle.chess_bits.specs.Table.{members, meet}
use Rattle.chess_bits.proofs.MemberLemmas.{length-members_map}
use Rattle.chess_board.specs.Occupancy.{squares_with}
use Rattle.chess_board.specs.Position.{Placement, count_of}
use Rattle.chess_board.specs.declared.men.Men.TheInside.{Inside}
use Rattle.chess_board.specs.Men.{placement_of, IsConsistent}
use Rattle.chess_board.proofs.MenLemmas.{squares_with-colour, squares_with-kind, length-placement_of}
use Rattle.chess_board.proofs.AttackLemmas.{meet-is_man}
use Rattle.chess_board.proofs.men.Men.kings_of.Goals as goal

-- so many kings of the colour stand there
counted : (sets : Inside) (now : Placement) (colour : Colour) (set met : List Bool) (n : ℕ) → IsConsistent sets →
    placement_of sets ≡ now → squares_with (is_of colour) (placement_of sets) ≡ set → met ≡ meet set sets.kings →
    n ≡ length (members met) → n ≡ count_of (is_man (colour, King)) now
counted sets now colour set met n consistent view coloured both count =
    count
    ∙ ap (λ (bs : List Bool). length (members bs)) (both ∙ ap (λ (bs : List Bool). meet bs sets.kings) (sym coloured)
    ∙ ap (meet (squares_with (is_of colour) (placement_of sets))) (sym (squares_with-kind King sets consistent))
    ∙ meet-is_man (placement_of sets) colour King)
    ∙ length-members_map (holds (is_man (colour, King))) (placement_of sets) (length-placement_of sets)
    ∙ ap (count_of (is_man (colour, King))) view

pub returns-in-White : goal.returns-in-White
returns-in-White c =
    counted c.self.inside c.args.self.now White c.self.inside.white c.meet.result c.count.result c.self.invariant
    c.self.view_is (squares_with-colour White c.self.inside c.self.invariant) c.meet.ensures c.count.ensures
    ∙ ap (λ (k : Colour). count_of (is_man (k, King)) c.args.self.now) (sym c.in-White.is)

pub returns-in-Black : goal.returns-in-Black
returns-in-Black c =
    counted c.self.inside c.args.self.now Black c.self.inside.black c.meet-in-Black.result c.count-in-Black.result
    c.self.invariant c.self.view_is (squares_with-colour Black c.self.inside c.self.invariant) c.meet-in-Black.ensures
    c.count-in-Black.ensures
    ∙ ap (λ (k : Colour). count_of (is_man (k, King)) c.args.self.now) (sym c.in-Black.is)
