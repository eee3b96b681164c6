use Rattle.std.proofs.Common.{◌≡◌, refl, true}
use Rattle.chess_bits.specs.declared.men.Colour.TheVariants.{White}
use Rattle.chess_bits.specs.Table.{has}
use Rattle.chess_bits.specs.Attack.{Slides, diagonal}
use Rattle.chess_moves.proofs.SetForms.{both_set, set_itself}
use Rattle.chess_moves.proofs.Open.{no_bishop}
use Rattle.chess_moves.proofs.safe.bishop_meets.Goals as goal

pub returns-then-is_empty : goal.returns-then-is_empty
returns-then-is_empty c =
    let none = c.if-is_empty.ensures.0 refl in
    rw c.new.ensures
    (no_bishop c.args.square c.args.occupied c.args.men c.ray.result c.ray-2.result c.ray-3.result c.ray-4.result
    c.ray.ensures.squares c.ray-2.ensures.squares c.ray-3.ensures.squares c.ray-4.ensures.squares c.requires
    (rw (c.meet.ensures, c.union.ensures, c.union-falling.ensures, c.union-rising.ensures) at none))

pub returns-else-is_empty : goal.returns-else-is_empty
returns-else-is_empty c =
    rw c.meet-else-is_empty.ensures
    (both_set c.bishop.result c.args.men (Slides c.args.occupied diagonal c.args.square)
    (λ s. has c.args.men s ≡ true) (c.bishop.ensures White)
    (set_itself c.args.men c.requires))
