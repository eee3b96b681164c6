use Rattle.std.proofs.Common.{◌≡◌, refl, true}
use Rattle.chess_bits.specs.declared.men.Colour.TheVariants.{White}
use Rattle.chess_bits.specs.Table.{has}
use Rattle.chess_bits.specs.Attack.{Slides, straight}
use Rattle.chess_moves.proofs.SetForms.{both_set, set_itself}
use Rattle.chess_moves.proofs.Open.{no_rook}
use Rattle.chess_moves.proofs.safe.rook_meets.Goals as goal

pub returns-then-is_empty : goal.returns-then-is_empty
returns-then-is_empty c =
    let none = c.if-is_empty.ensures.0 refl in
    rw c.new.ensures
    (no_rook c.args.square c.args.occupied c.args.men c.ray.result c.ray-2.result c.ray-3.result c.ray-4.result
    c.ray.ensures.squares c.ray-2.ensures.squares c.ray-3.ensures.squares c.ray-4.ensures.squares c.requires
    (rw (c.meet.ensures, c.union.ensures, c.union-rank.ensures, c.union-file.ensures) at none))

pub returns-else-is_empty : goal.returns-else-is_empty
returns-else-is_empty c =
    rw c.meet-else-is_empty.ensures
    (both_set c.rook.result c.args.men (Slides c.args.occupied straight c.args.square)
    (λ s. has c.args.men s ≡ true) (c.rook.ensures White)
    (set_itself c.args.men c.requires))
