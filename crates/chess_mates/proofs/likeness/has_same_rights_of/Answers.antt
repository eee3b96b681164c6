use Rattle.std.proofs.Common.{◌≡◌}
use Rattle.std.proofs.lemmas.Bool.{and_parts}
use Rattle.chess_bits.specs.declared.men.Colour.{Colour}
use Rattle.chess_board.specs.declared.castling.Wing.{Wing}
use Rattle.chess_board.specs.declared.castling.Wing.TheVariants as wing
use Rattle.chess_board.specs.Position.{Rights, has_right}
use Rattle.chess_mates.proofs.likeness.has_same_rights_of.Goals as goal

both : (r s : Rights) (side : Colour) → has_right r side wing.King ≡ has_right s side wing.King →
    has_right r side wing.Queen ≡ has_right s side wing.Queen → (w : Wing) → has_right r side w ≡ has_right s side w
both r s side short long wing.King = short
both r s side short long wing.Queen = long

pub returns : goal.returns
returns c told =
    let parts = and_parts c.has_same_right-short.result c.has_same_right-long.result told in
    both c.args.b.now.rights c.args.a.now.rights c.args.side (c.has_same_right-short.ensures parts.0)
    (c.has_same_right-long.ensures parts.1)
