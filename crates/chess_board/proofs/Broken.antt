-- Which condition a position breaks first.
use Rattle.std.proofs.Common.{◌≡◌, refl}
use Rattle.chess_board.specs.declared.parts.BadBoard.{BadBoard}
use Rattle.chess_board.specs.declared.parts.BadBoard.TheVariants as broken
use Rattle.chess_board.specs.Position.{Position, IsValid}
use Rattle.chess_board.specs.Parts.{IsFirstBroken}

-- a valid position breaks none
pub none_broken : (p : Position) (fault : BadBoard) → IsValid p → ¬ IsFirstBroken p fault
none_broken p broken.Kings valid broke = broke valid.kings
none_broken p broken.Pieces valid broke = broke.1 valid.men
none_broken p broken.Pawns valid broke = broke.2 valid.pawns
none_broken p broken.Check valid broke = broke.3 valid.check
none_broken p broken.Rights valid broke = broke.4 valid.rights
none_broken p broken.Target valid broke = broke.5 valid.target
none_broken p broken.Counter valid broke = broke.6 valid.counters

-- only one is the first
pub one_broken : (p : Position) (a b : BadBoard) → IsFirstBroken p a → IsFirstBroken p b → a ≡ b
one_broken p broken.Kings broken.Kings h k = refl
one_broken p broken.Kings b h k = absurd (h k.0)
one_broken p broken.Pieces broken.Kings h k = absurd (k h.0)
one_broken p broken.Pieces broken.Pieces h k = refl
one_broken p broken.Pieces b h k = absurd (h.1 k.1)
one_broken p broken.Pawns broken.Kings h k = absurd (k h.0)
one_broken p broken.Pawns broken.Pieces h k = absurd (k.1 h.1)
one_broken p broken.Pawns broken.Pawns h k = refl
one_broken p broken.Pawns b h k = absurd (h.2 k.2)
one_broken p broken.Check broken.Kings h k = absurd (k h.0)
one_broken p broken.Check broken.Pieces h k = absurd (k.1 h.1)
one_broken p broken.Check broken.Pawns h k = absurd (k.2 h.2)
one_broken p broken.Check broken.Check h k = refl
one_broken p broken.Check b h k = absurd (h.3 k.3)
one_broken p broken.Rights broken.Kings h k = absurd (k h.0)
one_broken p broken.Rights broken.Pieces h k = absurd (k.1 h.1)
one_broken p broken.Rights broken.Pawns h k = absurd (k.2 h.2)
one_broken p broken.Rights broken.Check h k = absurd (k.3 h.3)
one_broken p broken.Rights broken.Rights h k = refl
one_broken p broken.Rights b h k = absurd (h.4 k.4)
one_broken p broken.Target broken.Kings h k = absurd (k h.0)
one_broken p broken.Target broken.Pieces h k = absurd (k.1 h.1)
one_broken p broken.Target broken.Pawns h k = absurd (k.2 h.2)
one_broken p broken.Target broken.Check h k = absurd (k.3 h.3)
one_broken p broken.Target broken.Rights h k = absurd (k.4 h.4)
one_broken p broken.Target broken.Target h k = refl
one_broken p broken.Target b h k = absurd (h.5 k.5)
one_broken p broken.Counter broken.Kings h k = absurd (k h.0)
one_broken p broken.Counter broken.Pieces h k = absurd (k.1 h.1)
one_broken p broken.Counter broken.Pawns h k = absurd (k.2 h.2)
one_broken p broken.Counter broken.Check h k = absurd (k.3 h.3)
one_broken p broken.Counter broken.Rights h k = absurd (k.4 h.4)
one_broken p broken.Counter broken.Target h k = absurd (k.5 h.5)
one_broken p broken.Counter broken.Counter h k = refl
