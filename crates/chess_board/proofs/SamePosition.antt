-- Positions with the same parts are the same.
use Rattle.std.specs.Prelude.{ℕ, ◌≡◌, List, Option}
use Rattle.std.proofs.Common.{ap, ◌∙◌}
use Rattle.chess_bits.specs.declared.men.Colour.{Colour}
use Rattle.chess_bits.specs.Square.{Square}
use Rattle.chess_bits.specs.Man.{Man}
use Rattle.chess_board.specs.Position.{Position, Rights}

abbrev made_of : List (Option Man) → Colour → Rights → Option Square → ℕ → ℕ → Position
made_of men side rights target half full = record {
  placement = men;
  side = side;
  rights = rights;
  target = target;
  halfmove = half;
  fullmove = full;
}

-- a position by its parts
pub same_position : (p : Position) (men : List (Option Man)) (side : Colour) (rights : Rights)
    (target : Option Square) (half full : ℕ) →
    men ≡ p.placement → side ≡ p.side → rights ≡ p.rights → target ≡ p.target → half ≡ p.halfmove → full ≡ p.fullmove →
    made_of men side rights target half full ≡ p
same_position p men side rights target half full a b c d e f =
    ap (λ x. made_of x side rights target half full) a
    ∙ (ap (λ x. made_of p.placement x rights target half full) b
    ∙ (ap (λ x. made_of p.placement p.side x target half full) c
    ∙ (ap (λ x. made_of p.placement p.side p.rights x half full) d
    ∙ (ap (λ x. made_of p.placement p.side p.rights p.target x full) e
    ∙ ap (λ x. made_of p.placement p.side p.rights p.target p.halfmove x) f))))
