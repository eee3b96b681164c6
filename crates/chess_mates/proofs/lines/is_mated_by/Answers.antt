use Rattle.std.specs.Prelude.{◌≡◌, ◌↔◌, Bool, true, false, ◌&&◌, not}
use Rattle.std.proofs.Common.{refl, sym, ◌∙◌}
use Rattle.std.proofs.lemmas.Bool.{false≢true}
use Rattle.chess_bits.specs.declared.men.Colour.{Colour}
use Rattle.chess_bits.specs.Man.{other}
use Rattle.chess_board.specs.Position.{Position, IsInCheck}
use Rattle.chess_moves.specs.Moves.{HasLegal}
use Rattle.chess_mates.specs.Mates.{IsMatedBy}
use Rattle.chess_mates.proofs.lines.is_mated_by.Goals as goal

mated : (side : Colour) (p : Position) (turn check moves : Bool) → (turn ≡ true) ↔ (p.side ≡ other side) →
    (check ≡ true) ↔ IsInCheck p.placement p.side → (moves ≡ true) ↔ HasLegal p →
    ((turn && check && not moves) ≡ true) ↔ IsMatedBy side p
mated side p false check moves a b d =
    (λ e. absurd (false≢true e), λ mated. absurd (false≢true (a.1 mated.turn)))
mated side p true false moves a b d =
    (λ e. absurd (false≢true e), λ mated. absurd (false≢true (b.1 mated.mate.check)))
mated side p true true true a b d = (λ e. absurd (false≢true e), λ mated. absurd (mated.mate.stuck (d.0 refl)))
mated side p true true false a b d = (
  λ _. record {
    turn = a.0 refl;
    mate = record { check = b.0 refl; stuck = λ has. false≢true (d.1 has) };
  },
  λ _. refl,
)

pub returns : goal.returns
returns c =
    let turn = c.is_same_side-turn.ensures in
    mated c.args.side c.args.board.now c.is_same_side-turn.result c.in_check-check.result c.has_legal-moves.result (
      λ e. sym c.side.ensures ∙ turn.0 e ∙ c.other.ensures,
      λ e. turn.1 (c.side.ensures ∙ e ∙ sym c.other.ensures),
    )
    c.in_check-check.ensures c.has_legal-moves.ensures
