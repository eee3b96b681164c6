use Rattle.std.proofs.Common.{◌≡◌, ◌∙◌, Some, ap, subst, arith}
use Rattle.chess_board.specs.Parts.{IsFirstBroken}
use Rattle.chess_board.specs.Position.{Position, IsValid}
use Rattle.chess_board.specs.RightsOf.{rights_of}
use Rattle.chess_board.proofs.Broken.{none_broken}
use Rattle.chess_board.proofs.SamePosition.{same_position}
use Rattle.rec_codec.specs.Position.{position_flags, target_number, position_bytes}
use Rattle.rec_codec.proofs.PositionLemmas.{position-stands, target_on_board}
use Rattle.rec_codec.proofs.position.board_of.Goals.{After-u16_at-2}
use Rattle.rec_codec.proofs.position.board_of.Goals as goal

-- the parts that are read are those of the position
same : (c : After-u16_at-2) (p : Position) → IsValid p → c.args.bytes.now ≡ position_bytes (Some p) →
    (let made : Position = record {
      placement = c.men_of.result;
      side = c.side_of.result;
      rights = rights_of c.rights_of.result;
      target = c.target_of.result;
      halfmove = c.u16_at.result;
      fullmove = c.u16_at-2.result;
    } in made) ≡ p
same c p valid e =
    let s = position-stands p c.args.bytes.now e in
    let flags = c.u8_at-flags.ensures (position_flags p) s.1.0 in
    same_position p c.men_of.result c.side_of.result
    (rights_of c.rights_of.result) c.target_of.result c.u16_at.result c.u16_at-2.result
    (c.men_of.ensures p.placement valid.whole (c.split_at.ensures.front ∙ s.0))
    (c.side_of.ensures p flags) (c.rights_of.ensures p flags)
    (c.target_of.ensures p.target (target_on_board p valid) (c.u8_at-target.ensures (target_number p.target) s.1.1.0))
    (c.u16_at.ensures p.halfmove (omega (arith, valid.counters.0)) s.1.1.1.0)
    (c.u16_at-2.ensures p.fullmove (omega (arith, valid.counters.2)) s.1.1.1.1.0)

pub returns-in-Ok : goal.returns-in-Ok
returns-in-Ok c = λ p valid e. ap Some (c.in-Ok.ensures.ok ∙ same (goal.at.returns-in-Ok c).After-u16_at-2 p valid e)

pub returns-in-Err : goal.returns-in-Err
returns-in-Err c = λ p valid e.
    absurd (none_broken p c.in-Err.field-0 valid (subst (λ q. IsFirstBroken q c.in-Err.field-0)
    (same (goal.at.returns-in-Err c).After-u16_at-2 p valid e) c.in-Err.ensures.err))
