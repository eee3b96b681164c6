use Rattle.std.specs.Prelude.{◌≡◌, ◌↔◌, Bool, true}
use Rattle.std.proofs.Common.{sym, ◌∙◌, subst, inl, inr}
use Rattle.chess_bits.specs.declared.men.Colour.{Colour}
use Rattle.chess_bits.specs.declared.men.Colour.TheVariants as side
use Rattle.chess_bits.specs.Man.{other}
use Rattle.chess_bits.specs.Placement.{Placement}
use Rattle.chess_end.specs.declared.ending.GameResult.{GameResult}
use Rattle.chess_end.specs.declared.ending.GameResult.TheVariants.{Draw}
use Rattle.chess_end.specs.Ending.{IsFlagResult, won_by}
use Rattle.chess_end.specs.Material.{HasKingAlone}
use Rattle.chess_mates.proofs.Dead.{alone_never}
use Rattle.chess_mates.proofs.material.is_alone.Goals as goal

won_is_no_draw : (c : Colour) → won_by c ≡ Draw → ⊥
won_is_no_draw side.White e = absurd (cc)
won_is_no_draw side.Black e = absurd (cc)

drawn_alone : (t : Placement) (c : Colour) (r : GameResult) (b : Bool) → IsFlagResult t (other c) r →
    (b ≡ true) ↔ (r ≡ Draw) → (b ≡ true) ↔ HasKingAlone t c
drawn_alone t side.White r b (inl alone) is = (λ _. alone.0, λ _. is.1 alone.1)
drawn_alone t side.White r b (inr won) is =
    (λ e. absurd (won_is_no_draw side.White (sym won.1 ∙ is.0 e)), λ alone. absurd (won.0 alone))
drawn_alone t side.Black r b (inl alone) is = (λ _. alone.0, λ _. is.1 alone.1)
drawn_alone t side.Black r b (inr won) is =
    (λ e. absurd (won_is_no_draw side.Black (sym won.1 ∙ is.0 e)), λ alone. absurd (won.0 alone))

pub returns : goal.returns
returns c =
    let t : Placement = c.args.board.now.placement in
    let r : GameResult = c.flag_result.result.result in
    let flag : IsFlagResult t (other c.args.side) r =
    subst (λ (x : Colour). IsFlagResult t x r) c.other.ensures c.flag_result.ensures.result in
    let told = drawn_alone t c.args.side r c.is_draw.result flag c.is_draw.ensures in
    record {
      alone = told;
      cannot = λ e. alone_never c.args.side c.args.board.now c.rights-valid.ensures.valid (told.0 e);
    }
