use Rattle.std.proofs.Common.{◌∙◌, ap, sym, subst, List, Bool}
use Rattle.chess_bits.specs.Table.{members, meet, without, head_of, IsSetOf}
use Rattle.chess_bits.specs.Attack.{SlidesAlong}
use Rattle.chess_bits.proofs.SetLemmas.{no_head}
use Rattle.chess_attacks.specs.Ways.{way_step}
use Rattle.chess_attacks.proofs.WayLemmas.{rising-adds, rising-rises}
use Rattle.chess_attacks.proofs.Cutting.{whole_slide, rising_slide}
use Rattle.chess_attacks.proofs.rays.slide_rising.Goals as goal

pub returns-in-None : goal.returns-in-None
returns-in-None c =
    whole_slide c.ray-whole.result c.args.occupied c.args.square (way_step c.args.way) c.ray-whole.ensures.on_board
    c.ray-whole.ensures.squares
    (ap members (sym c.meet.ensures) ∙ no_head (members c.meet.result) c.in-None.ensures)

pub returns-in-Some : goal.returns-in-Some
returns-in-Some c =
    let Slide' : List Bool → Type 0 = λ set. IsSetOf set (λ b. SlidesAlong c.args.occupied c.args.square b
    (way_step c.args.way)) in
    subst Slide' (sym c.without.ensures)
    (rising_slide c.ray-whole.result c.ray.result c.args.occupied c.args.square c.in-Some.blocker
    (way_step c.args.way) c.ray-whole.ensures.on_board (rising-adds c.args.way c.requires)
    (rising-rises c.args.way c.requires) c.ray-whole.ensures.squares c.ray.ensures.squares
    (c.in-Some.ensures ∙ ap (λ (bs : List Bool). head_of (members bs)) c.meet.ensures))
