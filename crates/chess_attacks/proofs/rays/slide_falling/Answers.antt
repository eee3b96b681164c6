use Rattle.std.proofs.Common.{◌∙◌, ap, sym, subst, List, Bool}
use Rattle.chess_bits.specs.Table.{members, meet, without, IsSetOf, IsGreatest}
use Rattle.chess_bits.specs.Attack.{SlidesAlong}
use Rattle.chess_attacks.specs.Ways.{way_step}
use Rattle.chess_attacks.proofs.WayLemmas.{falling-adds, falling-falls}
use Rattle.chess_attacks.proofs.Cutting.{whole_slide, falling_slide}
use Rattle.chess_attacks.proofs.rays.slide_falling.Goals as goal

pub returns-in-None : goal.returns-in-None
returns-in-None c =
    whole_slide c.ray-whole.result c.args.occupied c.args.square (way_step c.args.way) c.ray-whole.ensures.on_board
    c.ray-whole.ensures.squares (ap members (sym c.meet.ensures) ∙ c.in-None.ensures.none)

pub returns-in-Some : goal.returns-in-Some
returns-in-Some c =
    let Slide' : List Bool → Type 0 = λ set. IsSetOf set (λ b. SlidesAlong c.args.occupied c.args.square b
    (way_step c.args.way)) in
    let Last' : List Bool → Type 0 = λ set. IsGreatest set c.in-Some.blocker in
    subst Slide' (sym c.without.ensures)
    (falling_slide c.ray-whole.result c.ray.result c.args.occupied c.args.square c.in-Some.blocker
    (way_step c.args.way) c.ray-whole.ensures.on_board (falling-adds c.args.way c.requires)
    (falling-falls c.args.way c.requires) c.ray-whole.ensures.squares c.ray.ensures.squares
    (subst Last' c.meet.ensures c.in-Some.ensures.greatest))
