use Rattle.std.proofs.Common.{◌≡◌, ◌∙◌, ap, sym, subst, arith, List, Bool, inl, inr, ◌<◌}
use Rattle.std.specs.Prelude.{◌⊎◌, Some, ℕ}
use Rattle.std.proofs.lemmas.Bool.{cases_lt, cases_eq}
use Rattle.chess_bits.specs.Table.{members, head_of, IsGreatest}
use Rattle.chess_attacks.specs.Ways.{way_step, IsRising, IsFalling}
use Rattle.chess_moves.proofs.Paths.{none_ahead, rising_path, falling_path}
use Rattle.chess_moves.proofs.watch.path_to.Goals as goal

rising_or_falling : (way : ℕ) → way < 8 → IsRising way ⊎ IsFalling way
rising_or_falling way below = elim (cases_lt way 3) [
  | inl early ↦ inl (inl early)
  | inr late ↦ elim (cases_eq way 7) [
    | inl last ↦ inl (inr last)
    | inr other ↦ inr (omega arith, omega arith)
  ]
]

pub returns-in-None-clause-none : goal.returns-in-None-clause-none
returns-in-None-clause-none c =
    none_ahead c.ray-whole.result c.args.sliders c.args.king (way_step c.args.way) c.ray-whole.ensures.squares
    (ap members (sym c.meet.ensures) ∙ c.in-None.ensures.none)

pub returns-in-Some-clause-some : goal.returns-in-Some-clause-some
returns-in-Some-clause-some c =
    let First' : List Bool → Type 0 = λ set. Some c.in-Some.slider ≡ head_of (members set) in
    let Last' : List Bool → Type 0 = λ set. IsGreatest set c.in-Some.slider in
    rw c.without.ensures
    (elim (rising_or_falling c.args.way c.requires) [
      | inl rising ↦ rising_path c.ray-whole.result c.ray.result c.args.sliders c.args.king c.in-Some.slider c.args.way
          c.requires c.ray-whole.ensures.on_board rising c.ray-whole.ensures.squares c.ray.ensures.squares
          (subst First' c.meet.ensures (c.in-Some.ensures.rising rising))
      | inr falling ↦ falling_path c.ray-whole.result c.ray.result c.args.sliders c.args.king c.in-Some.slider c.args.way
          c.requires c.ray-whole.ensures.on_board falling c.ray-whole.ensures.squares c.ray.ensures.squares
          (subst Last' c.meet.ensures (c.in-Some.ensures.falling falling))
    ])
