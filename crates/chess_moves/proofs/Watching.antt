-- What a watch in one way more adds to the masks.
use Rattle.std.specs.Prelude.{ℕ, ◌≡◌, ◌⊎◌, ◌+◌, ◌%◌, ◌<◌, ◌≤◌, Bool, true, false, List, [], length, Some, is_some}
use Rattle.std.proofs.Common.{arith, refl, sym, ap, subst, ◌∙◌, inl, inr, below_more}
use Rattle.std.proofs.lemmas.Bool.{false≢true, cases_Bool, cases_eq}
use Rattle.std.proofs.lemmas.List.{length-map}
use Rattle.chess_bits.specs.declared.men.Kind.TheVariants.{King}
use Rattle.chess_bits.specs.Square.{Square, IsOnBoard}
use Rattle.chess_bits.specs.Man.{other}
use Rattle.chess_bits.specs.Table.{has, meet, union, members, IsSetOf}
use Rattle.chess_bits.specs.Attack.{along, SlidesAlong}
use Rattle.chess_bits.proofs.ManLemmas.{other-differs, same_colour}
use Rattle.chess_bits.proofs.TableLemmas.{on_board-from_at}
use Rattle.chess_bits.proofs.SetLemmas.{has-none, IsSetOf-union, IsSetOf-like}
use Rattle.chess_attacks.specs.Ways.{way_step}
use Rattle.chess_attacks.proofs.Nearest.{empty_slide}
use Rattle.chess_board.specs.Position.{Position, man_at, occupied_of, IsValid}
use Rattle.chess_board.specs.Legal.{HoldsColour}
use Rattle.chess_board.proofs.Candidates.{IsOnBoard-from_man}
use Rattle.chess_moves.specs.declared.masks.Masks.{Masks}
use Rattle.chess_moves.specs.Masks.{IsSlider, Stops, IsAloneBetween, EndsBelow, KeepsBelow, IsPathTo, NoneAhead, IsPinnedBelow, HoldsMasksBelow}
use Rattle.chess_moves.proofs.Ways.{way-differs, odd_or_even}
use Rattle.chess_moves.proofs.SetForms.{both_set}
use Rattle.chess_moves.proofs.Exact.{has-occupied}
use Rattle.chess_moves.proofs.Paths.{between_of, same_slider, seen_slide, none_between, alone_set, set_alone}

-- ---- the men

pub sliders_set : (p : Position) (masks : Masks) (n way : ℕ) (sliders : List Bool) → HoldsMasksBelow p n masks →
    (way % 2 ≡ 0 → sliders ≡ masks.straight) → (way % 2 ≡ 1 → sliders ≡ masks.diagonal) →
    IsSetOf sliders (IsSlider p way)
sliders_set p masks n way sliders holds even odd =
    let Set' : List Bool → Type 0 = λ set. IsSetOf set (IsSlider p way) in
    elim (odd_or_even way) [
      | inl e ↦ subst Set' (sym (even e)) (holds.straight way e)
      | inr e ↦ subst Set' (sym (odd e)) (holds.diagonal way e)
    ]

pub length-occupied : (p : Position) → IsValid p → length (occupied_of p.placement) ≡ 64
length-occupied p valid = length-map p.placement is_some ∙ valid.whole

slider_on : (p : Position) (way : ℕ) (c : Square) → IsSlider p way c → IsOnBoard c
slider_on p way c slider = IsOnBoard-from_man p.placement c (other p.side, slider.0) slider.1

pub own_on : (p : Position) (from : Square) → HoldsColour p from p.side → IsOnBoard from
own_on p from own = IsOnBoard-from_man p.placement from (p.side, own.0) own.1

own_stands : (p : Position) (from : Square) → HoldsColour p from p.side → has (occupied_of p.placement) from ≡ true
own_stands p from own = has-occupied p.placement from ∙ ap is_some own.1

-- sliders stand, and no own man is one
sliders_stand : (p : Position) (way : ℕ) (sliders : List Bool) → IsSetOf sliders (IsSlider p way) → (q : Square) →
    has sliders q ≡ true → has (occupied_of p.placement) q ≡ true
sliders_stand p way sliders of q here =
    let on : IsOnBoard q = on_board-from_at false sliders q (λ none. false≢true (sym none ∙ here)) in
    let slider = (of.exact q on).0 here in
    has-occupied p.placement q ∙ ap is_some slider.1

own_no_slider : (p : Position) (way : ℕ) (sliders : List Bool) (from : Square) → IsSetOf sliders (IsSlider p way) →
    HoldsColour p from p.side → has sliders from ≡ false
own_no_slider p way sliders from of own = elim (cases_Bool (has sliders from)) [
  | inr away ↦ away
  | inl here ↦
      let slider = (of.exact from (own_on p from own)).0 here in
      absurd (other-differs p.side (same_colour (man_at p.placement from) (other p.side, slider.0) (p.side, own.0)
      slider.1 own.1))
]

-- ---- one way more

-- what a watch knows of a way
record Watched (p : Position) (k : Square) (way : ℕ) (sliders : List Bool) : Type 0 where
  valid : IsValid p
  king : man_at p.placement k ≡ Some (p.side, King)
  below : way < 8
  of : IsSetOf sliders (IsSlider p way)

king_on : (p : Position) (k : Square) (way : ℕ) (sliders : List Bool) → Watched p k way sliders → IsOnBoard k
king_on p k way sliders w = IsOnBoard-from_man p.placement k (p.side, King) w.king

-- a slider of the way that gives check is the nearest
check_is_nearest : (p : Position) (k c : Square) (way : ℕ) (sliders path : List Bool) → Watched p k way sliders →
    (seen : IsPathTo sliders k (way_step way) path) → IsSlider p way c →
    SlidesAlong (occupied_of p.placement) k c (way_step way) → c ≡ seen.slider
check_is_nearest p k c way sliders path w seen slider slide =
    let on_c = slider_on p way c slider in
    same_slider (occupied_of p.placement) sliders path k c k (way_step way) slide.distance (way-differs way w.below) on_c
    seen ((w.of.exact c on_c).1 slider) slide.positive slide.there (sliders_stand p way sliders w.of)
    (own_no_slider p way sliders k w.of (King, w.king)) (λ j one less. inr (slide.between_empty j one less))

pin_is_nearest : (p : Position) (k c from : Square) (way : ℕ) (sliders path : List Bool) → Watched p k way sliders →
    (seen : IsPathTo sliders k (way_step way) path) → IsSlider p way c → HoldsColour p from p.side →
    IsAloneBetween (occupied_of p.placement) k c from (way_step way) → c ≡ seen.slider
pin_is_nearest p k c from way sliders path w seen slider own pin =
    let on_c = slider_on p way c slider in
    same_slider (occupied_of p.placement) sliders path k c from (way_step way) pin.between.far (way-differs way w.below) on_c
    seen ((w.of.exact c on_c).1 slider) (omega (arith, pin.between.positive, pin.between.nearer)) pin.between.there
    (sliders_stand p way sliders w.of) (own_no_slider p way sliders from w.of own)
    (λ j one less. elim (cases_eq j pin.between.near) [
      | inl e ↦ inl (ap (λ (i : ℕ). along i (way_step way) k) e ∙ sym pin.between.here)
      | inr other_place ↦ inr (pin.alone j one less other_place)
    ])

abbrev EndsIn : Position → Square → Square → ℕ → Type 0
EndsIn p k q way = (c : Square) → IsSlider p way c → SlidesAlong (occupied_of p.placement) k c (way_step way) →
    Stops k c (way_step way) q

abbrev NoPinIn : Position → Square → Square → ℕ → Type 0
NoPinIn p k from way = (c : Square) → IsSlider p way c →
    ¬ IsAloneBetween (occupied_of p.placement) k c from (way_step way)

abbrev KeepsIn : Position → Square → Square → Square → ℕ → Type 0
KeepsIn p k from q way = (c : Square) → IsSlider p way c →
    IsAloneBetween (occupied_of p.placement) k c from (way_step way) → Stops k c (way_step way) q

pub ends_more : (p : Position) (k q : Square) (way : ℕ) → EndsBelow p k way q → EndsIn p k q way →
    EndsBelow p k (way + 1) q
ends_more p k q way ends here = record {
  leaps = ends.leaps;
  slides = λ w c less slider slide.
      below_more (EndsIn p k q) way (λ w' less' c' slider' slide'. ends.slides w' c' less' slider' slide') here w less c
      slider slide;
}

pub ends_less : (p : Position) (k q : Square) (way : ℕ) → EndsBelow p k (way + 1) q →
    EndsBelow p k way q × EndsIn p k q way
ends_less p k q way ends = (
  record { leaps = ends.leaps; slides = λ w c less slider slide. ends.slides w c (omega arith) slider slide },
  λ c slider slide. ends.slides way c (omega arith) slider slide,
)

-- a way in which no man is pinned adds none
pins_same : (p : Position) (k : Square) (way : ℕ) (pinned : List Bool) → IsSetOf pinned (IsPinnedBelow p k way) →
    ((from : Square) → HoldsColour p from p.side → NoPinIn p k from way) →
    IsSetOf pinned (IsPinnedBelow p k (way + 1))
pins_same p k way pinned of none =
    IsSetOf-like pinned (IsPinnedBelow p k way) (IsPinnedBelow p k (way + 1)) of
    (λ from on (own, (w, c, less, slider, pin)). (own, (w, c, omega arith, slider, pin)))
    (λ from on (own, (w, c, less, slider, pin)). elim (cases_eq w way) [
      | inl same ↦
          let Slider' : ℕ → Type 0 = λ x. IsSlider p x c in
          let Alone' : ℕ → Type 0 = λ x. IsAloneBetween (occupied_of p.placement) k c from (way_step x) in
          absurd (none from own c (subst Slider' same slider) (subst Alone' same pin))
      | inr other_way ↦ (own, (w, c, omega arith, slider, pin))
    ])

pub keeps_more : (p : Position) (k from q : Square) (way : ℕ) → KeepsBelow p k from way q → KeepsIn p k from q way →
    KeepsBelow p k from (way + 1) q
keeps_more p k from q way keeps here w c less slider pin =
    below_more (KeepsIn p k from q) way (λ w' less' c' slider' pin'. keeps w' c' less' slider' pin') here w less c slider
    pin

pub keeps_less : (p : Position) (k from q : Square) (way : ℕ) → KeepsBelow p k from (way + 1) q →
    KeepsBelow p k from way q × KeepsIn p k from q way
keeps_less p k from q way keeps = (
  λ w c less slider pin. keeps w c (omega arith) slider pin,
  λ c slider pin. keeps way c (omega arith) slider pin,
)

-- ---- the four answers of a watch

check_ahead : (p : Position) (k c : Square) (way : ℕ) (sliders : List Bool) → Watched p k way sliders →
    NoneAhead sliders k (way_step way) → IsSlider p way c → (n : ℕ) → 1 ≤ n → c ≡ along n (way_step way) k → ⊥
check_ahead p k c way sliders w none slider n positive there =
    let on_c = slider_on p way c slider in
    none c on_c ((w.of.exact c on_c).1 slider)
    (empty_slide k c (way_step way) n (king_on p k way sliders w) on_c positive there)

-- a way in which nothing gives check and nothing pins leaves the masks as they are
nothing_watched : (p : Position) (masks : Masks) (way : ℕ) → HoldsMasksBelow p way masks →
    ((c : Square) → IsSlider p way c → ¬ SlidesAlong (occupied_of p.placement) masks.king c (way_step way)) →
    ((from : Square) → HoldsColour p from p.side → NoPinIn p masks.king from way) → HoldsMasksBelow p (way + 1) masks
nothing_watched p masks way holds no_check no_pin =
    let k : Square = masks.king in
    record {
      valid = holds.valid;
      king = holds.king;
      straight = holds.straight;
      diagonal = holds.diagonal;
      ends = IsSetOf-like masks.ends (EndsBelow p k way) (EndsBelow p k (way + 1)) holds.ends
          (λ q on ends. ends_more p k q way ends (λ c slider slide. absurd (no_check c slider slide)))
          (λ q on ends. (ends_less p k q way ends).0);
      pinned = pins_same p k way masks.pinned holds.pinned no_pin;
    }

pub none_watched : (p : Position) (masks : Masks) (way : ℕ) (sliders : List Bool) → IsValid p → way < 8 →
    IsSetOf sliders (IsSlider p way) → NoneAhead sliders masks.king (way_step way) → HoldsMasksBelow p way masks →
    HoldsMasksBelow p (way + 1) masks
none_watched p masks way sliders valid below of none holds =
    let k : Square = masks.king in
    let w : Watched p k way sliders = record { valid = valid; king = holds.king; below = below; of = of } in
    nothing_watched p masks way holds
    (λ c slider slide. check_ahead p k c way sliders w none slider slide.distance slide.positive slide.there)
    (λ from own c slider pin.
    check_ahead p k c way sliders w none slider pin.between.far (omega (arith, pin.between.positive, pin.between.nearer)) pin.between.there)

-- a man alone between is all that stands there
alone_there : (p : Position) (k c from : Square) (way : ℕ) (sliders path : List Bool) → Watched p k way sliders →
    (seen : IsPathTo sliders k (way_step way) path) → IsSlider p way c → HoldsColour p from p.side →
    IsAloneBetween (occupied_of p.placement) k c from (way_step way) →
    IsSetOf (between_of path (occupied_of p.placement) sliders) (λ q. q ≡ from)
alone_there p k c from way sliders path w seen slider own pin =
    let Alone' : Square → Type 0 = λ x. IsAloneBetween (occupied_of p.placement) k x from (way_step way) in
    alone_set (occupied_of p.placement) sliders path k from (way_step way) (way-differs way w.below)
    (king_on p k way sliders w) (own_on p from own) (length-occupied p w.valid) w.of.whole seen (own_stands p from own)
    (subst Alone' (pin_is_nearest p k c from way sliders path w seen slider own pin) pin)

-- nothing stands between: it gives check, and pins no man
pub check_watched : (p : Position) (masks : Masks) (way : ℕ) (sliders path : List Bool) → IsValid p → way < 8 →
    IsSetOf sliders (IsSlider p way) → IsPathTo sliders masks.king (way_step way) path →
    members (between_of path (occupied_of p.placement) sliders) ≡ [] → HoldsMasksBelow p way masks →
    HoldsMasksBelow p (way + 1) (record masks { ends = meet masks.ends path })
check_watched p masks way sliders path valid below of seen none holds =
    let k : Square = masks.king in
    let occupied : List Bool = occupied_of p.placement in
    let w : Watched p k way sliders = record { valid = valid; king = holds.king; below = below; of = of } in
    let slide = seen_slide occupied sliders path k (way_step way) (king_on p k way sliders w) (length-occupied p valid)
    of.whole seen none in
    let Stops' : Square → Square → Type 0 = λ q x. Stops k x (way_step way) q in
    record {
      valid = holds.valid;
      king = holds.king;
      straight = holds.straight;
      diagonal = holds.diagonal;
      ends = IsSetOf-like (meet masks.ends path) (λ q. EndsBelow p k way q × Stops k seen.slider (way_step way) q)
          (EndsBelow p k (way + 1))
          (both_set masks.ends path (EndsBelow p k way) (Stops k seen.slider (way_step way)) holds.ends seen.squares)
          (λ q on both. ends_more p k q way both.0 (λ c slider slide'.
          subst (Stops' q) (sym (check_is_nearest p k c way sliders path w seen slider slide')) both.1))
          (λ q on ends.
          let less = ends_less p k q way ends in
          (less.0, less.1 seen.slider ((of.exact seen.slider seen.on_board).0 seen.member) slide));
      pinned = pins_same p k way masks.pinned holds.pinned
          (λ from own c slider pin.
          let on_from = own_on p from own in
          let alone = alone_there p k c from way sliders path w seen slider own pin in
          false≢true (sym (has-none (between_of path occupied sliders) from on_from none)
          ∙ (alone.exact from on_from).1 refl));
    }

-- something stands between: no check comes from there
no_check : (p : Position) (k c : Square) (way : ℕ) (sliders path : List Bool) → Watched p k way sliders →
    IsPathTo sliders k (way_step way) path →
    ¬ (members (between_of path (occupied_of p.placement) sliders) ≡ []) → IsSlider p way c →
    ¬ SlidesAlong (occupied_of p.placement) k c (way_step way)
no_check p k c way sliders path w seen some slider slide =
    let Slides' : Square → Type 0 = λ x. SlidesAlong (occupied_of p.placement) k x (way_step way) in
    some (none_between (occupied_of p.placement) sliders path k (way_step way) (way-differs way w.below)
    (length-occupied p w.valid) w.of.whole seen
    (subst Slides' (check_is_nearest p k c way sliders path w seen slider slide) slide))

-- one man stands between: it is pinned if it is an own one
pub pin_watched : (p : Position) (masks : Masks) (way : ℕ) (sliders path own : List Bool) → IsValid p → way < 8 →
    IsSetOf sliders (IsSlider p way) → IsPathTo sliders masks.king (way_step way) path →
    IsSetOf own (λ q. HoldsColour p q p.side) →
    ¬ (members (between_of path (occupied_of p.placement) sliders) ≡ []) →
    ((s : Square) × IsOnBoard s × IsSetOf (between_of path (occupied_of p.placement) sliders) (λ q. q ≡ s)) →
    HoldsMasksBelow p way masks →
    HoldsMasksBelow p (way + 1)
    (record masks { pinned = union masks.pinned (meet (between_of path (occupied_of p.placement) sliders) own) })
pin_watched p masks way sliders path own valid below of seen of_own some (s, on_s, alone) holds =
    let k : Square = masks.king in
    let occupied : List Bool = occupied_of p.placement in
    let between : List Bool = between_of path occupied sliders in
    let w : Watched p k way sliders = record { valid = valid; king = holds.king; below = below; of = of } in
    let Own : Square → Type 0 = λ q. HoldsColour p q p.side in
    let Alone' : Square → Type 0 = λ x. IsSetOf between (λ q. q ≡ x) in
    let pin = λ (from : Square) (on : IsOnBoard from) (same : from ≡ s).
    set_alone occupied sliders path k from (way_step way) (way-differs way below) (king_on p k way sliders w) on
    (length-occupied p valid) of.whole seen (subst Alone' (sym same) alone) in
    record {
      valid = holds.valid;
      king = holds.king;
      straight = holds.straight;
      diagonal = holds.diagonal;
      ends = IsSetOf-like masks.ends (EndsBelow p k way) (EndsBelow p k (way + 1)) holds.ends
          (λ q on ends. ends_more p k q way ends (λ c slider slide.
          absurd (no_check p k c way sliders path w seen some slider slide)))
          (λ q on ends. (ends_less p k q way ends).0);
      pinned = IsSetOf-like (union masks.pinned (meet between own))
          (λ q. IsPinnedBelow p k way q ⊎ ((q ≡ s) × Own q)) (IsPinnedBelow p k (way + 1))
          (IsSetOf-union masks.pinned (meet between own) (IsPinnedBelow p k way) (λ q. (q ≡ s) × Own q) holds.pinned
          (both_set between own (λ q. q ≡ s) Own alone of_own))
          (λ from on either. elim either [
            | inl (held, (x, c, less, slider, pin')) ↦ (held, (x, c, omega arith, slider, pin'))
            | inr (same, held) ↦ (
              held,
              (
                way,
                seen.slider,
                omega arith,
                (of.exact seen.slider seen.on_board).0 seen.member,
                pin from on same,
              ),
            )
          ])
          (λ from on (held, (x, c, less, slider, pin')). elim (cases_eq x way) [
            | inl same ↦
                let Slider' : ℕ → Type 0 = λ n. IsSlider p n c in
                let Between' : ℕ → Type 0 = λ n. IsAloneBetween occupied k c from (way_step n) in
                let there = alone_there p k c from way sliders path w seen (subst Slider' same slider) held
                (subst Between' same pin') in
                inr (sym ((there.exact s on_s).0 ((alone.exact s on_s).1 refl)), held)
            | inr other_way ↦ inl (held, (x, c, omega arith, slider, pin'))
          ]);
    }

-- more men stand between
pub crowd_watched : (p : Position) (masks : Masks) (way : ℕ) (sliders path : List Bool) → IsValid p → way < 8 →
    IsSetOf sliders (IsSlider p way) → IsPathTo sliders masks.king (way_step way) path →
    ¬ (members (between_of path (occupied_of p.placement) sliders) ≡ []) →
    ¬ ((s : Square) × IsOnBoard s × IsSetOf (between_of path (occupied_of p.placement) sliders) (λ q. q ≡ s)) →
    HoldsMasksBelow p way masks → HoldsMasksBelow p (way + 1) masks
crowd_watched p masks way sliders path valid below of seen some many holds =
    let k : Square = masks.king in
    let w : Watched p k way sliders = record { valid = valid; king = holds.king; below = below; of = of } in
    nothing_watched p masks way holds (λ c slider slide. no_check p k c way sliders path w seen some slider slide)
    (λ from own c slider pin.
    many (from, own_on p from own, alone_there p k c from way sliders path w seen slider own pin))

-- ---- the line of a man

pub line_none : (p : Position) (masks : Masks) (way : ℕ) (sliders line : List Bool) (from : Square) → IsValid p →
    way < 8 → IsSetOf sliders (IsSlider p way) → NoneAhead sliders masks.king (way_step way) →
    man_at p.placement masks.king ≡ Some (p.side, King) → IsSetOf line (KeepsBelow p masks.king from way) →
    IsSetOf line (KeepsBelow p masks.king from (way + 1))
line_none p masks way sliders line from valid below of none king of_line =
    let k : Square = masks.king in
    let w : Watched p k way sliders = record { valid = valid; king = king; below = below; of = of } in
    IsSetOf-like line (KeepsBelow p k from way) (KeepsBelow p k from (way + 1)) of_line
    (λ q on keeps. keeps_more p k from q way keeps (λ c slider pin.
    absurd (check_ahead p k c way sliders w none slider pin.between.far (omega (arith, pin.between.positive, pin.between.nearer)) pin.between.there)))
    (λ q on keeps. (keeps_less p k from q way keeps).0)

pub line_free : (p : Position) (masks : Masks) (way : ℕ) (sliders path line : List Bool) (from : Square) → IsValid p →
    way < 8 → IsSetOf sliders (IsSlider p way) → IsPathTo sliders masks.king (way_step way) path →
    HoldsColour p from p.side →
    ¬ IsSetOf (between_of path (occupied_of p.placement) sliders) (λ q. q ≡ from) →
    man_at p.placement masks.king ≡ Some (p.side, King) → IsSetOf line (KeepsBelow p masks.king from way) →
    IsSetOf line (KeepsBelow p masks.king from (way + 1))
line_free p masks way sliders path line from valid below of seen own many king of_line =
    let k : Square = masks.king in
    let w : Watched p k way sliders = record { valid = valid; king = king; below = below; of = of } in
    IsSetOf-like line (KeepsBelow p k from way) (KeepsBelow p k from (way + 1)) of_line
    (λ q on keeps. keeps_more p k from q way keeps (λ c slider pin.
    absurd (many (alone_there p k c from way sliders path w seen slider own pin))))
    (λ q on keeps. (keeps_less p k from q way keeps).0)

pub line_pinned : (p : Position) (masks : Masks) (way : ℕ) (sliders path line : List Bool) (from : Square) → IsValid p →
    way < 8 → IsSetOf sliders (IsSlider p way) → IsPathTo sliders masks.king (way_step way) path →
    HoldsColour p from p.side →
    IsSetOf (between_of path (occupied_of p.placement) sliders) (λ q. q ≡ from) →
    man_at p.placement masks.king ≡ Some (p.side, King) → IsSetOf line (KeepsBelow p masks.king from way) →
    IsSetOf (meet line path) (KeepsBelow p masks.king from (way + 1))
line_pinned p masks way sliders path line from valid below of seen own alone king of_line =
    let k : Square = masks.king in
    let w : Watched p k way sliders = record { valid = valid; king = king; below = below; of = of } in
    let pin = set_alone (occupied_of p.placement) sliders path k from (way_step way) (way-differs way below)
    (king_on p k way sliders w) (own_on p from own) (length-occupied p valid) of.whole seen alone in
    let Stops' : Square → Square → Type 0 = λ q x. Stops k x (way_step way) q in
    IsSetOf-like (meet line path) (λ q. KeepsBelow p k from way q × Stops k seen.slider (way_step way) q)
    (KeepsBelow p k from (way + 1))
    (both_set line path (KeepsBelow p k from way) (Stops k seen.slider (way_step way)) of_line seen.squares)
    (λ q on both. keeps_more p k from q way both.0 (λ c slider pin'.
    subst (Stops' q) (sym (pin_is_nearest p k c from way sliders path w seen slider own pin')) both.1))
    (λ q on keeps.
    let less = keeps_less p k from q way keeps in
    (less.0, less.1 seen.slider ((of.exact seen.slider seen.on_board).0 seen.member) pin))
