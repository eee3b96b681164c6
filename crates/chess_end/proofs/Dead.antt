-- When the listed material is left.
use Rattle.std.specs.Prelude.{ℕ, ◌≡◌, ◌+◌, ◌≤◌, ◌⊎◌, ◌↔◌, Bool, true, false, cond, not, ◌&&◌, List, [], length, Option, Some, None, count_by}
use Rattle.std.proofs.Common.{refl, sym, ap, ◌∙◌, inl, inr, arith}
use Rattle.std.proofs.lemmas.Bool.{false≢true, cases_Bool, cases_lt}
use Rattle.std.proofs.lemmas.List.{length-map}
use Rattle.std.proofs.lemmas.Option.{same_Some}
use Rattle.std.proofs.lemmas.Bool.Decides.{same_from_decides}
use Rattle.chess_bits.specs.declared.men.Kind.{Kind}
use Rattle.chess_bits.specs.declared.men.Kind.TheVariants.{Knight, Bishop, King}
use Rattle.chess_bits.specs.Square.{Square, IsOnBoard, is_square}
use Rattle.chess_bits.specs.Man.{Man, is_kind, holds}
use Rattle.chess_bits.specs.Table.{at, has, put, meet, without, members, IsSetOf}
use Rattle.chess_bits.specs.Placement.{Placement, man_at}
use Rattle.chess_bits.proofs.TableLemmas.{length-put, at-put, is_square-true, is_square-false, count_by-put, square_from_count_by, same_from_count_by}
use Rattle.chess_bits.proofs.ManLemmas.{same_man, is_kind-true}
use Rattle.chess_bits.proofs.SetLemmas.{has-meet, has-without, length-meet}
use Rattle.chess_bits.proofs.Deciding.{and_decides}
use Rattle.chess_board.specs.Occupancy.{squares_with, is_a}
use Rattle.chess_board.proofs.AttackLemmas.{has-squares_with}
use Rattle.chess_board.proofs.Candidates.{IsOnBoard-from_man}
use Rattle.chess_end.specs.Material.{is_dark, EachMan, AreKingsAndKnight, IsBishopOn, AreBishopsOn, AreKingsAndBishops, IsListedDead}
use Rattle.chess_end.specs.Computing.{is_other, is_shade}
use Rattle.chess_end.proofs.EachManLemmas.{each_man-empty, Decides-kind, either, without-squares_with}
use Rattle.chess_end.proofs.Shades.{Decides-is_shade}

-- ---- bishops

shaded : (here : Option Man) (x : Bool) →
    (holds is_other here && not (holds (is_a Bishop) here && x)) ≡
    holds (λ man. not (is_kind King man.1) && not (is_kind Bishop man.1 && x)) here
shaded None x = refl
shaded (Some man) x = refl

bishops_told : (placement : Placement) (dark : Bool) (shade : List Bool) (s : Square) → length placement ≡ 64 →
    IsSetOf shade (λ s. is_dark s ≡ dark) → IsOnBoard s →
    has (without (squares_with is_other placement) (meet (squares_with (is_a Bishop) placement) shade)) s ≡
    holds (λ man. not (is_kind King man.1) && not (is_kind Bishop man.1 && is_shade dark s)) (man_at placement s)
bishops_told placement dark shade s whole of on =
    let bishops = squares_with (is_a Bishop) placement in
    let here = man_at placement s in
    let len_bishops : length (squares_with (is_a Bishop) placement) ≡ 64 =
    length-map placement (holds (is_a Bishop)) ∙ whole in
    let len : length (squares_with is_other placement) ≡ length (meet (squares_with (is_a Bishop) placement) shade) =
    length-map placement (holds is_other) ∙ whole
    ∙ sym (length-meet (squares_with (is_a Bishop) placement) shade (len_bishops ∙ sym of.whole) ∙ len_bishops) in
    let shade_is : has shade s ≡ is_shade dark s =
    same_from_decides (has shade s) (is_shade dark s) (of.exact s on) (Decides-is_shade dark s) in
    has-without (squares_with is_other placement) (meet (squares_with (is_a Bishop) placement) shade) s len
    ∙ ap (λ (x : Bool). x && not (has (meet (squares_with (is_a Bishop) placement) shade) s))
    (has-squares_with is_other placement s)
    ∙ ap (λ (x : Bool). holds is_other (man_at placement s) && not x)
    (has-meet (squares_with (is_a Bishop) placement) shade s
    ∙ ap (λ (x : Bool). x && has shade s) (has-squares_with (is_a Bishop) placement s)
    ∙ ap (λ (x : Bool). holds (is_a Bishop) (man_at placement s) && x) shade_is)
    ∙ shaded (man_at placement s) (is_shade dark s)

pub bishops-empty : (placement : Placement) (dark : Bool) (shade set : List Bool) (b : Bool) → length placement ≡ 64 →
    IsSetOf shade (λ s. is_dark s ≡ dark) →
    set ≡ without (squares_with is_other placement) (meet (squares_with (is_a Bishop) placement) shade) →
    (b ≡ true) ↔ (members set ≡ []) → (b ≡ true) ↔ AreBishopsOn dark placement
bishops-empty placement dark shade set b whole of made is =
    each_man-empty set b placement
    (λ s man. not (is_kind King man.1) && not (is_kind Bishop man.1 && is_shade dark s))
    (λ s man. (man.1 ≡ King) ⊎ IsBishopOn dark s man) is
    (λ s on. ap (λ (bs : List Bool). has bs s) made ∙ bishops_told placement dark shade s whole of on)
    (λ s man. either (is_kind King man.1) (is_kind Bishop man.1 && is_shade dark s) (Decides-kind King man.1)
    (and_decides (Decides-kind Bishop man.1) (Decides-is_shade dark s)))

pub bishops-else : (placement : Placement) (a b : Bool) → a ≡ false → (a ≡ true) ↔ AreBishopsOn true placement →
    (b ≡ true) ↔ AreBishopsOn false placement → (b ≡ true) ↔ AreKingsAndBishops placement
bishops-else placement a b fails d e = (λ told. (false, e.0 told), λ h. pick h.0 h.1)
  where
    pick : (dark : Bool) → AreBishopsOn dark placement → b ≡ true
    pick true on = absurd (false≢true (sym fails ∙ d.1 on))
    pick false on = e.1 on

-- ---- a knight

abbrev AreKingsOrKnights : Placement → Type 0
AreKingsOrKnights placement = EachMan (λ s man. (man.1 ≡ King) ⊎ (man.1 ≡ Knight)) placement

knights-empty : (placement : Placement) (set : List Bool) (b : Bool) →
    set ≡ without (squares_with is_other placement) (squares_with (is_a Knight) placement) →
    (b ≡ true) ↔ (members set ≡ []) → (b ≡ true) ↔ AreKingsOrKnights placement
knights-empty placement set b made is =
    let bad : Man → Bool = λ man. is_other man && not (is_a Knight man) in
    let told = made ∙ without-squares_with is_other (is_a Knight) placement in
    each_man-empty set b placement (λ s man. bad man) (λ s man. (man.1 ≡ King) ⊎ (man.1 ≡ Knight)) is
    (λ s on. ap (λ (bs : List Bool). has bs s) told ∙ has-squares_with bad placement s)
    (λ s man. either (is_kind King man.1) (is_kind Knight man.1) (Decides-kind King man.1) (Decides-kind Knight man.1))

other_man : (here : Option Man) → holds is_other here ≡ true → (man : Man) × (here ≡ Some man) × (is_other man ≡ true)
other_man None e = absurd (false≢true e)
other_man (Some man) e = (man, refl, e)

king_is_no_other : (man : Man) → is_other man ≡ true → man.1 ≡ King → ⊥
king_is_no_other man e king = false≢true (sym (ap (λ (k : Kind). not (is_kind King k)) king) ∙ e)

-- the one man that is no king is a knight
knight_found : (placement : Placement) → length placement ≡ 64 → count_by (holds is_other) placement ≡ 1 →
    AreKingsOrKnights placement → AreKingsAndKnight placement
knight_found placement whole one each =
    let (s, on, at_s) = square_from_count_by (holds is_other) None placement whole (omega arith) in
    let (man, here, other) = other_man (man_at placement s) at_s in
    elim (each s man here) [
      | inl king ↦ absurd (king_is_no_other man other king)
      | inr knight ↦ record {
        square = s;
        side = man.0;
        knight = here ∙ ap Some (same_man man (man.0, Knight) refl knight);
        others = λ q m there ne. elim (cases_Bool (is_kind King m.1)) [
          | inl king ↦ sym (is_kind-true King m.1 king)
          | inr fails ↦
              let at_q : holds is_other (man_at placement q) ≡ true = ap (holds is_other) there ∙ ap not fails in
              absurd (ne (same_from_count_by (holds is_other) None placement q s whole
              (IsOnBoard-from_man placement q m there) on one at_q at_s))
        ];
      }
    ]

none_counted : (n : ℕ) → (1 ≤ n → ⊥) → n ≡ 0
none_counted n fails = elim (cases_lt 0 n) [ inl some ↦ absurd (fails (omega arith)) | inr none ↦ omega arith ]

no_second : (placement : Placement) → length placement ≡ 64 → (h : AreKingsAndKnight placement) → IsOnBoard h.square →
    (q : Square) → holds is_other (at None (put placement h.square None) q) ≡ true → ⊥
no_second placement whole h on q at_q = elim (cases_Bool (is_square q h.square)) [
  | inl same ↦
      false≢true (sym (ap (holds is_other) (at-put None placement h.square q None whole on
      ∙ ap (λ (t : Bool). cond t None (man_at placement q)) same)) ∙ at_q)
  | inr other ↦
      let stays : at None (put placement h.square None) q ≡ man_at placement q =
      at-put None placement h.square q None whole on ∙ ap (λ (t : Bool). cond t None (man_at placement q)) other in
      let (man, here, is) = other_man (man_at placement q) (sym (ap (holds is_other) stays) ∙ at_q) in
      king_is_no_other man is (h.others q man here (is_square-false q h.square other))
]

abbrev one_if : Option Man → ℕ
one_if here = cond (holds is_other here) 1 0

-- and there is one
knight_counted : (placement : Placement) → length placement ≡ 64 → AreKingsAndKnight placement →
    count_by (holds is_other) placement ≡ 1
knight_counted placement whole h =
    let on = IsOnBoard-from_man placement h.square (h.side, Knight) h.knight in
    let rest = put placement h.square None in
    let none : count_by (holds is_other) (put placement h.square None) ≡ 0 =
    none_counted (count_by (holds is_other) (put placement h.square None)) (λ some.
    let (q, on_q, at_q) = square_from_count_by (holds is_other) None (put placement h.square None)
    (length-put placement h.square None ∙ whole) some in
    no_second placement whole h on q at_q) in
    let counted : count_by (holds is_other) (put placement h.square None) + one_if
    (man_at placement h.square) ≡ count_by (holds is_other) placement + 0 =
    count_by-put (holds is_other) None placement h.square None whole on in
    let one : one_if (man_at placement h.square) ≡ 1 = ap one_if h.knight in
    omega (arith, none, counted, one)

knights_alone : (placement : Placement) → AreKingsAndKnight placement → AreKingsOrKnights placement
knights_alone placement h s man here = elim (cases_Bool (is_square s h.square)) [
  | inl same ↦ inr (ap (λ (m : Man). m.1) (same_Some man (h.side, Knight)
      (sym here ∙ ap (man_at placement) (is_square-true s h.square same) ∙ h.knight)))
  | inr other ↦ inl (h.others s man here (is_square-false s h.square other))
]

pub knight-then : (placement : Placement) (set : List Bool) (b : Bool) → length placement ≡ 64 →
    count_by (holds is_other) placement ≡ 1 →
    set ≡ without (squares_with is_other placement) (squares_with (is_a Knight) placement) →
    (b ≡ true) ↔ (members set ≡ []) → (b ≡ true) ↔ AreKingsAndKnight placement
knight-then placement set b whole one made is =
    let each = knights-empty placement set b made is in
    (λ e. knight_found placement whole one (each.0 e), λ h. each.1 (knights_alone placement h))

pub knight-else : (placement : Placement) (b : Bool) → length placement ≡ 64 →
    (b ≡ true) ↔ (count_by (holds is_other) placement ≡ 1) → (count_by (holds is_other) placement ≡ 1 → ⊥) →
    (b ≡ true) ↔ AreKingsAndKnight placement
knight-else placement b whole is fails =
    (λ e. absurd (fails (is.0 e)), λ h. absurd (fails (knight_counted placement whole h)))

-- ---- all of the list

pub dead-then : (placement : Placement) (a : Bool) → a ≡ true → (a ≡ true) ↔ AreKingsAndKnight placement →
    (a ≡ true) ↔ IsListedDead placement
dead-then placement a found d = (λ e. inr (inl (d.0 e)), λ _. found)

pub dead-else : (placement : Placement) (a b : Bool) → a ≡ false → (a ≡ true) ↔ AreKingsAndKnight placement →
    (b ≡ true) ↔ AreKingsAndBishops placement → (b ≡ true) ↔ IsListedDead placement
dead-else placement a b fails d e = (
  λ told. inr (inr (e.0 told)),
  λ h. elim h [
    | inl kings ↦ e.1 (true, λ s man here. inl (kings s man here))
    | inr (inl knight) ↦ absurd (false≢true (sym fails ∙ d.1 knight))
    | inr (inr bishops) ↦ e.1 bishops
  ],
)
