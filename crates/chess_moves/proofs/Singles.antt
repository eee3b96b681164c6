-- Sets of one square, and of all squares.
use Rattle.std.specs.Prelude.{◌≡◌, ◌-◌, ◌^◌, Bool, true, false, cond, List, [], length, Some, None}
use Rattle.std.specs.List.{list_all}
use Rattle.std.proofs.Common.{refl, sym, ap, ◌∙◌, inl, inr}
use Rattle.std.proofs.lemmas.Bool.{false≢true, cases_Bool}
use Rattle.chess_bits.specs.Square.{Square, IsOnBoard, is_square, squares}
use Rattle.chess_bits.specs.Table.{at, has, put, members, head_of, IsSetOf}
use Rattle.chess_bits.specs.Word.{bools_of}
use Rattle.chess_bits.proofs.TableLemmas.{at-put, is_square-true, is_square-same}
use Rattle.chess_bits.proofs.WordLemmas.{length-bools_of}
use Rattle.chess_bits.proofs.SetLemmas.{IsLeast-first, has-none, no_head}
use Rattle.chess_bits.proofs.Deciding.{Decides-each_square}
use Rattle.chess_moves.proofs.Paths.{no_members}

-- a set of this one square
abbrev pub IsOne : List Bool → Type 0
IsOne set = (s : Square) × IsOnBoard s × IsSetOf set (λ q. q ≡ s)

pub none_is_none : (set : List Bool) → None ≡ head_of (members set) → ¬ IsOne set
none_is_none set first one =
    false≢true (sym (has-none set one.0 one.1 (no_head (members set) first)) ∙ (one.2.exact one.0 one.1).1 refl)

pub one_left : (set : List Bool) (t : Square) → length set ≡ 64 → Some t ≡ head_of (members set) →
    members (put set t false) ≡ [] → IsOne set
one_left set t whole first none =
    let least = IsLeast-first set t first in (
      t,
      least.on_board,
      record {
        whole = whole;
        exact = λ q on. (
          (λ here. elim (cases_Bool (is_square q t)) [
            | inl same ↦ is_square-true q t same
            | inr apart ↦
                let there : has (put set t false) q ≡ true =
                at-put false set t q false whole least.on_board
                ∙ ap (λ (b : Bool). cond b false (has set q)) apart ∙ here in
                absurd (false≢true (sym (has-none (put set t false) q on none) ∙ there))
          ]),
          (λ e. ap (has set) e ∙ least.member),
        );
      },
    )

pub left_of_one : (set : List Bool) (t : Square) → length set ≡ 64 → Some t ≡ head_of (members set) → IsOne set →
    members (put set t false) ≡ []
left_of_one set t whole first one =
    let least = IsLeast-first set t first in
    let same : t ≡ one.0 = (one.2.exact t least.on_board).0 least.member in
    no_members (put set t false) (λ q on.
    at-put false set t q false whole least.on_board ∙ emptied (is_square q t) (has set q)
    (λ here. is_square-same q t ((one.2.exact q on).0 here ∙ sym same)))
  where
    emptied : (b here : Bool) → (here ≡ true → b ≡ true) → cond b false here ≡ false
    emptied true here is = refl
    emptied false true is = absurd (false≢true (is refl))
    emptied false false is = refl

-- ---- all squares

abbrev pub every : List Bool
every = bools_of 64 (2 ^ 64 - 1)

in_every : list_all (has every) squares ≡ true
unfolding bools_of squares at
in_every = refl

pub every_set : (P : Square → Type 0) → ((q : Square) → P q) → IsSetOf every P
every_set P all = record {
  whole = length-bools_of 64 (2 ^ 64 - 1);
  exact = λ q on. (
    (λ here. all q),
    (λ p. (Decides-each_square (has every) (λ s. has every s ≡ true) (λ s _. (λ e. e, λ e. e))).0 in_every q on),
  );
}
