-- Counts of legal moves that are made part by part.
use Rattle.std.specs.Prelude.{ℕ, ◌≡◌, ◌+◌, ◌*◌, ◌≤◌, ◌&&◌, Bool, true, false, not, List, [], ◌∷◌, length, filter, flat_map, Some}
use Rattle.std.proofs.Common.{arith, refl, sym, ap, subst, ◌∙◌, inl, inr, length-append}
use Rattle.std.proofs.lemmas.Bool.{false≢true, and_parts, cases_Bool}
use Rattle.chess_bits.specs.declared.men.Kind.{Kind}
use Rattle.chess_bits.specs.declared.men.Kind.TheVariants.{Pawn}
use Rattle.chess_bits.specs.Square.{Square, squares}
use Rattle.chess_bits.specs.Man.{is_of}
use Rattle.chess_bits.specs.Table.{has, meet, without, members, IsSetOf}
use Rattle.chess_bits.proofs.SetLemmas.{has-without, length-without}
use Rattle.chess_bits.proofs.MemberLemmas.{filter-here, filter-not_here}
use Rattle.chess_bits.proofs.AlongLemmas.{PassesEach, PassesEach-members}
use Rattle.chess_board.specs.Occupancy.{squares_with}
use Rattle.chess_board.specs.Position.{Position, man_at, IsValid}
use Rattle.chess_board.specs.Legal.{last_rank}
use Rattle.chess_board.specs.Computing.{legal_moves_of}
use Rattle.chess_moves.specs.Targets.{GoesSafely}
use Rattle.chess_moves.specs.Listing.{legal_from}
use Rattle.chess_moves.specs.Counting.{moves_of, AreFree, IsTally}
use Rattle.chess_moves.proofs.ListLemmas.{filter-same}
use Rattle.chess_moves.proofs.SquareLemmas.{colour-from_test}
use Rattle.chess_moves.proofs.Listed.{legal_moves_of-parts}
use Rattle.chess_moves.proofs.Bound.{length-legal_moves_of}
use Rattle.chess_moves.proofs.Counted.{filter-both, length-pawn, count_room, count_end}

-- ---- two parts of a set

-- what passes a test and what does not make the whole
length-parted : {A B : Type 0} (f : A → List B) (test : A → Bool) (xs : List A) →
    length (flat_map f xs) ≡
    length (flat_map f (filter test xs)) + length (flat_map f (filter (λ x. not (test x)) xs))
length-parted f test [] = omega arith
length-parted {A = A} f test (x ∷ xs) =
    let rest = length-parted f test xs in
    let whole = length-append (f x) (flat_map f xs) in
    let Many : List A → ℕ = λ ys. length (flat_map f ys) in
    let others : A → Bool = λ y. not (test y) in
    elim (cases_Bool (test x)) [
      | inl kept ↦
          let with_x : Many (filter test (x ∷ xs)) ≡ length (f x) + Many (filter test xs) =
          ap Many (filter-here test x xs kept) ∙ length-append (f x) (flat_map f (filter test xs)) in
          let without_x : Many (filter others (x ∷ xs)) ≡ Many (filter others xs) =
          ap Many (filter-not_here others x xs (ap not kept)) in
          omega arith
      | inr left ↦
          let with_x : Many (filter others (x ∷ xs)) ≡ length (f x) + Many (filter others xs) =
          ap Many (filter-here others x xs (ap not left)) ∙ length-append (f x) (flat_map f (filter others xs)) in
          let without_x : Many (filter test (x ∷ xs)) ≡ Many (filter test xs) =
          ap Many (filter-not_here test x xs left) in
          omega arith
    ]

within-same : (a b : Bool) → (b ≡ true → a ≡ true) → b ≡ (a && b)
within-same true b is = refl
within-same false true is = absurd (false≢true (is refl))
within-same false false is = refl

-- the moves of the men of a set are those of some of them, and of the others
pub moves-parted : (p : Position) (left men : List Bool) → length left ≡ 64 → length men ≡ 64 →
    ((s : Square) → has men s ≡ true → has left s ≡ true) →
    moves_of p left ≡ moves_of p men + moves_of p (without left men)
unfolding members
moves-parted p left men whole whole_men within =
    let Many : List Square → ℕ = λ ys. length (flat_map (legal_from p) ys) in
    let some : filter (has men) squares ≡ filter (has men) (filter (has left) squares) =
    filter-same (has men) (λ s. has left s && has men s) squares
    (λ s. within-same (has left s) (has men s) (within s))
    ∙ filter-both (has left) (has men) squares in
    let others : filter (has (without left men)) squares ≡ filter (λ s. not (has men s)) (filter (has left) squares) =
    filter-same (has (without left men)) (λ s. has left s && not (has men s)) squares
    (λ s. has-without left men s (whole ∙ sym whole_men))
    ∙ filter-both (has left) (λ s. not (has men s)) squares in
    let sum = length-parted (legal_from p) (has men) (filter (has left) squares) in
    let some' : Many (filter (has men) squares) ≡ Many (filter (has men) (filter (has left) squares)) = ap Many some in
    let others' : Many (filter (has (without left men)) squares) ≡
    Many (filter (λ s. not (has men s)) (filter (has left) squares)) = ap Many others in
    omega arith

-- ---- tallies

pub tally_start : (p : Position) (own : List Bool) → own ≡ squares_with (is_of p.side) p.placement →
    length own ≡ 64 → IsTally p 0 own
tally_start p own is whole = record {
  whole = whole;
  own = λ s here. colour-from_test p.placement p.side s (ap (λ (set : List Bool). has set s) (sym is) ∙ here);
  sum =
      let all : moves_of p own ≡ length (legal_moves_of p) =
      ap (moves_of p) is ∙ sym (ap length (legal_moves_of-parts p)) in
      omega arith;
}

pub few_moves : (p : Position) (pinned : List Bool) (kind : Kind) (count : ℕ) (left men : List Bool) → IsValid p →
    IsTally p count left → AreFree p pinned kind left men → count + moves_of p men ≤ 512
few_moves p pinned kind count left men valid tally free =
    omega (
      arith,
      moves-parted p left men tally.whole free.whole free.within,
      tally.sum,
      length-legal_moves_of p valid,
    )

left_in : (left men : List Bool) (s : Square) → length left ≡ length men → has (without left men) s ≡ true →
    has left s ≡ true
left_in left men s len here =
    (and_parts (has left s) (not (has men s)) (sym (has-without left men s len) ∙ here)).0

pub tally_next : (p : Position) (pinned : List Bool) (kind : Kind) (count more : ℕ) (left men : List Bool) →
    IsTally p count left → AreFree p pinned kind left men → more ≡ moves_of p men →
    IsTally p (count + more) (without left men)
tally_next p pinned kind count more left men tally free e =
    let len : length left ≡ length men = tally.whole ∙ sym free.whole in
    record {
      whole = length-without left men len ∙ tally.whole;
      own = λ s here. tally.own s (left_in left men s len here);
      sum = omega (arith, moves-parted p left men tally.whole free.whole free.within, tally.sum, e);
    }

-- ---- a pawn

pub pawn_number : (p : Position) (from : Square) (set last : List Bool) → IsValid p →
    man_at p.placement from ≡ Some (p.side, Pawn) → IsSetOf set (GoesSafely p Pawn from) →
    IsSetOf last (λ q. q.rank ≡ last_rank p.side) →
    length (legal_from p from) ≡ length (members set) + 3 * length (members (meet set last))
pawn_number p from set last valid own of of_last = length-pawn p from Pawn set last valid.whole own refl of of_last

-- ---- a loop over men of a set

-- the men that are left are of the set, and with their moves the count is that of the set
pub record IsCount (p : Position) (men : List Bool) (count : ℕ) (left : List Square) : Type 0 where
  pub sum : count + length (flat_map (legal_from p) left) ≡ moves_of p men
  pub each : PassesEach (has men) left

pub count_start : (p : Position) (men : List Bool) (left : List Square) → left ≡ members men → IsCount p men 0 left
count_start p men left e =
    let Count' : List Square → Type 0 = IsCount p men 0 in
    subst Count' (sym e) (record { sum = omega arith; each = PassesEach-members men })

pub count_member : (p : Position) (men : List Bool) (count : ℕ) (x : Square) (rest left : List Square) →
    IsCount p men count left → left ≡ x ∷ rest → has men x ≡ true
count_member p men count x rest left is next =
    let Passes' : List Square → Type 0 = PassesEach (has men) in
    (subst Passes' next is.each).0

pub count_next : (p : Position) (men : List Bool) (count more : ℕ) (x : Square) (rest left : List Square) →
    IsCount p men count left → left ≡ x ∷ rest → more ≡ length (legal_from p x) → IsCount p men (count + more) rest
count_next p men count more x rest left is next e =
    let Passes' : List Square → Type 0 = PassesEach (has men) in
    let room = count_room (legal_from p) count (moves_of p men) x rest left is.sum next in
    record {
      sum = omega arith;
      each = (subst Passes' next is.each).1;
    }

pub count_last : (p : Position) (men : List Bool) (count : ℕ) (left : List Square) → IsCount p men count left →
    left ≡ [] → count ≡ moves_of p men
count_last p men count left is none = count_end (legal_from p) count (moves_of p men) left is.sum none
