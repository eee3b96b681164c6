-- The legal moves from a square, as the squares where its man goes safely tell them, and how many they are.
use Rattle.std.specs.Prelude.{ℕ, ◌≡◌, ◌≢◌, ◌↔◌, ◌+◌, ◌*◌, ◌≤◌, Bool, true, false, not, cond, ◌&&◌, ◌==◌, List, [], ◌∷◌, length, filter, flat_map, Contains, Some}
use Rattle.std.proofs.Common.{arith, refl, sym, ap, subst, ◌∙◌, inl, inr, length-append}
use Rattle.std.proofs.lemmas.Bool.{false≢true, cases_Bool, not-true}
use Rattle.std.proofs.lemmas.Bool.Decides.{Decides-eqb}
use Rattle.chess_bits.specs.declared.men.Colour.{Colour}
use Rattle.chess_bits.specs.declared.men.Kind.{Kind}
use Rattle.chess_bits.specs.declared.men.Kind.TheVariants.{Pawn, Knight, Bishop, Rook, Queen, King}
use Rattle.chess_bits.specs.Square.{Square, IsOnBoard, squares}
use Rattle.chess_bits.specs.Table.{has, meet, members, IsSetOf}
use Rattle.chess_bits.proofs.Deciding.{and_decides}
use Rattle.chess_bits.proofs.SetLemmas.{has-meet, has-none}
use Rattle.chess_bits.proofs.MemberLemmas.{filter-here, filter-not_here}
use Rattle.chess_bits.proofs.AlongLemmas.{length-all_squares}
use Rattle.chess_board.specs.declared.moves.Move.{Move}
use Rattle.chess_board.specs.Position.{Position, man_at}
use Rattle.chess_board.specs.Legal.{last_rank}
use Rattle.chess_board.specs.Computing.{is_legal, moves_between, legal_moves_of}
use Rattle.chess_board.proofs.Candidates.{IsOnBoard-from_man}
use Rattle.chess_board.proofs.DistinctMoves.{Contains-here, Contains-later, Contains-filter_from}
use Rattle.chess_moves.specs.Targets.{plain, GoesSafely, HasSafeTarget}
use Rattle.chess_moves.specs.Moves.{IsNumberOfLegalMoves, HasLegal}
use Rattle.chess_moves.specs.Listing.{legal_from, promotions, choices}
use Rattle.chess_moves.proofs.ListLemmas.{filter-flat_map, flat_map-filter, filter-same, length-filter_most}
use Rattle.chess_moves.proofs.Listed.{same_test, leaves_king_safe, Decides-leaves_king_safe, safe_choices, between_choices, on_board-squares}
use Rattle.chess_moves.proofs.Listed.{IsListOfLegalMoves-computed, legal_from_target}
use Rattle.chess_moves.proofs.Bound.{goes, Decides-goes}
use Rattle.chess_moves.proofs.Safely.{some_square}

-- ---- the moves from a square

both_cond : {A : Type 0} (a b : Bool) (x : A) (none : A) → cond a (cond b x none) none ≡ cond (a && b) x none
both_cond true b x none = refl
both_cond false b x none = refl

pub legal_from-safe : (p : Position) (from : Square) (kind : Kind) (set : List Bool) → length p.placement ≡ 64 →
    man_at p.placement from ≡ Some (p.side, kind) → IsSetOf set (GoesSafely p kind from) →
    legal_from p from ≡ flat_map (choices p.side kind from) (members set)
unfolding legal_from members safe_choices
legal_from-safe p from kind set whole own of =
    let on_from = IsOnBoard-from_man p.placement from (p.side, kind) own in
    let Listed : Square → List Move = λ to. filter (is_legal p) (moves_between from to) in
    let listed : (to : Square) → Contains squares to → Listed to ≡ cond (has set to) (choices p.side kind from to) [] =
    λ to here.
    let on = on_board-squares to here in
    let decides = Decides-goes p kind from to on_from on in
    let same : has set to ≡ (goes p kind from to && leaves_king_safe p from to) =
    same_test (has set to) (goes p kind from to && leaves_king_safe p from to) (of.exact to on)
    (and_decides decides (Decides-leaves_king_safe p from to)) in
    between_choices p from to kind (goes p kind from to) whole on own decides
    ∙ both_cond (goes p kind from to) (leaves_king_safe p from to) (choices p.side kind from to) []
    ∙ ap (λ (b : Bool). cond b (choices p.side kind from to) []) (sym same) in
    filter-flat_map (is_legal p) (moves_between from) squares
    ∙ sym (flat_map-filter (has set) (choices p.side kind from) Listed squares
    (λ to here goes'. sym (listed to here ∙ ap (λ (b : Bool). cond b (choices p.side kind from to) []) goes'))
    (λ to here stays. listed to here ∙ ap (λ (b : Bool). cond b (choices p.side kind from to) []) stays))

-- ---- how many

length-flat : {A B : Type 0} (f : A → List B) (test : A → Bool) (xs : List A) →
    ((x : A) → Contains xs x → length (f x) ≡ cond (test x) 4 1) →
    length (flat_map f xs) ≡ length xs + 3 * length (filter test xs)
length-flat f test [] each = omega arith
length-flat f test (x ∷ xs) each =
    let rest : length (flat_map f xs) ≡ length xs + 3 * length (filter test xs) =
    length-flat f test xs (λ z here. each z (Contains-later z x xs here)) in
    let here : length (f x) ≡ cond (test x) 4 1 = each x (Contains-here x x xs refl) in
    elim (cases_Bool (test x)) [
      | inl kept ↦
          let four : length (f x) ≡ 4 = rw kept at here in
          rw (filter-here test x xs kept, length-append (f x) (flat_map f xs)) (omega arith)
      | inr left ↦
          let one : length (f x) ≡ 1 = rw left at here in
          rw (filter-not_here test x xs left, length-append (f x) (flat_map f xs)) (omega arith)
    ]

pub filter-both : {A : Type 0} (a b : A → Bool) (xs : List A) →
    filter (λ x. a x && b x) xs ≡ filter b (filter a xs)
filter-both a b [] = refl
filter-both {A} a b (x ∷ xs) = elim (cases_Bool (a x)) [
  | inl kept ↦
      rw (kept)
      (ap (λ (rest : List A). cond (b x) (x ∷ rest) rest) (filter-both a b xs))
  | inr left ↦ rw (left) (filter-both a b xs)
]

pub members-meet : (a b : List Bool) → members (meet a b) ≡ filter (has b) (members a)
unfolding members
members-meet a b =
    filter-same (has (meet a b)) (λ s. has a s && has b s) squares (λ s. has-meet a b s)
    ∙ filter-both (has a) (has b) squares

pub member_on : (set : List Bool) (s : Square) → Contains (members set) s → IsOnBoard s
unfolding members
member_on set s here = on_board-squares s (Contains-filter_from (has set) squares s here)

four_or_one : (b : Bool) (from to : Square) → length (cond b (promotions from to) (plain from to ∷ [])) ≡ cond b 4 1
four_or_one true from to = refl
four_or_one false from to = refl

pawn_choices : (side : Colour) (from to : Square) (last : Bool) → (last ≡ true → to.rank ≡ last_rank side) →
    (to.rank ≡ last_rank side → last ≡ true) → length (choices side Pawn from to) ≡ cond last 4 1
pawn_choices side from to last is not_last =
    let same : (to.rank == last_rank side) ≡ last =
    same_test (to.rank == last_rank side) last (Decides-eqb to.rank (last_rank side)) (is, not_last) in
    ap (λ (b : Bool). length (cond b (promotions from to) (plain from to ∷ []))) same ∙ four_or_one last from to

pub members_most : (set : List Bool) → length (members set) ≤ 64
unfolding members
members_most set = omega (arith, length-filter_most (has set) squares, length-all_squares)

pub length-pawn : (p : Position) (from : Square) (kind : Kind) (set last : List Bool) → length p.placement ≡ 64 →
    man_at p.placement from ≡ Some (p.side, kind) → kind ≡ Pawn → IsSetOf set (GoesSafely p kind from) →
    IsSetOf last (λ q. q.rank ≡ last_rank p.side) →
    length (legal_from p from) ≡ length (members set) + 3 * length (members (meet set last))
length-pawn p from kind set last whole own pawn of of_last =
    let own' : man_at p.placement from ≡ Some (p.side, Pawn) = own ∙ ap (λ (k : Kind). Some (p.side, k)) pawn in
    let Safely' : Kind → Type 0 = λ k. IsSetOf set (GoesSafely p k from) in
    rw (legal_from-safe p from Pawn set whole own' (subst Safely' pawn of), members-meet set last)
    (length-flat (choices p.side Pawn from) (has last) (members set)
    (λ to here.
    let on = member_on set to here in
    pawn_choices p.side from to (has last to) (of_last.exact to on).0 (of_last.exact to on).1))

length-each_one : {A B : Type 0} (f : A → List B) (xs : List A) → ((x : A) → length (f x) ≡ 1) →
    length (flat_map f xs) ≡ length xs
length-each_one f [] each = omega arith
length-each_one f (x ∷ xs) each =
    rw (length-append (f x) (flat_map f xs)) (omega (arith, each x, length-each_one f xs each))

one_choice : (side : Colour) (kind : Kind) (from to : Square) → kind ≢ Pawn → length (choices side kind from to) ≡ 1
one_choice side Pawn from to apart = absurd (apart refl)
one_choice side Knight from to apart = refl
one_choice side Bishop from to apart = refl
one_choice side Rook from to apart = refl
one_choice side Queen from to apart = refl
one_choice side King from to apart = refl

pub length-other : (p : Position) (from : Square) (kind : Kind) (set : List Bool) → length p.placement ≡ 64 →
    man_at p.placement from ≡ Some (p.side, kind) → kind ≢ Pawn → IsSetOf set (GoesSafely p kind from) →
    length (legal_from p from) ≡ length (members set)
length-other p from kind set whole own apart of =
    rw (legal_from-safe p from kind set whole own of)
    (length-each_one (choices p.side kind from) (members set) (λ to. one_choice p.side kind from to apart))

pub counted : (p : Position) (n : ℕ) → n ≡ length (legal_moves_of p) → IsNumberOfLegalMoves p n
counted p n e = record {
  moves = legal_moves_of p;
  listed = IsListOfLegalMoves-computed p (legal_moves_of p) refl;
  number = sym e;
}

-- ---- loops over parts

pub count_room : {A B : Type 0} (f : A → List B) (count n : ℕ) (x : A) (rest left : List A) →
    count + length (flat_map f left) ≡ n → left ≡ x ∷ rest →
    (count + length (f x)) + length (flat_map f rest) ≡ n
count_room {A} {B} f count n x rest left e next =
    let parts : length (flat_map f left) ≡ length (f x) + length (flat_map f rest) =
    ap (λ (xs : List A). length (flat_map f xs)) next ∙ length-append (f x) (flat_map f rest) in
    omega arith

pub count_end : {A B : Type 0} (f : A → List B) (count n : ℕ) (left : List A) → count + length (flat_map f left) ≡ n →
    left ≡ [] → count ≡ n
count_end {A} f count n left e none =
    let parts : length (flat_map f left) ≡ 0 = ap (λ (xs : List A). length (flat_map f xs)) none in
    omega arith

-- ---- whether there is one

pub safe_told : (p : Position) (kind : Kind) (from : Square) (set : List Bool) →
    IsSetOf set (GoesSafely p kind from) → ¬ (members set ≡ []) → HasSafeTarget p kind from
safe_told p kind from set of some =
    let found = some_square set some in
    let safely = (of.exact found.0 found.1).0 found.2 in
    (found.0, found.1, safely.0, safely.1)

pub told_safe : (p : Position) (kind : Kind) (from : Square) (set : List Bool) →
    IsSetOf set (GoesSafely p kind from) → HasSafeTarget p kind from → ¬ (members set ≡ [])
told_safe p kind from set of (to, on, goes', safe) none =
    false≢true (sym (has-none set to on none) ∙ (of.exact to on).1 (goes', safe))

-- a man that goes somewhere so that its king is safe has a legal move
pub goes_legal : (p : Position) (kind : Kind) (from : Square) (set : List Bool) (none : Bool) →
    length p.placement ≡ 64 → man_at p.placement from ≡ Some (p.side, kind) → IsSetOf set (GoesSafely p kind from) →
    ((none ≡ true) ↔ (members set ≡ [])) → not none ≡ true → HasLegal p
goes_legal p kind from set none whole own of told some =
    let safe = safe_told p kind from set of (λ e. false≢true (sym (not-true none some) ∙ told.1 e)) in
    let legal = legal_from_target p from kind whole own safe in
    (legal.0, legal.2)
