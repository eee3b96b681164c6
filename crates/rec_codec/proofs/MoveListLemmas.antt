-- A list of moves and its 60 places.
use Rattle.std.proofs.Common.{◌≡◌, ℕ, zero, suc, ◌+◌, ◌-◌, ◌*◌, ◌/◌, ◌%◌, ◌<◌, ◌≤◌, Bool, true, List, [], ◌∷◌, ◌++◌, length, map, take, drop, replicate, get_or, refl, sym, ap, ◌∙◌, subst, arith, append_assoc}
use Rattle.std.specs.Prelude.{◌==◌, nat_lt, slice_set}
use Rattle.std.specs.List.{list_all, flat_map, AllByRecursion}
use Rattle.std.proofs.lemmas.Bool.{and_parts, and_from}
use Rattle.std.proofs.lemmas.Bool.Decides.{nat_tests}
use Rattle.std.proofs.lemmas.List.{take_at, drop_at, take_more, take-append-drop, map-append, length-map, length-take-le, length-replicate, length-append, length-drop, set_at, same_lists}
use Rattle.byteorder.specs.Endian.{little_bytes, little_number, IsRead}
use Rattle.byteorder.specs.Numbers.{little_number-reads_back}
use Rattle.chess_bits.specs.Square.{IsOnBoard}
use Rattle.chess_bits.proofs.TableLemmas.{IsOnBoard-square_at}
use Rattle.chess_board.specs.declared.moves.Move.{Move}
use Rattle.rec_codec.specs.declared.moves.MoveList.TheInside.{Inside}
use Rattle.rec_codec.specs.Moves.{CanBecome, IsStorable, IsMoveList, promotion_of, move_code, move_of, move_code-move_of, codes_of, are_codes}
use Rattle.rec_codec.specs.MovesInside.{inside_of, IsSound}
use Rattle.rec_codec.proofs.MoveLemmas.{move_code-below, move_of-move_code}

-- Numbers of moves.
abbrev is_code : ℕ → Bool
is_code code = nat_lt code 20480

below : (c : ℕ) → is_code c ≡ true → c < 20480
below c h = grind (arith, nat_tests)

tested : (c : ℕ) → c < 20480 → is_code c ≡ true
tested c h = grind (arith, nat_tests)

map-codes : (cs : List ℕ) → list_all is_code cs ≡ true → map move_code (map move_of cs) ≡ cs
map-codes [] h = refl
map-codes (c ∷ cs) h =
    let parts = and_parts (is_code c) (list_all is_code cs) h in
    ap (λ x. x ∷ map move_code (map move_of cs)) (move_code-move_of c (below c parts.0))
    ∙ ap (λ xs. c ∷ xs) (map-codes cs parts.1)

can_become : (n : ℕ) → n < 5 → CanBecome (promotion_of n)
can_become zero h = tt
can_become (suc zero) h = tt
can_become (suc (suc zero)) h = tt
can_become (suc (suc (suc zero))) h = tt
can_become (suc (suc (suc (suc zero)))) h = tt
can_become (suc (suc (suc (suc (suc n))))) h = absurd (omega arith)

pub IsStorable-move_of : (c : ℕ) → c < 20480 → IsStorable (move_of c)
IsStorable-move_of c h = record {
  from = IsOnBoard-square_at (c % 64) (omega arith);
  to = IsOnBoard-square_at (c / 64 % 64) (omega arith);
  promotion = can_become (c / 4096) (omega arith);
}

storable : (cs : List ℕ) → list_all is_code cs ≡ true → AllByRecursion IsStorable (map move_of cs)
storable [] h = tt
storable (c ∷ cs) h =
    let parts = and_parts (is_code c) (list_all is_code cs) h in
    (IsStorable-move_of c (below c parts.0), storable cs parts.1)

is_zero : (c : ℕ) → (c == 0) ≡ true → c ≡ 0
is_zero c h = grind (arith, nat_tests)

zeros : (cs : List ℕ) → list_all (λ code. code == 0) cs ≡ true → cs ≡ replicate (length cs) 0
zeros [] h = refl
zeros (c ∷ cs) h =
    let parts = and_parts (c == 0) (list_all (λ code. code == 0) cs) h in
    ap (λ x. x ∷ cs) (is_zero c parts.0) ∙ ap (λ xs. 0 ∷ xs) (zeros cs parts.1)

-- what is read from a field is sound
pub IsSound-read : (count : ℕ) (codes : List ℕ) → 1 ≤ count → count ≤ 60 → length codes ≡ 60 →
    are_codes count codes ≡ true →
    IsSound (record { count = count; codes = codes })
IsSound-read count codes some few whole h =
    let parts = and_parts (list_all is_code (take count codes)) (list_all (λ code. code == 0) (drop count codes)) h in
    let front : length (take count codes) ≡ count = length-take-le count codes (omega arith) in
    let len : length (map move_of (take count codes)) ≡ count = simp length-map front in
    let rest : length (drop count codes) ≡ 60 - count = simp length-drop (omega arith) in
    let back : replicate (60 - length (map move_of (take count codes))) 0 ≡ drop count codes =
    ap (λ n. replicate (60 - n) 0) len ∙ (ap (λ n. replicate n 0) (sym rest)
    ∙ sym (zeros (drop count codes) parts.1)) in
    let same : codes_of (map move_of (take count codes)) ≡ codes =
    ap (λ xs. xs ++ replicate (60 - length (map move_of (take count codes))) 0) (map-codes (take count codes) parts.0)
    ∙ (ap (λ ys. take count codes ++ ys) back ∙ take-append-drop count codes) in
    record {
      moves = record { some = omega arith; few = omega arith; storable = storable (take count codes) parts.0 };
      same = same_inside _ count _ codes len same;
    }
  where
    same_inside : (n m : ℕ) (xs ys : List ℕ) → n ≡ m → xs ≡ ys →
        (let a : Inside = record { count = n; codes = xs } in
        a) ≡ (let b : Inside = record { count = m; codes = ys } in b)
    same_inside n m xs ys e f = cc

-- Back from the numbers of moves.
map-back : (ms : List Move) → AllByRecursion IsStorable ms → map move_of (map move_code ms) ≡ ms
map-back [] h = refl
map-back (m ∷ ms) h =
    ap (λ x. x ∷ map move_of (map move_code ms)) (move_of-move_code m h.0) ∙ ap (λ xs. m ∷ xs) (map-back ms h.1)

codes-pass : (ms : List Move) → AllByRecursion IsStorable ms → list_all is_code (map move_code ms) ≡ true
codes-pass [] h = refl
codes-pass (m ∷ ms) h =
    and_from _ _ (tested (move_code m) (move_code-below m h.0)) (codes-pass ms h.1)

zeros-pass : (n : ℕ) → list_all (λ code. code == 0) (replicate n 0) ≡ true
zeros-pass zero = refl
zeros-pass (suc n) = zeros-pass n

pub take-codes_of : (ms : List Move) → take (length ms) (codes_of ms) ≡ map move_code ms
take-codes_of ms = take_at (map move_code ms) (replicate (60 - length ms) 0) (length ms) (length-map ms move_code)

drop-codes_of : (ms : List Move) → drop (length ms) (codes_of ms) ≡ replicate (60 - length ms) 0
drop-codes_of ms = drop_at (map move_code ms) (replicate (60 - length ms) 0) (length ms) (length-map ms move_code)

pub moves_of-codes_of : (ms : List Move) → AllByRecursion IsStorable ms →
    map move_of (take (length ms) (codes_of ms)) ≡ ms
moves_of-codes_of ms h = ap (map move_of) (take-codes_of ms) ∙ map-back ms h

pub are_codes-codes_of : (ms : List Move) → AllByRecursion IsStorable ms → are_codes (length ms) (codes_of ms) ≡ true
are_codes-codes_of ms h =
    and_from _ _ (ap (list_all is_code) (take-codes_of ms) ∙ codes-pass ms h)
    (ap (list_all (λ code. code == 0)) (drop-codes_of ms) ∙ zeros-pass (60 - length ms))

pub length-codes_of : (ms : List Move) → length ms ≤ 60 → length (codes_of ms) ≡ 60
length-codes_of ms h = simp (length-append, length-map, length-replicate) (omega arith)

-- each number fits two bytes
pub codes-fit : (ms : List Move) → AllByRecursion IsStorable ms → AllByRecursion (λ c. c < 65536) (codes_of ms)
codes-fit ms h = joined (map move_code ms) (replicate (60 - length ms) 0) (fits ms h) (none (60 - length ms))
  where
    fits : (ms : List Move) → AllByRecursion IsStorable ms → AllByRecursion (λ c. c < 65536) (map move_code ms)
    fits [] h = tt
    fits (m ∷ ms) h = (omega (arith, move_code-below m h.0), fits ms h.1)

    none : (n : ℕ) → AllByRecursion (λ c. c < 65536) (replicate n 0)
    none zero = tt
    none (suc n) = (omega arith, none n)

    joined : (xs ys : List ℕ) → AllByRecursion (λ c. c < 65536) xs → AllByRecursion (λ c. c < 65536) ys →
        AllByRecursion (λ c. c < 65536) (xs ++ ys)
    joined [] ys h k = k
    joined (x ∷ xs) ys h k = (h.0, joined xs ys h.1 k)

-- numbers of two bytes each are read back
number-at : (cs : List ℕ) → AllByRecursion (λ c. c < 65536) cs → (k : ℕ) → k < length cs →
    little_number 2 (drop (2 * k) (flat_map (little_bytes 2) cs)) ≡ get_or cs k 0
number-at [] h k l = absurd (omega arith)
number-at (c ∷ cs) h zero l = little_number-reads_back 2 c (flat_map (little_bytes 2) cs) (omega arith)
number-at (c ∷ cs) h (suc k) l =
    let two : 2 * suc k ≡ suc (suc (2 * k)) = omega arith in
    ap (λ n. little_number 2 (drop n (flat_map (little_bytes 2) (c ∷ cs)))) two ∙ number-at cs h.1 k (omega arith)

read-back : (cs dst : List ℕ) → AllByRecursion (λ c. c < 65536) cs → length dst ≡ length cs →
    IsRead little_number 2 (flat_map (little_bytes 2) cs) dst → dst ≡ cs
read-back cs dst h len read =
    same_lists dst cs len (λ k d l.
    let low : k < length cs = omega arith in
    any_default dst k d l ∙ (read k l ∙ (number-at cs h k low ∙ sym (any_default cs k d low))))
  where
    any_default : (xs : List ℕ) (k d : ℕ) → k < length xs → get_or xs k d ≡ get_or xs k 0
    any_default [] k d l = absurd (omega arith)
    any_default (x ∷ xs) zero d l = refl
    any_default (x ∷ xs) (suc k) d l = any_default xs k d (omega arith)

-- what is read from the field of a list
pub read-codes : (ms : List Move) (dst field : List ℕ) → IsMoveList ms → length dst ≡ 60 →
    field ≡ flat_map (little_bytes 2) (codes_of ms) →
    IsRead little_number 2 field dst → dst ≡ codes_of ms
read-codes ms dst field h len e read =
    read-back (codes_of ms) dst (codes-fit ms h.storable) (len ∙ sym (length-codes_of ms h.few))
    (subst (λ f. IsRead little_number 2 f dst) e read)

-- one more move in its place
pub more-codes : (ms : List Move) (codes : List ℕ) (i : ℕ) (m : Move) → i < length ms → length ms ≤ 60 →
    m ≡ get_or ms i m → codes ≡ map move_code (take i ms) ++ replicate (60 - i) 0 →
    slice_set codes i (move_code m) ≡ map move_code (take (i + 1) ms) ++ replicate (60 - (i + 1)) 0
more-codes ms codes i m low few is e =
    let rest : replicate (60 - i) 0 ≡ 0 ∷ replicate (60 - (i + 1)) 0 =
    ap (λ n. replicate n 0) (let n : 60 - i ≡ suc (60 - (i + 1)) = omega arith in n) in
    let len : length (map move_code (take i ms)) ≡ i = simp length-map (length-take-le i ms (omega arith)) in
    let before : codes ≡ map move_code (take i ms) ++ 0 ∷ replicate (60 - (i + 1)) 0 =
    e ∙ ap (λ ys. map move_code (take i ms) ++ ys) rest in
    let one : take (i + 1) ms ≡ take i ms ++ m ∷ [] = take_more ms i m low ∙ ap (λ x. take i ms ++ x ∷ []) (sym is) in
    ap (λ xs. slice_set xs i (move_code m)) before
    ∙ (set_at (map move_code (take i ms)) 0 (replicate (60 - (i + 1)) 0) (move_code m) i len
    ∙ (sym (append_assoc (map move_code (take i ms)) (move_code m ∷ []) (replicate (60 - (i + 1)) 0))
    ∙ ap (λ xs. xs ++ replicate (60 - (i + 1)) 0) (sym (ap (map move_code) one
    ∙ map-append move_code (take i ms) (m ∷ [])))))

pub AllByRecursion-push : {X : Type 0} (P : X → Type 0) (xs : List X) (x : X) → AllByRecursion P xs → P x →
    AllByRecursion P (xs ++ x ∷ [])
AllByRecursion-push P [] x h p = (p, tt)
AllByRecursion-push P (y ∷ ys) x h p = (h.0, AllByRecursion-push P ys x h.1 p)

-- so is each move on the board
pub more-on_board : (ms : List Move) (i : ℕ) (m : Move) → i < length ms → m ≡ get_or ms i m →
    AllByRecursion (λ m. IsOnBoard m.from × IsOnBoard m.to) (take i ms) → IsOnBoard m.from → IsOnBoard m.to →
    AllByRecursion (λ m. IsOnBoard m.from × IsOnBoard m.to) (take (i + 1) ms)
more-on_board ms i m low is h from to =
    let P : Move → Type 0 = λ m. IsOnBoard m.from × IsOnBoard m.to in
    subst (AllByRecursion P) (sym (take_more ms i m low ∙ ap (λ x. take i ms ++ x ∷ []) (sym is)))
    (AllByRecursion-push P (take i ms) m h (from, to))

-- moves on the board with promotions that can be kept
pub all_storable : (ms : List Move) → AllByRecursion (λ m. IsOnBoard m.from × IsOnBoard m.to) ms →
    AllByRecursion (λ m. CanBecome m.promotion) ms → AllByRecursion IsStorable ms
all_storable [] h k = tt
all_storable (m ∷ ms) h k = (record { from = h.0.0; to = h.0.1; promotion = k.0 }, all_storable ms h.1 k.1)

-- what a list keeps of moves is sound
pub IsSound-made : (ms : List Move) → IsMoveList ms → IsSound (record { count = length ms; codes = codes_of ms })
IsSound-made ms h =
    let back = moves_of-codes_of ms h.storable in
    record { moves = subst IsMoveList (sym back) h; same = ap inside_of back }
