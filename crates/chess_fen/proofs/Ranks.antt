-- The ranks of a placement, from the top down.
use Rattle.std.proofs.Common.{◌≡◌, ℕ, zero, suc, ◌-◌, ◌<◌, ◌≤◌, List, [], ◌∷◌, ◌++◌, Option, refl, ap, append-nil, append_assoc, sym, arith}
use Rattle.chess_bits.specs.Man.{Man}
use Rattle.chess_notation.specs.Fen.{rank_of, ranks_of, row_text, placement_text}

-- the text of the ranks below one, each after a `/`
unfoldable pub ranks_below : List (Option Man) → ℕ → List ℕ
ranks_below placement zero = []
ranks_below placement (suc zero) = []
ranks_below placement (suc (suc rank)) =
    47 ∷ (row_text (rank_of placement (suc rank)) ++ ranks_below placement (suc rank))

pub placement_text-ranks_below : (placement : List (Option Man)) →
    placement_text placement ≡ row_text (rank_of placement 8) ++ ranks_below placement 8
unfolding placement_text ranks_of ranks_below
placement_text-ranks_below placement =
    let row : ℕ → List ℕ = λ rank. row_text (rank_of placement rank) in
    ap (λ last. row 8 ++ (47 ∷ row 7 ++ (47 ∷ row 6 ++ (47 ∷ row 5 ++ (47 ∷ row 4 ++ (47 ∷ row 3 ++ (47 ∷ row 2 ++
    (47 ∷ last)))))))) (sym (append-nil (row 1)))

-- The next rank down, and the last.
pub ranks_below-next : (placement : List (Option Man)) (rank : ℕ) → 1 < rank →
    ranks_below placement rank ≡ 47 ∷ (row_text (rank_of placement (rank - 1)) ++ ranks_below placement (rank - 1))
unfolding ranks_below
ranks_below-next placement zero h = absurd (omega arith)
ranks_below-next placement (suc zero) h = absurd (omega arith)
ranks_below-next placement (suc (suc rank)) h =
    let e : suc rank ≡ suc (suc rank) - 1 = omega arith in
    ap (λ r. 47 ∷ (row_text (rank_of placement r) ++ ranks_below placement r)) e

pub ranks_below-last : (placement : List (Option Man)) (rank : ℕ) → rank ≤ 1 → ranks_below placement rank ≡ []
unfolding ranks_below
ranks_below-last placement zero h = refl
ranks_below-last placement (suc zero) h = refl
ranks_below-last placement (suc (suc rank)) h = absurd (omega arith)

-- a `/` and a rank, written one after the other
pub append_stroke_rank : (text rank rest : List ℕ) →
    ((text ++ (47 ∷ [])) ++ rank) ++ rest ≡ text ++ (47 ∷ (rank ++ rest))
append_stroke_rank text rank rest = simp append_assoc
