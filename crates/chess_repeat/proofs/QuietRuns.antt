-- The quiet run of a list is read from the list of halfmove clocks.
use Rattle.std.proofs.Common.{ℕ, ◌≡◌, suc, ◌-◌, List, [], ◌∷◌, length, map, get_or, refl, ap, ◌∙◌, arith}
use Rattle.chess_board.specs.Position.{Position}
use Rattle.chess_repeat.specs.QuietRun.{quiet_run}

-- what a list has at its end, below one more member
last_below : (n : ℕ) (ns : List ℕ) (first : ℕ) →
    get_or (first ∷ n ∷ ns) (length (first ∷ n ∷ ns) - 1) 0 ≡ get_or (n ∷ ns) (length (n ∷ ns) - 1) 0
last_below n ns first =
    let before : length (first ∷ n ∷ ns) - 1 ≡ suc (length (n ∷ ns) - 1) = omega arith in
    ap (λ (k : ℕ). get_or (first ∷ n ∷ ns) k 0) before

pub quiet_run-clocks : (list : List Position) →
    get_or (map (λ p. p.halfmove) list) (length (map (λ p. p.halfmove) list) - 1) 0 ≡ quiet_run list
quiet_run-clocks [] = refl
quiet_run-clocks (p ∷ []) = refl
quiet_run-clocks (p ∷ q ∷ rest) =
    last_below q.halfmove (map (λ x. x.halfmove) rest) p.halfmove ∙ quiet_run-clocks (q ∷ rest)
