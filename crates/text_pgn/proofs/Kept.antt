-- The moves stay.
use Rattle.std.proofs.Common.{ℕ, ◌≡◌, Bool, true, false, cond, List, [], ◌∷◌, ◌++◌, codes, Option, None, Some, refl}
use Rattle.std.proofs.Common.{sym, ap, ◌∙◌}
use Rattle.std.specs.Prelude.{if◌then◌else◌, filter}
use Rattle.std.proofs.lemmas.List.Elements.{filter-append}
use Rattle.text_pgn.specs.Pgn.{is_move}
use Rattle.text_pgn.specs.Moves.{clock_text, clock_tokens, again_tokens, move_tokens, told_tokens, first_clock}
use Rattle.text_pgn.specs.Moves.{next_clocks, is_known}

no_move : (token : List ℕ) → is_move token ≡ false → filter is_move (token ∷ []) ≡ []
no_move token h = ap (λ (b : Bool). cond b (token ∷ []) []) h

clock_no_move : (clock : Option ℕ) → filter is_move (clock_tokens clock) ≡ []
unfolding clock_text
clock_no_move None = refl
clock_no_move (Some ms) = refl

again_no_move : (again : Bool) (number : List ℕ) → is_move number ≡ false →
    filter is_move (again_tokens again number) ≡ []
again_no_move false number h = refl
again_no_move true [] h = refl
again_no_move true (b ∷ number) h = no_move ((b ∷ number) ++ codes "..") h

one_move : (again : Bool) (number token : List ℕ) (clock : Option ℕ) → is_move number ≡ false →
    filter is_move (move_tokens again number token clock) ≡ filter is_move (token ∷ [])
one_move again number token clock h =
    filter-append is_move (again_tokens again number) (token ∷ clock_tokens clock)
    ∙ (ap (λ (xs : List (List ℕ)). xs ++ filter is_move (token ∷ clock_tokens clock)) (again_no_move again number h)
    ∙ ap (λ (xs : List (List ℕ)). cond (is_move token) (token ∷ xs) xs) (clock_no_move clock))

step : (number token : List ℕ) (again : Bool) (clock : Option ℕ) (behind other tokens : List (List ℕ)) (b : Bool) →
    is_move token ≡ b →
    is_move number ≡ false → filter is_move behind ≡ filter is_move tokens →
    (b ≡ false → filter is_move other ≡ filter is_move tokens) →
    filter is_move (if b then move_tokens again number token clock ++ behind else token ∷ other)
    ≡ filter is_move (token ∷ tokens)
step number token again clock behind other tokens true is h f k =
    filter-append is_move (move_tokens again number token clock) behind
    ∙ (ap (λ (xs : List (List ℕ)). xs ++ filter is_move behind) (one_move again number token clock h)
    ∙ (ap (λ (xs : List (List ℕ)). filter is_move (token ∷ []) ++ xs) f
    ∙ sym (filter-append is_move (token ∷ []) tokens)))
step number token again clock behind other tokens false is h f k =
    ap (λ (xs : List (List ℕ)). cond (is_move token) (token ∷ xs) xs) (k refl)

pub moves_told : (number : List ℕ) (again : Bool) (tokens : List (List ℕ)) (clocks : List (Option ℕ)) →
    is_move number ≡ false →
    filter is_move (told_tokens number again tokens clocks) ≡ filter is_move tokens
moves_told number again [] clocks h = refl
moves_told number again (token ∷ tokens) clocks h =
    step number token again (first_clock clocks)
    (told_tokens number (is_known (first_clock clocks)) tokens (next_clocks clocks))
    (told_tokens token false tokens clocks) tokens (is_move token) refl h
    (moves_told number (is_known (first_clock clocks)) tokens (next_clocks clocks) h)
    (λ e. moves_told token false tokens clocks e)
