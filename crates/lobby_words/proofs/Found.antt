-- The first player who has a token.
use Rattle.std.proofs.Common.{ℕ, ◌≡◌, true, false, List, [], ◌∷◌, ◌++◌, None, Some, refl, cond}
use Rattle.std.specs.Prelude.{find, option_map}
use Rattle.lobby_words.specs.declared.players.Player.{Player}
use Rattle.lobby_words.specs.Players.{identity_of, has_sum, or_holder}

pub found_more : (sum : List ℕ) (players : List Player) (x : Player) →
    option_map identity_of (find (has_sum sum) (players ++ x ∷ []))
    ≡ or_holder (option_map identity_of (find (has_sum sum) players)) (has_sum sum x) (identity_of x)
found_more sum [] x =
    elim (has_sum sum x) as (λ b. option_map identity_of (cond b (Some x) None) ≡ or_holder None b (identity_of x)) [ true ↦ refl | false ↦ refl ]
found_more sum (y ∷ ys) x =
    elim (has_sum sum y) as (λ b. option_map identity_of (cond b (Some y) (find (has_sum sum) (ys ++ x ∷ [])))
    ≡ or_holder (option_map identity_of (cond b (Some y) (find (has_sum sum) ys))) (has_sum sum x) (identity_of x)) [
      | true ↦ refl
      | false ↦ found_more sum ys x
    ]
