-- What is found first.
use Rattle.std.proofs.Common.{ℕ, ◌≡◌, ◌==◌, true, false, List, [], ◌∷◌, Option, None, Some, refl, cond}
use Rattle.std.specs.Prelude.{find, option_map}
use Rattle.lobby_words.specs.declared.listing.Seat.{Seat}
use Rattle.lobby_table.specs.declared.refusals.RefusedActs.{RefusedActs}
use Rattle.lobby_table.specs.Refusals.{count_in}
use Rattle.lobby_table.specs.Waiting.{first_by}

-- who has the first seat in a game
pub by_first : (game : ℕ) (seats : List Seat) → option_map (λ (s : Seat). s.by) (find (λ (s : Seat). s.game == game) seats) ≡ first_by game seats
by_first game [] = refl
by_first game (x ∷ xs) =
    elim (x.game == game) as (λ b. option_map (λ (s : Seat). s.by) (cond b (Some x) (find (λ (s : Seat). s.game == game) xs)) ≡ cond b (Some x.by) (first_by game xs)) [
      | true ↦ refl
      | false ↦ by_first game xs
    ]

-- how many acts were refused in a game, of what is found
abbrev pub count_found : Option RefusedActs → ℕ
count_found None = 0
count_found (Some acts) = acts.count

pub count_first : (game : ℕ) (refused : List RefusedActs) → count_found (find (λ (r : RefusedActs). r.game == game) refused) ≡ count_in game refused
count_first game [] = refl
count_first game (x ∷ xs) =
    elim (x.game == game) as (λ b. count_found (cond b (Some x) (find (λ (r : RefusedActs). r.game == game) xs)) ≡ cond b x.count (count_in game xs)) [
      | true ↦ refl
      | false ↦ count_first game xs
    ]
