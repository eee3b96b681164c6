use Rattle.std.specs.Prelude.{ℕ, ◌≡◌, ◌+◌, ◌-◌, ◌*◌, ◌<◌, ◌≤◌, ◌⊎◌, Bool, false, ◌&&◌, not, List, [], ◌∷◌, ◌++◌}
use Rattle.std.specs.List.{list_any, list_all, range_with_len}
use Rattle.chess_bits.specs.declared.men.Colour.{Colour}
use Rattle.chess_bits.specs.declared.men.Colour.TheVariants.{White, Black}
use Rattle.chess_bits.specs.declared.men.Kind.{Kind}
use Rattle.chess_bits.specs.declared.men.Kind.TheVariants.{Pawn, Knight, Bishop, Rook, Queen, King}
pub use Rattle.chess_bits.specs.declared.steps.Step.{Step}
use Rattle.chess_bits.specs.Square.{Square, is_square}
use Rattle.chess_bits.specs.Table.{has}

-- The square that lies n times a step from a square. Where the board ends before, it is off the board.
abbrev pub along : ℕ → Step → Square → Square
along n step s = record {
  file = s.file + n * step.right - n * step.left;
  rank = s.rank + n * step.up - n * step.down;
}

abbrev pub north : Step
north = record { right = 0; left = 0; up = 1; down = 0 }

abbrev pub east : Step
east = record { right = 1; left = 0; up = 0; down = 0 }

abbrev pub south : Step
south = record { right = 0; left = 0; up = 0; down = 1 }

abbrev pub west : Step
west = record { right = 0; left = 1; up = 0; down = 0 }

abbrev pub north_east : Step
north_east = record { right = 1; left = 0; up = 1; down = 0 }

abbrev pub south_east : Step
south_east = record { right = 1; left = 0; up = 0; down = 1 }

abbrev pub south_west : Step
south_west = record { right = 0; left = 1; up = 0; down = 1 }

abbrev pub north_west : Step
north_west = record { right = 0; left = 1; up = 1; down = 0 }

-- along its file and its rank (FIDE articles 3.3 and 3.4)
abbrev pub straight : List Step
straight = north ∷ east ∷ south ∷ west ∷ []

-- along its diagonals (FIDE articles 3.2 and 3.4)
abbrev pub diagonal : List Step
diagonal = north_east ∷ south_east ∷ south_west ∷ north_west ∷ []

-- in every direction: the queen's lines, and the king's steps to the adjoining squares (FIDE articles 3.4 and 3.8.1)
abbrev pub adjoining : List Step
adjoining = straight ++ diagonal

-- to the nearest squares not on the same rank, file or diagonal (FIDE article 3.6)
abbrev pub knight_steps : List Step
knight_steps =
    record { right = 1; left = 0; up = 2; down = 0 } ∷
    record { right = 2; left = 0; up = 1; down = 0 } ∷
    record { right = 2; left = 0; up = 0; down = 1 } ∷
    record { right = 1; left = 0; up = 0; down = 2 } ∷
    record { right = 0; left = 1; up = 0; down = 2 } ∷
    record { right = 0; left = 2; up = 0; down = 1 } ∷
    record { right = 0; left = 2; up = 1; down = 0 } ∷
    record { right = 0; left = 1; up = 2; down = 0 } ∷ []

-- the way a side's pawns go (FIDE article 3.7.1)
abbrev pub forward : Colour → Step
forward White = north
forward Black = south

-- diagonally in front, on an adjacent file (FIDE article 3.7.3)
abbrev pub pawn_attacks : Colour → List Step
pawn_attacks White = north_east ∷ north_west ∷ []
pawn_attacks Black = south_east ∷ south_west ∷ []

-- some item of a list is so
abbrev pub SomeOf : {A : Type 0} → (A → Type 0) → List A → Type 0
SomeOf P [] = ⊥
SomeOf P (x ∷ xs) = P x ⊎ SomeOf P xs

-- b lies one of the steps from a
abbrev pub Reaches : List Step → Square → Square → Type 0
Reaches steps a b = SomeOf (λ step. b ≡ along 1 step a) steps

-- b lies a multiple n of a direction from a, and the n - 1 squares between are empty (FIDE article 3.5)
pub record SlidesAlong (occupied : List Bool) (a b : Square) (direction : Step) : Type 0 where
  pub distance : ℕ
  pub positive : 1 ≤ distance
  pub there : b ≡ along distance direction a
  pub between_empty : (k : ℕ) → 1 ≤ k → k < distance → has occupied (along k direction a) ≡ false

abbrev pub Slides : List Bool → List Step → Square → Square → Type 0
Slides occupied directions a b = SomeOf (SlidesAlong occupied a b) directions

-- A man of the colour and kind on a attacks b, where `occupied` are the squares with men (FIDE articles 3.2 to 3.7.3
-- and 3.8.1). It attacks also where it may not move, since its own king would be exposed (FIDE article 3.1.3).
abbrev pub Attacks : List Bool → Colour → Kind → Square → Square → Type 0
Attacks occupied colour Pawn a b = Reaches (pawn_attacks colour) a b
Attacks occupied colour Knight a b = Reaches knight_steps a b
Attacks occupied colour Bishop a b = Slides occupied diagonal a b
Attacks occupied colour Rook a b = Slides occupied straight a b
Attacks occupied colour Queen a b = Slides occupied adjoining a b
Attacks occupied colour King a b = Reaches adjoining a b

-- The same between squares of the board as tests, which compute: a direction has at most seven squares there.
abbrev pub reaches : List Step → Square → Square → Bool
reaches steps a b = list_any (λ step. is_square b (along 1 step a)) steps

abbrev pub is_clear : List Bool → Square → Step → ℕ → Bool
is_clear occupied a direction n = list_all (λ k. not (has occupied (along k direction a))) (range_with_len 1 (n - 1))

abbrev pub slides_along : List Bool → Square → Square → Step → Bool
slides_along occupied a b direction =
    list_any (λ n. is_square b (along n direction a) && is_clear occupied a direction n) (range_with_len 1 7)

abbrev pub slides : List Bool → List Step → Square → Square → Bool
slides occupied directions a b = list_any (slides_along occupied a b) directions

abbrev pub attacks : List Bool → Colour → Kind → Square → Square → Bool
attacks occupied colour Pawn a b = reaches (pawn_attacks colour) a b
attacks occupied colour Knight a b = reaches knight_steps a b
attacks occupied colour Bishop a b = slides occupied diagonal a b
attacks occupied colour Rook a b = slides occupied straight a b
attacks occupied colour Queen a b = slides occupied adjoining a b
attacks occupied colour King a b = reaches adjoining a b
