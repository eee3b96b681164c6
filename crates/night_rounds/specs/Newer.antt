-- Which of two games is the newer one: a server gives each of its games a greater number than all before.
use Rattle.std.specs.Prelude.{ℕ, Bool, true, nat_lt, List, Option, None, Some}
use Rattle.std.specs.List.{list_all}

-- newer than this game, where there is one
abbrev pub is_newer : Option ℕ → ℕ → Bool
is_newer None number = true
is_newer (Some one) number = nat_lt one number

-- newer than each of these games
abbrev pub is_newest : List ℕ → ℕ → Bool
is_newest games number = list_all (λ one. nat_lt one number) games
