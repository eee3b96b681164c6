-- How players are told, row by row.
use Rattle.std.proofs.Common.{ℕ, ◌≡◌, ◌<◌, ◌+◌, List, [], ◌∷◌, ◌++◌, length, get_or, take, sym, ap, ◌∙◌}
use Rattle.std.specs.List.{flat_map}
use Rattle.std.proofs.lemmas.List.{take_more, flat_map_more}
use Rattle.lobby_words.specs.Answers.{ended}
use Rattle.lobby_words.specs.declared.players.Player.{Player}
use Rattle.lobby_words.specs.Players.{row_of}

-- a row more behind a front and rows
pub rows_more : (front : List ℕ) (players : List Player) (i : ℕ) (one : Player) → i < length players → one ≡ get_or players i one →
    (front ++ flat_map row_of (take i players)) ++ row_of one ≡ front ++ flat_map row_of (take (i + 1) players)
rows_more front players i one below is =
    flat_map_more row_of front (take i players) one
    ∙ ap (λ (ps : List Player). front ++ flat_map row_of ps)
    (sym (take_more players i one below ∙ ap (λ (p : Player). take i players ++ p ∷ []) (sym is)))

-- a name more behind a front and names
pub lines_more : (front : List ℕ) (names : List (List ℕ)) (i : ℕ) (one : List ℕ) → i < length names → one ≡ get_or names i one →
    (front ++ flat_map ended (take i names)) ++ ended one ≡ front ++ flat_map ended (take (i + 1) names)
lines_more front names i one below is =
    flat_map_more ended front (take i names) one
    ∙ ap (λ (ns : List (List ℕ)). front ++ flat_map ended ns)
    (sym (take_more names i one below ∙ ap (λ (n : List ℕ). take i names ++ n ∷ []) (sym is)))
