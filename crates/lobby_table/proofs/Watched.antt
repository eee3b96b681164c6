-- Who is told of what.
use Rattle.std.proofs.Common.{ℕ, ◌≡◌, ◌<◌, ◌+◌, Bool, true, false, ◌||◌, ◌==◌, List, [], ◌∷◌, ◌++◌, length, get_or, take, map, filter, refl, ap, ◌∙◌}
use Rattle.std.specs.Prelude.{if◌then◌else◌}
use Rattle.std.specs.List.{list_any}
use Rattle.std.proofs.lemmas.List.{map-append}
use Rattle.std.proofs.lemmas.List.Elements.{filter_more}
use Rattle.lobby_table.specs.declared.watching.Watch.{Watch}
use Rattle.lobby_table.specs.declared.server_line.Due.{Due}
use Rattle.lobby_table.specs.Owed.{owed_of}
use Rattle.lobby_table.specs.Owed.{is_number, owes, waiter}

-- those who watch a game are found one by one
abbrev pub watching : ℕ → List Watch → List ℕ
watching game watches = map (λ (w : Watch). w.by) (filter (λ (w : Watch). w.game == game) watches)

one_more : (w : Watch) (b : Bool) → map (λ (v : Watch). v.by) (if b then w ∷ [] else []) ≡ (if b then w.by ∷ [] else [])
one_more w true = refl
one_more w false = refl

pub watching_more : (watches : List Watch) (game i : ℕ) (d : Watch) → i < length watches →
    watching game (take (i + 1) watches)
    ≡ watching game (take i watches) ++ (if (get_or watches i d).game == game then (get_or watches i d).by ∷ [] else [])
watching_more watches game i d short =
    ap (map (λ (w : Watch). w.by)) (filter_more (λ (w : Watch). w.game == game) watches i d short)
    ∙ (map-append (λ (w : Watch). w.by) (filter (λ (w : Watch). w.game == game) (take i watches))
    (if (get_or watches i d).game == game then get_or watches i d ∷ [] else [])
    ∙ ap (λ (xs : List ℕ). watching game (take i watches) ++ xs) (one_more (get_or watches i d) ((get_or watches i d).game == game)))

-- whose answers are owed, by what the desk keeps of them
pub owes_map : (dues : List Due) (c : ℕ) → owes (map owed_of dues) c ≡ list_any (λ due. is_number c (waiter (owed_of due))) dues
owes_map [] c = refl
owes_map (d ∷ ds) c = ap (λ t. is_number c (waiter (owed_of d)) || t) (owes_map ds c)
