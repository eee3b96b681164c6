-- The seats in the games of a list, row by row.
use Rattle.std.proofs.Common.{ℕ, ◌≡◌, ◌<◌, ◌+◌, List, [], ◌∷◌, ◌++◌, length, get_or, map, take, ap, ◌∙◌, append-nil}
use Rattle.std.specs.Borrow.{Bor}
use Rattle.std.specs.List.{flat_map}
use Rattle.std.proofs.lemmas.List.{take_more, length-map, get_or-map}
use Rattle.std.proofs.lemmas.Grind.{flat_map-append}
use Rattle.lobby_words.specs.declared.listing.Seat.{Seat}
use Rattle.lobby_words.specs.Waiting.{seats_row}

pub rows_more : (items : List (Bor (List ℕ))) (i : ℕ) (d : Bor (List ℕ)) → i < length items →
    flat_map seats_row (take (i + 1) (map (λ (row : Bor (List ℕ)). row.now) items))
    ≡ flat_map seats_row (take i (map (λ (row : Bor (List ℕ)). row.now) items)) ++ seats_row (get_or items i d).now
rows_more items i d below =
    let now = λ (row : Bor (List ℕ)). row.now in
    let inside : i < length (map (λ (row : Bor (List ℕ)). row.now) items) = rw (length-map items now) below in
    ap (flat_map seats_row) (take_more (map now items) i d.now inside
    ∙ ap (λ (row : List ℕ). take i (map now items) ++ row ∷ []) (get_or-map now items i d d.now below))
    ∙ (flat_map-append seats_row (take i (map now items)) ((get_or items i d).now ∷ [])
    ∙ ap (λ (t : List Seat). flat_map seats_row (take i (map now items)) ++ t) (append-nil (seats_row (get_or items i d).now)))
