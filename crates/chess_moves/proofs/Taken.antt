-- Loops over squares: what is listed so far, and the parts of the squares that are left.
use Rattle.std.specs.Prelude.{ℕ, ◌≡◌, ◌+◌, ◌≤◌, List, [], ◌∷◌, ◌++◌, length, flat_map}
use Rattle.std.proofs.Common.{arith, ap, sym, ◌∙◌, append_assoc, length-append}
use Rattle.std.proofs.lemmas.List.{append-nil}

pub parts_left : {A B : Type 0} (f : A → List B) (items whole : List B) (x : A) (rest left : List A) →
    (items ++ flat_map f left ≡ whole) → left ≡ x ∷ rest → (items ++ (f x ++ flat_map f rest) ≡ whole)
parts_left f items whole x rest left e next = ap (λ (xs : List _). items ++ flat_map f xs) (sym next) ∙ e

pub part_room : {A B : Type 0} (f : A → List B) (items whole : List B) (x : A) (rest left : List A) (n : ℕ) →
    (items ++ flat_map f left ≡ whole) → left ≡ x ∷ rest → length whole ≤ n → length items + length (f x) ≤ n
part_room f items whole x rest left n e next most =
    let lengths = ap length (parts_left f items whole x rest left e next) in
    omega (arith, length-append items (f x ++ flat_map f rest), length-append (f x) (flat_map f rest), lengths)

pub part_taken : {A B : Type 0} (f : A → List B) (items whole : List B) (x : A) (rest left : List A) →
    (items ++ flat_map f left ≡ whole) → left ≡ x ∷ rest → ((items ++ f x) ++ flat_map f rest ≡ whole)
part_taken f items whole x rest left e next =
    append_assoc items (f x) (flat_map f rest) ∙ parts_left f items whole x rest left e next

pub parts_end : {A B : Type 0} (f : A → List B) (items whole : List B) (left : List A) →
    (items ++ flat_map f left ≡ whole) → left ≡ [] → items ≡ whole
parts_end f items whole left e none =
    sym (append-nil items) ∙ ap (λ (xs : List _). items ++ flat_map f xs) (sym none) ∙ e
