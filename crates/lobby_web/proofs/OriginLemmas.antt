-- A text that begins with a scheme is the scheme and a host exactly where what follows is the host.
use Rattle.std.proofs.Common.{ℕ, ◌≡◌, List, [], ◌∷◌, ◌++◌, take, drop, length, true, false, refl, sym, ap, ◌∙◌, take-append-drop}
use Rattle.std.specs.Cmp.{both_ways}
use Rattle.std.specs.Str.{bytes_eq}
use Rattle.std.proofs.lemmas.Bool.{false_from_ne_true}
use Rattle.std.proofs.lemmas.Slice.Eq.{bytes_eq-Decides}

take-front : (front back : List ℕ) → take (length front) (front ++ back) ≡ front
take-front [] back = refl
take-front (byte ∷ front) back = ap (λ l. byte ∷ l) (take-front front back)

drop-front : (front back : List ℕ) → drop (length front) (front ++ back) ≡ back
drop-front [] back = refl
drop-front (byte ∷ front) back = drop-front front back

pub follows : (origin scheme host : List ℕ) → bytes_eq (take (length scheme) origin) scheme ≡ true
    → bytes_eq (drop (length scheme) origin) host ≡ bytes_eq origin (scheme ++ host)
follows origin scheme host begins =
    let front : take (length scheme) origin ≡ scheme = (bytes_eq-Decides _ _).0 begins in
    let whole : origin ≡ scheme ++ drop (length scheme) origin =
    sym (take-append-drop (length scheme) origin) ∙ ap (λ l. l ++ drop (length scheme) origin) front in
    both_ways _ _
    (λ same. (bytes_eq-Decides origin (scheme ++ host)).1 (whole ∙ ap (λ l. scheme ++ l) ((bytes_eq-Decides _ host).0 same)))
    (λ same. (bytes_eq-Decides _ host).1
    (ap (λ l. drop (length scheme) l) ((bytes_eq-Decides origin (scheme ++ host)).0 same) ∙ drop-front scheme host))

pub differs : (origin scheme host : List ℕ) → bytes_eq (take (length scheme) origin) scheme ≡ false → bytes_eq origin (scheme ++ host) ≡ false
differs origin scheme host begins =
    false_from_ne_true _
    (λ same.
    let whole = (bytes_eq-Decides origin (scheme ++ host)).0 same in
    let front : bytes_eq (take (length scheme) origin) scheme ≡ true =
    (bytes_eq-Decides _ scheme).1 (ap (λ l. take (length scheme) l) whole ∙ take-front scheme host) in
    cc (begins, front))
