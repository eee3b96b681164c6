-- Which players are there, one by one.
use Rattle.std.proofs.Common.{ℕ, ◌≡◌, ◌<◌, ◌+◌, Bool, true, false, List, [], ◌∷◌, ◌++◌, length, get_or, map, filter, take, refl, sym, ap, ◌∙◌}
use Rattle.std.specs.Prelude.{if◌then◌else◌}
use Rattle.std.proofs.lemmas.List.{map-append}
use Rattle.std.proofs.lemmas.List.Elements.{filter_more}
use Rattle.lobby_words.specs.declared.players.Player.{Player}

-- the names of those of the first players who pass a test
abbrev pub names_of : (Player → Bool) → List Player → List (List ℕ)
names_of test players = map (λ (p : Player). p.name) (filter test players)

one_named : (x : Player) (b : Bool) → map (λ (p : Player). p.name) (if b then x ∷ [] else []) ≡ (if b then x.name ∷ [] else [])
one_named x true = refl
one_named x false = refl

pub names_more : (test : Player → Bool) (players : List Player) (i : ℕ) (x : Player) → i < length players → x ≡ get_or players i x →
    names_of test (take (i + 1) players) ≡ names_of test (take i players) ++ (if test x then x.name ∷ [] else [])
names_more test players i x below is =
    let before = filter test (take i players) in
    ap (map (λ (p : Player). p.name)) (filter_more test players i x below
    ∙ ap (λ (y : Player). filter test (take i players) ++ (if test y then y ∷ [] else [])) (sym is))
    ∙ (map-append (λ (p : Player). p.name) before (if test x then x ∷ [] else [])
    ∙ ap (λ (xs : List (List ℕ)). names_of test (take i players) ++ xs) (one_named x (test x)))
