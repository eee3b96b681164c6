-- Whether a player has a name.
use Rattle.std.proofs.Common.{ℕ, ◌≡◌, Bool, true, false, ◌||◌, List, [], ◌∷◌, Option, None, Some, refl, ap, cond}
use Rattle.std.specs.Prelude.{find, option_map, is_some, if◌then◌else◌}
use Rattle.std.specs.List.{list_any}
use Rattle.std.specs.Str.{bytes_eq}
use Rattle.std.proofs.lemmas.Bool.{false≢true}
use Rattle.std.proofs.lemmas.Slice.Eq.{bytes_eq-Decides}
use Rattle.lobby_words.specs.declared.players.Player.{Player}
use Rattle.lobby_words.specs.Players.{known_name}

abbrev pub has_name : List ℕ → Player → Bool
has_name name player = bytes_eq player.name name

abbrev pub name_found : Option Player → Option (List ℕ)
name_found found = option_map (λ (player : Player). player.name) found

named_at : (name : List ℕ) (x : Player) (xs : List Player) (b : Bool) → has_name name x ≡ b →
    name_found (find (has_name name) xs) ≡ known_name xs name →
    name_found (cond b (Some x) (find (has_name name) xs)) ≡ (if b || list_any (has_name name) xs then Some name else None)
named_at name x xs true is h = ap Some ((bytes_eq-Decides x.name name).0 is)
named_at name x xs false is h = h

-- the name of the first player who has it is this name
pub found_named : (players : List Player) (name : List ℕ) → name_found (find (has_name name) players) ≡ known_name players name
found_named [] name = refl
found_named (x ∷ xs) name = named_at name x xs (has_name name x) refl (found_named xs name)

abbrev or_name : List ℕ → Option (List ℕ) → List ℕ
or_name name None = name
or_name name (Some other) = other

same_name : (name other : List ℕ) (b : Bool) → (if b then Some name else None) ≡ Some other → name ≡ other
same_name name other true is = ap (or_name name) is
same_name name other false is = absurd (false≢true (ap is_some is))

-- who is found by a name has it
pub named_is : (players : List Player) (name other : List ℕ) → known_name players name ≡ Some other → name ≡ other
named_is players name other is = same_name name other (list_any (has_name name) players) is
