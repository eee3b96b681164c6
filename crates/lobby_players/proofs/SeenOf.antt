-- What lines had so far, as their players have it.
use Rattle.std.proofs.Common.{ℕ, ◌≡◌, Bool, true, false, not, List, [], ◌∷◌, map, refl, sym, ap, ◌∙◌, String}
use Rattle.std.proofs.lemmas.Cmp.{nat_list_eq_equiv}
use Rattle.std.proofs.lemmas.Bool.{false≢true}
use Rattle.std.specs.Global.{Global}
use Rattle.std.specs.List.{list_any}
use Rattle.std.specs.Str.{bytes_eq, str_to_ascii_lowercase}
use Rattle.lobby_words.specs.declared.players.Player.{Player}
use Rattle.lobby_players.specs.File.{is_alike, has_sum, entries_of}
use Rattle.lobby_players.specs.Seen.{AreSeen, texts_of}

any_alike : (name : List ℕ) (ps : List Player) →
    list_any (bytes_eq (str_to_ascii_lowercase name)) (map (λ (p : Player). str_to_ascii_lowercase p.name) ps) ≡ list_any (is_alike name) (entries_of ps)
any_alike name [] = refl
any_alike name (p ∷ ps) =
    rw (nat_list_eq_equiv.symm (str_to_ascii_lowercase name) (str_to_ascii_lowercase p.name)) (rw (any_alike name ps) refl)

any_sum : (sum : List ℕ) (ps : List Player) → list_any (bytes_eq sum) (map (λ (p : Player). p.sum) ps) ≡ list_any (has_sum sum) (entries_of ps)
any_sum sum [] = refl
any_sum sum (p ∷ ps) = rw (nat_list_eq_equiv.symm sum p.sum) (rw (any_sum sum ps) refl)

held : (b is : Bool) → is ≡ not b → is ≡ false → b ≡ true
held true is told e = refl
held false is told e = absurd (false≢true (sym e ∙ told))

not_held : (b is : Bool) → is ≡ not b → is ≡ true → b ≡ false
not_held false is told e = refl
not_held true is told e = absurd (false≢true (sym told ∙ e))

module _ (names : List (String Global)) (sums : List (List ℕ)) (ps : List Player) (seen : AreSeen names sums ps) where
  name_seen : (name : List ℕ) → list_any (bytes_eq (str_to_ascii_lowercase name)) (texts_of names) ≡ list_any (is_alike name) (entries_of ps)
  name_seen name =
      ap (λ (ns : List (List ℕ)). list_any (bytes_eq (str_to_ascii_lowercase name)) ns) seen.named ∙ any_alike name ps

  sum_seen : (more : List (List ℕ)) (sum : List ℕ) → more ≡ sums → list_any (bytes_eq sum) more ≡ list_any (has_sum sum) (entries_of ps)
  sum_seen more sum same = ap (λ (ss : List (List ℕ)). list_any (bytes_eq sum) ss) (same ∙ seen.shown) ∙ any_sum sum ps

  -- a name that was there is one that a player has, or one like it; of one that is new no player has one like it
  pub name_held : (name : List ℕ) (is : Bool) → is ≡ not (list_any (bytes_eq (str_to_ascii_lowercase name)) (texts_of names)) → is ≡ false →
      list_any (is_alike name) (entries_of ps) ≡ true
  name_held name is told e =
      sym (name_seen name) ∙ held (list_any (bytes_eq (str_to_ascii_lowercase name)) (texts_of names)) is told e

  pub name_new : (name : List ℕ) (is : Bool) → is ≡ not (list_any (bytes_eq (str_to_ascii_lowercase name)) (texts_of names)) → is ≡ true →
      list_any (is_alike name) (entries_of ps) ≡ false
  name_new name is told e =
      sym (name_seen name) ∙ not_held (list_any (bytes_eq (str_to_ascii_lowercase name)) (texts_of names)) is told e

  -- and so of sums
  pub sum_held : (more : List (List ℕ)) (sum : List ℕ) (is : Bool) → more ≡ sums → is ≡ not (list_any (bytes_eq sum) more) → is ≡ false →
      list_any (has_sum sum) (entries_of ps) ≡ true
  sum_held more sum is same told e = sym (sum_seen more sum same) ∙ held (list_any (bytes_eq sum) more) is told e

  pub sum_new : (more : List (List ℕ)) (sum : List ℕ) (is : Bool) → more ≡ sums → is ≡ not (list_any (bytes_eq sum) more) → is ≡ true →
      list_any (has_sum sum) (entries_of ps) ≡ false
  sum_new more sum is same told e = sym (sum_seen more sum same) ∙ not_held (list_any (bytes_eq sum) more) is told e
