-- A player has a new link.
use Rattle.std.proofs.Common.{ℕ, ◌≡◌, Bool, true, false, not, cond, ◌||◌, List, [], ◌∷◌, refl, sym, ap, ◌∙◌, subst, Ok, None, Some}
use Rattle.std.specs.Prelude.{find, option_map, if◌then◌else◌}
use Rattle.std.specs.Str.{bytes_eq, str_to_ascii_lowercase}
use Rattle.std.specs.String.{string_bytes}
use Rattle.std.specs.List.{All, AllZip, AllPairs, list_any, filter}
use Rattle.std.proofs.lemmas.Bool.{false≢true, false_from_ne_true, or_parts}
use Rattle.std.proofs.lemmas.Option.{none-some, same_Some}
use Rattle.std.proofs.lemmas.List.Elements.{All-head, All-tail}
use Rattle.std.proofs.lemmas.Slice.Eq.{bytes_eq-Decides}
use Rattle.hex.specs.Hex.{decode_sized, encode_lower}
use Rattle.sha2.specs.Sha256.{sha256}
use Rattle.player_name.specs.Name.{IsName}
use Rattle.lobby_words.specs.declared.players.Player.{Player}
use Rattle.lobby_words.specs.Players.{has_sum as has_sum_now, identity_of, is_named, is_token, holder_of, holder_of_sum, is_token_of, sum_given, IsWithSum, IsRelinked}
use Rattle.lobby_players.specs.File.{Entry, IsLineOf, AreTwo, IsFileOf, lines_of, spoken, is_full_name, has_name, is_alike, has_sum, entry_of, entries_of}
use Rattle.lobby_players.specs.Adding.{added_text, in_place, is_other, line_of}
use Rattle.lobby_players.specs.Relinking.{IsFileRelinked, entry_linked}
use Rattle.lobby_players.proofs.EachLine.{any_mapped, pairs_head, pairs_tail}
use Rattle.lobby_players.proofs.Same.{same_entry}
use Rattle.lobby_players.proofs.Written.{file_after, flipped_two}

abbrev pub named : List ℕ → Player → Bool
named name player = bytes_eq player.name name

abbrev pub AreWithSum : List ℕ → List ℕ → List Player → List Player → Type 0
AreWithSum name sum before after = AllZip (λ (old new : Player). IsWithSum (sum_given name sum old) old new) before after

-- ---- the players of the new file

sum_of_other : (name sum : List ℕ) (x y : Player) → named name x ≡ false → IsWithSum (sum_given name sum x) x y → y.sum ≡ x.sum
sum_of_other name sum x y other is = is.sum_is ∙ ap (λ (b : Bool). if b then sum else x.sum) other

sum_of_named : (name sum : List ℕ) (x y : Player) → named name x ≡ true → IsWithSum (sum_given name sum x) x y → y.sum ≡ sum
sum_of_named name sum x y here is = is.sum_is ∙ ap (λ (b : Bool). if b then sum else x.sum) here

other_entry : (name sum : List ℕ) (x y : Player) → named name x ≡ false → IsWithSum (sum_given name sum x) x y → entry_of y ≡ entry_of x
other_entry name sum x y other is =
    same_entry (entry_of y) (entry_of x) is.name is.is_arbiter (sum_of_other name sum x y other is) is.full_name

-- where nobody has the name all are as before
others_same : (name sum : List ℕ) (xs ys : List Player) → list_any (named name) xs ≡ false → AreWithSum name sum xs ys → entries_of ys ≡ entries_of xs
others_same name sum [] [] none zip = refl
others_same name sum [] (y ∷ ys) none zip = absurd zip
others_same name sum (x ∷ xs) [] none zip = absurd zip
others_same name sum (x ∷ xs) (y ∷ ys) none zip =
    ap (λ (e : Entry). e ∷ entries_of ys) (other_entry name sum x y (or_parts _ _ none).0 zip.0)
    ∙ ap (λ (es : List Entry). entry_of x ∷ es) (others_same name sum xs ys (or_parts _ _ none).1 zip.1)

other_by : (name : List ℕ) (x y : Player) (b : Bool) → named name y ≡ b → x.name ≡ name → AreTwo (entry_of x) (entry_of y) → b ≡ false
other_by name x y true is here two = absurd (two.names (ap str_to_ascii_lowercase (here ∙ sym ((bytes_eq-Decides y.name name).0 is))))
other_by name x y false is here two = refl

-- behind who has the name nobody has it
none_behind : (name : List ℕ) (x : Player) (xs : List Player) → x.name ≡ name → All (AreTwo (entry_of x)) (entries_of xs) →
    list_any (named name) xs ≡ false
none_behind name x [] here all = refl
none_behind name x (y ∷ ys) here all =
    let other : named name y ≡ false = other_by name x y (named name y) refl here (All-head (AreTwo (entry_of x)) (entry_of y) (entries_of ys) all) in
    rw other (none_behind name x ys here (All-tail (AreTwo (entry_of x)) (entry_of y) (entries_of ys) all))

placed_at : (name sum : List ℕ) (p x : Player) (xs : List Player) (y : Player) (ys : List Player) (b : Bool) → named name x ≡ b →
    AllPairs AreTwo (entries_of (x ∷ xs)) → cond b (Some x) (find (named name) xs) ≡ Some p → IsWithSum (sum_given name sum x) x y →
    AreWithSum name sum xs ys →
    (find (named name) xs ≡ Some p → entries_of ys ≡ in_place (has_name name) (entry_linked name sum p) (entries_of xs)) →
    entries_of (y ∷ ys) ≡ cond b (entry_linked name sum p ∷ entries_of xs)
    (entry_of x ∷ in_place (has_name name) (entry_linked name sum p) (entries_of xs))
placed_at name sum p x xs y ys true here pairs found is zip next =
    let same = same_Some x p found in
    let called : x.name ≡ name = (bytes_eq-Decides x.name name).0 here in
    ap (λ (e : Entry). e ∷ entries_of ys)
    (same_entry (entry_of y) (entry_linked name sum p) (is.name ∙ called) (is.is_arbiter ∙ ap (λ (q : Player). q.is_arbiter) same)
    (sum_of_named name sum x y here is) (is.full_name ∙ ap (λ (q : Player). string_bytes q.full_name) same))
    ∙ ap (λ (es : List Entry). entry_linked name sum p ∷ es)
    (others_same name sum xs ys (none_behind name x xs called (pairs_head AreTwo (entry_of x) (entries_of xs) pairs)) zip)
placed_at name sum p x xs y ys false other pairs found is zip next =
    ap (λ (e : Entry). e ∷ entries_of ys) (other_entry name sum x y other is)
    ∙ ap (λ (es : List Entry). entry_of x ∷ es) (next found)

-- they are those before, with him in the place of who had the name
placed : (name sum : List ℕ) (p : Player) (before after : List Player) → AllPairs AreTwo (entries_of before) →
    find (named name) before ≡ Some p → AreWithSum name sum before after →
    entries_of after ≡ in_place (has_name name) (entry_linked name sum p) (entries_of before)
placed name sum p [] after pairs found zip = absurd (none-some p found)
placed name sum p (x ∷ xs) [] pairs found zip = absurd zip
placed name sum p (x ∷ xs) (y ∷ ys) pairs found zip =
    placed_at name sum p x xs y ys (named name x) refl pairs found zip.0 zip.1
    (λ more. placed name sum p xs ys (pairs_tail AreTwo (entry_of x) (entries_of xs) pairs) more zip.1)

-- ---- whom the token shows

same_sums : (a b sum : List ℕ) → a ≡ b → bytes_eq a sum ≡ bytes_eq b sum
same_sums a b sum is = ap (λ (x : List ℕ). bytes_eq x sum) is

shown_at : (name sum : List ℕ) (p x : Player) (xs : List Player) (y : Player) (ys : List Player) (b : Bool) → named name x ≡ b →
    cond b (Some x) (find (named name) xs) ≡ Some p → has_sum_now sum x ≡ false → IsWithSum (sum_given name sum x) x y →
    (find (named name) xs ≡ Some p → is_named (option_map identity_of (find (has_sum_now sum) ys)) name ≡ true) →
    is_named (option_map identity_of (find (has_sum_now sum) (y ∷ ys))) name ≡ true
shown_at name sum p x xs y ys true here found fresh is next =
    let has : has_sum_now sum y ≡ true = (bytes_eq-Decides y.sum sum).1 (sum_of_named name sum x y here is) in
    rw has (ap (λ (n : List ℕ). bytes_eq n name) is.name ∙ here)
shown_at name sum p x xs y ys false other found fresh is next =
    let has_not : has_sum_now sum y ≡ false = same_sums y.sum x.sum sum (sum_of_other name sum x y other is) ∙ fresh in
    rw has_not (next found)

shown_found : (name sum : List ℕ) (p : Player) (before after : List Player) → find (named name) before ≡ Some p →
    list_any (has_sum_now sum) before ≡ false → AreWithSum name sum before after →
    is_named (option_map identity_of (find (has_sum_now sum) after)) name ≡ true
shown_found name sum p [] after found fresh zip = absurd (none-some p found)
shown_found name sum p (x ∷ xs) [] found fresh zip = absurd zip
shown_found name sum p (x ∷ xs) (y ∷ ys) found fresh zip =
    shown_at name sum p x xs y ys (named name x) refl found (or_parts _ _ fresh).0 zip.0
    (λ more. shown_found name sum p xs ys more (or_parts _ _ fresh).1 zip.1)

shown : (name token : List ℕ) (p : Player) (before after : List Player) → is_token token ≡ true → find (named name) before ≡ Some p →
    list_any (has_sum_now (sha256 token)) before ≡ false → AreWithSum name (sha256 token) before after → is_token_of after token name ≡ true
unfolding holder_of
shown name token p before after one found fresh zip =
    subst (λ (b : Bool). is_named (if b then holder_of_sum after (sha256 token) else None) name ≡ true) (sym one)
    (shown_found name (sha256 token) p before after found fresh zip)

-- ---- the new file

-- the line of the player who is found
pub record IsSpelled (name : List ℕ) (p : Player) : Type 0 where
  pub is_name : IsName name
  pub is_full : is_full_name (string_bytes p.full_name) ≡ true

spelled_at : (name line : List ℕ) (x p : Player) (xs : List Player) (b : Bool) → named name x ≡ b → IsLineOf line (entry_of x) →
    cond b (Some x) (find (named name) xs) ≡ Some p → (find (named name) xs ≡ Some p → IsSpelled name p) → IsSpelled name p
spelled_at name line x p xs true here told found next = record {
  is_name = subst IsName ((bytes_eq-Decides x.name name).0 here) told.name;
  is_full = ap (λ (q : Player). is_full_name (string_bytes q.full_name)) (sym (same_Some x p found)) ∙ told.full_name;
}
spelled_at name line x p xs false here told found next = next found

spelled : (name : List ℕ) (p : Player) (lines : List (List ℕ)) (xs : List Player) → AllZip IsLineOf lines (entries_of xs) →
    find (named name) xs ≡ Some p → IsSpelled name p
spelled name p lines [] zip found = absurd (none-some p found)
spelled name p [] (x ∷ xs) zip found = absurd zip
spelled name p (line ∷ lines) (x ∷ xs) zip found =
    spelled_at name line x p xs (named name x) refl zip.0 found (λ more. spelled name p lines xs zip.1 more)

none_others_by : (p q : Entry → Bool) (x : Entry) (xs : List Entry) (b : Bool) → q x ≡ false → list_any q (filter p xs) ≡ false →
    list_any q (cond b (x ∷ filter p xs) (filter p xs)) ≡ false
none_others_by p q x xs true here rest = rw here rest
none_others_by p q x xs false here rest = rest

none_others : (p q : Entry → Bool) (xs : List Entry) → list_any q xs ≡ false → list_any q (filter p xs) ≡ false
none_others p q [] none = refl
none_others p q (x ∷ xs) none = none_others_by p q x xs (p x) (or_parts _ _ none).0 (none_others p q xs (or_parts _ _ none).1)

-- ---- nobody else has a name like his

alike_if : (name : List ℕ) (x y : Entry) → y.name ≡ name → AreTwo x y → is_alike name x ≡ false
alike_if name x y here two =
    false_from_ne_true (is_alike name x)
    (λ is. two.names ((bytes_eq-Decides (str_to_ascii_lowercase x.name) (str_to_ascii_lowercase name)).0 is ∙ ap str_to_ascii_lowercase (sym here)))

alike_at : (name : List ℕ) (x y : Entry) (ys : List Entry) (b : Bool) → has_name name y ≡ b → All (AreTwo x) (y ∷ ys) →
    (b || list_any (has_name name) ys) ≡ true → (list_any (has_name name) ys ≡ true → is_alike name x ≡ false) → is_alike name x ≡ false
alike_at name x y ys true here all has next = alike_if name x y ((bytes_eq-Decides y.name name).0 here) (All-head (AreTwo x) y ys all)
alike_at name x y ys false here all has next = next has

alike_before : (name : List ℕ) (x : Entry) (xs : List Entry) → All (AreTwo x) xs → list_any (has_name name) xs ≡ true → is_alike name x ≡ false
alike_before name x [] all has = absurd (false≢true has)
alike_before name x (y ∷ ys) all has =
    alike_at name x y ys (has_name name y) refl all has (λ more. alike_before name x ys (All-tail (AreTwo x) y ys all) more)

alike_behind : (name : List ℕ) (x : Entry) (xs : List Entry) → x.name ≡ name → All (AreTwo x) xs → list_any (is_alike name) xs ≡ false
alike_behind name x [] here all = refl
alike_behind name x (y ∷ ys) here all =
    let other : is_alike name y ≡ false = alike_if name y x here (flipped_two x y (All-head (AreTwo x) y ys all)) in
    rw other (alike_behind name x ys here (All-tail (AreTwo x) y ys all))

alone_at : (name : List ℕ) (x : Entry) (xs : List Entry) (b : Bool) → has_name name x ≡ b → AllPairs AreTwo (x ∷ xs) →
    (b || list_any (has_name name) xs) ≡ true →
    (list_any (has_name name) xs ≡ true → list_any (is_alike name) (filter (is_other name) xs) ≡ false) →
    list_any (is_alike name) (cond (not b) (x ∷ filter (is_other name) xs) (filter (is_other name) xs)) ≡ false
alone_at name x xs true here pairs has next =
    none_others (is_other name) (is_alike name) xs
    (alike_behind name x xs ((bytes_eq-Decides x.name name).0 here) (pairs_head AreTwo x xs pairs))
alone_at name x xs false here pairs has next =
    let other : is_alike name x ≡ false = alike_before name x xs (pairs_head AreTwo x xs pairs) has in
    rw other (next has)

alone : (name : List ℕ) (es : List Entry) → AllPairs AreTwo es → list_any (has_name name) es ≡ true →
    list_any (is_alike name) (filter (is_other name) es) ≡ false
alone name [] pairs has = refl
alone name (x ∷ xs) pairs has =
    alone_at name x xs (has_name name x) refl pairs has (λ more. alone name xs (pairs_tail AreTwo x xs pairs) more)

found_at : (name : List ℕ) (x : Player) (xs : List Player) (p : Player) (b : Bool) → cond b (Some x) (find (named name) xs) ≡ Some p →
    (find (named name) xs ≡ Some p → list_any (has_name name) (entries_of xs) ≡ true) → (b || list_any (has_name name) (entries_of xs)) ≡ true
found_at name x xs p true found next = refl
found_at name x xs p false found next = next found

found_any : (name : List ℕ) (xs : List Player) (p : Player) → find (named name) xs ≡ Some p → list_any (has_name name) (entries_of xs) ≡ true
found_any name [] p found = absurd (none-some p found)
found_any name (x ∷ xs) p found = found_at name x xs p (named name x) found (λ more. found_any name xs p more)

pub file_relinked : (name sum text new : List ℕ) (p : Player) (before after : List Player) → IsFileOf text (entries_of before) →
    find (named name) before ≡ Some p → list_any (has_sum sum) (entries_of before) ≡ false → decode_sized (encode_lower sum) 32 ≡ Ok sum →
    AreWithSum name sum before after → new ≡ added_text text (entry_linked name sum p) → IsFileRelinked name text new before after
file_relinked name sum text new p before after file found fresh digits each written =
    let e = entry_linked name sum p in
    let line = spelled name p (spoken (lines_of text)) before file.told found in
    let add : IsFileOf new (in_place (has_name name) e (entries_of before)) =
    file_after text (entries_of before) e new file line.is_name digits line.is_full
    (record {
      names = alone name (entries_of before) file.apart (found_any name before p found);
      sums = none_others (is_other name) (has_sum sum) (entries_of before) fresh;
    })
    written in
    record {
      old_file = file;
      new_file = subst (λ (es : List Entry). IsFileOf new es) (sym (placed name sum p before after file.apart found each)) add;
      line = line_of e;
      written = written;
    }

players_told : (name token : List ℕ) (p : Player) (before after : List Player) → is_token token ≡ true → find (named name) before ≡ Some p →
    list_any (has_sum_now (sha256 token)) before ≡ false → AreWithSum name (sha256 token) before after → IsRelinked name token before after
players_told name token p before after one found fresh each =
    record { each = each; fresh = fresh; holds = shown name token p before after one found fresh each }

pub players_relinked : (name token sum : List ℕ) (p : Player) (before after : List Player) → is_token token ≡ true → sum ≡ sha256 token →
    find (named name) before ≡ Some p → list_any (has_sum sum) (entries_of before) ≡ false → AreWithSum name sum before after →
    IsRelinked name token before after
players_relinked name token sum p before after one is found fresh each =
    players_told name token p before after one found
    (subst (λ (s : List ℕ). list_any (has_sum_now s) before ≡ false) is (any_mapped entry_of (has_sum sum) before ∙ fresh))
    (subst (λ (s : List ℕ). AreWithSum name s before after) is each)

-- ---- nobody has the name

none_at : (name : List ℕ) (x : Player) (xs : List Player) (b : Bool) → cond b (Some x) (find (named name) xs) ≡ None →
    (find (named name) xs ≡ None → list_any (named name) xs ≡ false) → (b || list_any (named name) xs) ≡ false
none_at name x xs true none next = absurd (none-some x (sym none))
none_at name x xs false none next = next none

none_called : (name : List ℕ) (xs : List Player) → find (named name) xs ≡ None → list_any (named name) xs ≡ false
none_called name [] none = refl
none_called name (x ∷ xs) none = none_at name x xs (named name x) none (λ more. none_called name xs more)

pub nobody : (name : List ℕ) (xs : List Player) → find (named name) xs ≡ None → list_any (has_name name) (entries_of xs) ≡ false
nobody name xs none = sym (any_mapped entry_of (has_name name) xs) ∙ none_called name xs none
