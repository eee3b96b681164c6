-- Who has walked in.
use Rattle.std.proofs.Common.{ℕ, ◌≡◌, Bool, true, false, not, cond, ◌&&◌, ◌||◌, List, [], ◌∷◌, ◌++◌, length, map, refl, sym, ap, ◌∙◌, subst, Result, Ok, Err, None, Some, Option, arith}
use Rattle.std.specs.Prelude.{find, option_map, nat_le, if◌then◌else◌, ◌==◌}
use Rattle.std.specs.Str.{bytes_eq, str_to_ascii_lowercase}
use Rattle.std.specs.String.{string_bytes}
use Rattle.std.specs.List.{All, AllZip, AllPairs, list_any, list_all}
use Rattle.std.proofs.lemmas.Bool.{false≢true, false_from_ne_true, and_from, and_parts, leb-true, le-leb, not-true}
use Rattle.std.proofs.lemmas.List.Elements.{All-head, All-tail}
use Rattle.std.proofs.lemmas.Slice.Eq.{bytes_eq-Decides}
use Rattle.sha2.specs.Sha256.{sha256}
use Rattle.player_name.specs.Name.{IsName, is_name_byte}
use Rattle.lobby_words.specs.declared.players.Player.{Player}
use Rattle.lobby_words.specs.declared.planning.Newcomer.{Newcomer}
use Rattle.lobby_words.specs.declared.planning.Newcomer.TheVariants as newcomers
use Rattle.lobby_words.specs.Words.{as_name, full_said, sort_of, is_player_sort}
use Rattle.lobby_words.specs.Players.{has_sum as has_sum_now, identity_of, is_named, is_token, holder_of, holder_of_sum, is_token_of, is_named_like, IsWithSum, IsJoined, AreAlike}
use Rattle.lobby_players.specs.File.{Entry, IsLineOf, AreTwo, IsFileOf, role_text, spoken, lines_of, is_full_name, has_name, is_alike, has_sum, entry_of, entries_of}
use Rattle.lobby_players.specs.Adding.{IsAdded, added_entries, in_place}
use Rattle.lobby_players.specs.Joining.{IsFileJoined, is_name, newcomer_by, newcomer_of, newcomer_said}
use Rattle.lobby_players.proofs.EachLine.{any_mapped, pairs_head, pairs_tail}
use Rattle.lobby_players.proofs.Same.{same_entry, first_or, behind_first}
use Rattle.lobby_players.proofs.Told.{fields_told, line_tells}

-- ---- a name

pub name_is : (text : List ℕ) → IsName text → is_name text ≡ true
name_is text is =
    and_from (nat_le 1 (length text) && nat_le (length text) 16) (list_all is_name_byte text)
    (and_from (nat_le 1 (length text)) (nat_le (length text) 16) (le-leb 1 (length text) is.some) (le-leb (length text) 16 is.short)) is.bytes

is_one : (text : List ℕ) → is_name text ≡ true → IsName text
is_one text is =
    let both = and_parts (nat_le 1 (length text) && nat_le (length text) 16) (list_all is_name_byte text) is in
    let sizes = and_parts (nat_le 1 (length text)) (nat_le (length text) 16) both.0 in
    record {
      some = leb-true 1 (length text) sizes.0;
      short = leb-true (length text) 16 sizes.1;
      bytes = both.1;
    }

pub name_none : (text : List ℕ) → ¬ IsName text → is_name text ≡ false
name_none text none = false_from_ne_true (is_name text) (λ is. none (is_one text is))

-- ---- who may be added depends on names alone

by_alike : (a b : Player) (found other : Option Player) (full is : Bool) (name : List ℕ) → b.name ≡ a.name →
    newcomer_by other full name ≡ newcomer_by found full name →
    newcomer_by (cond is (Some b) other) full name ≡ newcomer_by (cond is (Some a) found) full name
by_alike a b found other full true name same more = ap newcomers.Taken same
by_alike a b found other full false name same more = more

found_alike : (name called : List ℕ) (full : Bool) (players others : List Player) → AreAlike players others →
    newcomer_by (find (is_named_like name) others) full called ≡ newcomer_by (find (is_named_like name) players) full called
found_alike name called full [] [] are = refl
found_alike name called full [] (b ∷ bs) are = absurd are
found_alike name called full (a ∷ as') [] are = absurd are
found_alike name called full (a ∷ as') (b ∷ bs) are =
    ap (λ (n : List ℕ). newcomer_by (cond (bytes_eq (str_to_ascii_lowercase n) (str_to_ascii_lowercase name)) (Some b) (find (is_named_like name) bs)) full called) are.0.name
    ∙ by_alike a b (find (is_named_like name) as') (find (is_named_like name) bs) full (is_named_like name a) called are.0.name
    (found_alike name called full as' bs are.1)

pub newcomer_alike : (text : List ℕ) (players others : List Player) → AreAlike players others → newcomer_said others text ≡ newcomer_said players text
newcomer_alike text players others are =
    ap (λ (n : Newcomer). if is_player_sort (sort_of text) then (if is_name (as_name text) then n else newcomers.BadName) else newcomers.BadName)
    (found_alike (as_name text) (as_name text) (is_full_name (full_said text)) players others are)

-- ---- who may be added has the name of the message

abbrev name_or : List ℕ → Newcomer → List ℕ
name_or other (newcomers.New name) = name
name_or other _ = other

new_if : (found : Option Player) (full : Bool) (name : List ℕ) → name_or name (newcomer_by found full name) ≡ name
new_if (Some player) full name = refl
new_if None true name = refl
new_if None false name = refl

new_by : (asks named : Bool) (found : Option Player) (full : Bool) (name : List ℕ) →
    name_or name (if asks then (if named then newcomer_by found full name else newcomers.BadName) else newcomers.BadName) ≡ name
new_by true true found full name = new_if found full name
new_by true false found full name = refl
new_by false named found full name = refl

pub new_name : (players : List Player) (text name : List ℕ) → newcomer_said players text ≡ newcomers.New name → name ≡ as_name text
new_name players text name is =
    ap (name_or (as_name text)) (sym is)
    ∙ new_by (is_player_sort (sort_of text)) (is_name (as_name text)) (find (is_named_like (as_name text)) players)
    (is_full_name (full_said text)) (as_name text)

-- ---- a text is a file of these players alone

one_role : (a b : Bool) → role_text a ≡ role_text b → a ≡ b
one_role true true same = refl
one_role false false same = refl
one_role true false same = absurd (false≢true (sym (ap (λ (t : List ℕ). length t == 7) same)))
one_role false true same = absurd (false≢true (ap (λ (t : List ℕ). length t == 7) same))

abbrev sum_or : {E : Type 0} → List ℕ → Result (List ℕ) E → List ℕ
sum_or other (Ok sum) = sum
sum_or other (Err fault) = other

one_entry : (line : List ℕ) (x y : Entry) → IsLineOf line x → IsLineOf line y → x ≡ y
one_entry line x y is other =
    let told = line_tells line x.name (role_text x.is_arbiter) is.digits x.full_name y (fields_told line x is) other in
    same_entry x y told.name (one_role x.is_arbiter y.is_arbiter told.role)
    (ap (sum_or x.sum) (sym is.sum ∙ told.sum)) told.full_name

one_list : (lines : List (List ℕ)) (xs ys : List Entry) → AllZip IsLineOf lines xs → AllZip IsLineOf lines ys → xs ≡ ys
one_list [] [] [] is other = refl
one_list [] [] (y ∷ ys) is other = absurd other
one_list [] (x ∷ xs) ys is other = absurd is
one_list (line ∷ lines) [] ys is other = absurd is
one_list (line ∷ lines) (x ∷ xs) [] is other = absurd other
one_list (line ∷ lines) (x ∷ xs) (y ∷ ys) is other =
    ap (λ (e : Entry). e ∷ xs) (one_entry line x y is.0 other.0)
    ∙ ap (λ (es : List Entry). y ∷ es) (one_list lines xs ys is.1 other.1)

pub one_file : (text : List ℕ) (xs ys : List Entry) → IsFileOf text xs → IsFileOf text ys → xs ≡ ys
one_file text xs ys is other = one_list (spoken (lines_of text)) xs ys is.told other.told

-- ---- the players of the new file

behind_by : (p : Entry → Bool) (e x : Entry) (xs : List Entry) (is : Bool) → is ≡ false → in_place p e xs ≡ xs ++ e ∷ [] →
    (if is then e ∷ xs else x ∷ in_place p e xs) ≡ x ∷ (xs ++ e ∷ [])
behind_by p e x xs true other more = absurd (false≢true (sym other))
behind_by p e x xs false other more = ap (λ (es : List Entry). x ∷ es) more

any_two : (a b : Bool) → (a || b) ≡ false → (a ≡ false) × (b ≡ false)
any_two true b none = absurd (false≢true (sym none))
any_two false b none = (refl, none)

put_behind : (p : Entry → Bool) (e : Entry) (xs : List Entry) → list_any p xs ≡ false → in_place p e xs ≡ xs ++ e ∷ []
put_behind p e [] none = refl
put_behind p e (x ∷ xs) none =
    let two = any_two (p x) (list_any p xs) none in
    behind_by p e x xs (p x) two.0 (put_behind p e xs two.1)

-- the players are those of the entries, and one behind them
record Parted (before after : List Player) (e : Entry) : Type 0 where
  others : List Player
  newcomer : Player
  behind : after ≡ others ++ newcomer ∷ []
  same : entries_of others ≡ entries_of before
  is : entry_of newcomer ≡ e

parted : (before after : List Player) (e : Entry) → entries_of after ≡ entries_of before ++ e ∷ [] → Parted before after e
parted [] [] e same = absurd (omega (arith, ap length same))
parted [] (p ∷ []) e same = record { others = []; newcomer = p; behind = refl; same = refl; is = ap (first_or e) same }
parted [] (p ∷ (q ∷ ps)) e same = absurd (omega (arith, ap length same))
parted (b ∷ bs) [] e same = absurd (omega (arith, ap length same))
parted (b ∷ bs) (p ∷ ps) e same =
    let more = parted bs ps e (ap behind_first same) in
    record {
      others = p ∷ more.others;
      newcomer = more.newcomer;
      behind = ap (λ (l : List Player). p ∷ l) more.behind;
      same = ap (λ (x : Entry). x ∷ entries_of more.others) (ap (first_or e) same)
          ∙ ap (λ (l : List Entry). entry_of b ∷ l) more.same;
      is = more.is;
    }

each_same : (before others : List Player) → entries_of others ≡ entries_of before →
    AllZip (λ (old new : Player). IsWithSum old.sum old new) before others
each_same [] [] same = tt
each_same [] (p ∷ ps) same = absurd (omega (arith, ap length same))
each_same (b ∷ bs) [] same = absurd (omega (arith, ap length same))
each_same (b ∷ bs) (p ∷ ps) same =
    let one : entry_of p ≡ entry_of b = ap (first_or (entry_of b)) same in (
      record {
        name = ap (λ (e : Entry). e.name) one;
        full_name = ap (λ (e : Entry). e.full_name) one;
        is_arbiter = ap (λ (e : Entry). e.is_arbiter) one;
        sum_is = ap (λ (e : Entry). e.sum) one;
      },
      each_same bs ps (ap behind_first same),
    )

-- ---- nobody has the name or the sum

last_of : (P : Entry → Type 0) (xs : List Entry) (y : Entry) → All P (xs ++ y ∷ []) → P y
last_of P [] y all = All-head P y [] all
last_of P (x ∷ xs) y all = last_of P xs y (All-tail P x (xs ++ y ∷ []) all)

named_apart : (x e : Entry) → AreTwo x e → is_alike e.name x ≡ false
named_apart x e two =
    false_from_ne_true (is_alike e.name x)
    (λ is. two.names ((bytes_eq-Decides (str_to_ascii_lowercase x.name) (str_to_ascii_lowercase e.name)).0 is))

summed_apart : (x e : Entry) → AreTwo x e → has_sum e.sum x ≡ false
summed_apart x e two = false_from_ne_true (has_sum e.sum x) (λ is. two.sums ((bytes_eq-Decides x.sum e.sum).0 is))

none_like : (xs : List Entry) (e : Entry) → AllPairs AreTwo (xs ++ e ∷ []) → list_any (is_alike e.name) xs ≡ false
none_like [] e pairs = refl
none_like (x ∷ xs) e pairs =
    let one : is_alike e.name x ≡ false = named_apart x e (last_of (AreTwo x) xs e (pairs_head AreTwo x (xs ++ e ∷ []) pairs)) in
    rw one (none_like xs e (pairs_tail AreTwo x (xs ++ e ∷ []) pairs))

none_holds : (xs : List Entry) (e : Entry) → AllPairs AreTwo (xs ++ e ∷ []) → list_any (has_sum e.sum) xs ≡ false
none_holds [] e pairs = refl
none_holds (x ∷ xs) e pairs =
    let one : has_sum e.sum x ≡ false = summed_apart x e (last_of (AreTwo x) xs e (pairs_head AreTwo x (xs ++ e ∷ []) pairs)) in
    rw one (none_holds xs e (pairs_tail AreTwo x (xs ++ e ∷ []) pairs))

-- ---- whom the token shows

shown_last : (name sum : List ℕ) (others : List Player) (p : Player) → list_any (has_sum_now sum) others ≡ false → p.sum ≡ sum → p.name ≡ name →
    is_named (option_map identity_of (find (has_sum_now sum) (others ++ p ∷ []))) name ≡ true
shown_last name sum [] p fresh has is =
    let held : has_sum_now sum p ≡ true = (bytes_eq-Decides p.sum sum).1 has in
    rw held ((bytes_eq-Decides p.name name).1 is)
shown_last name sum (x ∷ xs) p fresh has is =
    let two = any_two (has_sum_now sum x) (list_any (has_sum_now sum) xs) fresh in
    let other : has_sum_now sum x ≡ false = two.0 in
    rw other (shown_last name sum xs p two.1 has is)

shown : (name token : List ℕ) (others : List Player) (p : Player) → is_token token ≡ true →
    list_any (has_sum_now (sha256 token)) others ≡ false → p.sum ≡ sha256 token → p.name ≡ name → is_token_of (others ++ p ∷ []) token name ≡ true
unfolding holder_of
shown name token others p one fresh has is =
    subst (λ (b : Bool). is_named (if b then holder_of_sum (others ++ p ∷ []) (sha256 token) else None) name ≡ true) (sym one)
    (shown_last name (sha256 token) others p fresh has is)

-- ---- all of it

pub file_joined : (text new : List ℕ) (e : Entry) (before after : List Player) → IsFileOf text (entries_of before) → IsAdded text e new true →
    IsFileOf new (entries_of after) → IsFileJoined e text new before after
file_joined text new e before after old add now = record { old_file = old; new_file = now; written = add.written }

-- the new file's players are those before, and the new one behind them
behind_all : (text new : List ℕ) (e : Entry) (before after : List Player) → IsFileOf text (entries_of before) → IsAdded text e new true →
    IsFileOf new (entries_of after) → entries_of after ≡ entries_of before ++ e ∷ []
behind_all text new e before after old add now =
    one_file new (entries_of after) (added_entries add.entries e) now add.after
    ∙ (put_behind (has_name e.name) e add.entries (not-true _ (sym add.none_before))
    ∙ ap (λ (es : List Entry). es ++ e ∷ []) (one_file text add.entries (entries_of before) add.before old))

pub players_joined : (text new token : List ℕ) (e : Entry) (before after : List Player) → IsFileOf text (entries_of before) → IsAdded text e new true →
    IsFileOf new (entries_of after) → is_token token ≡ true → e.sum ≡ sha256 token → e.is_arbiter ≡ false →
    IsJoined e.name e.full_name token before after
players_joined text new token e before after old add now one sum role =
    let all = behind_all text new e before after old add now in
    let part = parted before after e all in
    let pairs = subst (λ (es : List Entry). AllPairs AreTwo es) all now.apart in
    let fresh : list_any (has_sum_now e.sum) before ≡ false = any_mapped entry_of (has_sum e.sum) before ∙ none_holds (entries_of before) e pairs in
    let others : list_any (has_sum_now e.sum) part.others ≡ false =
    any_mapped entry_of (has_sum e.sum) part.others
    ∙ (ap (list_any (has_sum e.sum)) part.same ∙ none_holds (entries_of before) e pairs) in
    record {
      others = part.others;
      newcomer = part.newcomer;
      behind = part.behind;
      each = each_same before part.others part.same;
      named = ap (λ (x : Entry). x.name) part.is;
      full = ap (λ (x : Entry). x.full_name) part.is;
      role = ap (λ (x : Entry). x.is_arbiter) part.is ∙ role;
      sum_is = ap (λ (x : Entry). x.sum) part.is ∙ sum;
      alone = any_mapped entry_of (is_alike e.name) before ∙ none_like (entries_of before) e pairs;
      fresh = subst (λ (s : List ℕ). list_any (has_sum_now s) before ≡ false) sum fresh;
      holds = subst (λ (ps : List Player). is_token_of ps token e.name ≡ true) (sym part.behind)
          (shown e.name token part.others part.newcomer one
          (subst (λ (s : List ℕ). list_any (has_sum_now s) part.others ≡ false) sum others)
          (ap (λ (x : Entry). x.sum) part.is ∙ sum) (ap (λ (x : Entry). x.name) part.is));
    }
