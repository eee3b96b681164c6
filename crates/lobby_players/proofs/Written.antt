-- A file that is written.
use Rattle.std.proofs.Common.{ℕ, suc, ◌≡◌, ◌≢◌, ◌+◌, Bool, true, false, not, cond, ◌&&◌, ◌||◌, List, [], ◌∷◌, ◌++◌, length, take, refl, sym, ap, ◌∙◌, arith, subst, Ok, append_assoc}
use Rattle.std.specs.Prelude.{◌==◌, ◌-◌, nat_le, slice_index, chars}
use Rattle.std.specs.Str.{bytes_eq, str_to_ascii_lowercase}
use Rattle.std.specs.List.{All, AllZip, AllPairs, list_any, list_all, filter, onto_first, position_or_len}
use Rattle.std.proofs.lemmas.Bool.{false≢true, false_from_ne_true, ne_eqb, not-true, and_from, and_parts, or_parts}
use Rattle.std.proofs.lemmas.Bool.Decides.{Decides-eqb}
use Rattle.std.proofs.lemmas.List.Elements.{All-nil, All-cons, All-head, All-tail}
use Rattle.std.proofs.lemmas.List.Folds.{list_all-append}
use Rattle.std.proofs.lemmas.List.Sums.{list_all-from_AllPass}
use Rattle.std.proofs.lemmas.List.Kept.{AllPairs-cons}
use Rattle.std.proofs.lemmas.Slice.Eq.{bytes_eq-Decides}
use Rattle.text_parts.specs.Parts.{parts_of}
use Rattle.hex.specs.Hex.{decode_sized, encode_lower, is_hex_digit}
use Rattle.hex.proofs.HexLemmas.{IsOk-decode_sized}
use Rattle.player_name.specs.Name.{IsName, is_name_byte}
use Rattle.lobby_words.specs.Words.{word_of}
use Rattle.lobby_words.specs.Answers.{ended}
use Rattle.lobby_words.specs.Lines.{bytes_of}
use Rattle.lobby_words.specs.declared.players.Player.{Player}
use Rattle.lobby_players.specs.File.{Entry, IsWord, IsLineOf, AreTwo, AreLinesOf, IsFileOf, lines_of, spoken, is_silent, is_full_name, is_shown_byte, is_spaced, is_seen, role_text, has_name, is_alike, has_sum, entry_of, entries_of}
use Rattle.lobby_players.specs.Adding.{IsAdded, added_text, added_entries, in_place, is_of, is_other, line_of}
use Rattle.lobby_players.proofs.Told.{name_word}
use Rattle.lobby_players.proofs.Words.{head_of}
use Rattle.lobby_players.proofs.EachLine.{any_mapped, pairs_head, pairs_tail, two_if}

-- no line feed stands in a text
abbrev not_feed : ℕ → Bool
not_feed b = not (b == 10)

abbrev pub HasNoFeed : List ℕ → Type 0
HasNoFeed text = list_all not_feed text ≡ true

abbrev pub HaveNoFeed : List (List ℕ) → Type 0
HaveNoFeed [] = Unit {0}
HaveNoFeed (line ∷ lines) = HasNoFeed line × HaveNoFeed lines

is_no_feed : (b : ℕ) → not_feed b ≡ true → (b == 10) ≡ false
is_no_feed b h = not-true (b == 10) h

-- a line is read back
line_end : (line rest : List ℕ) → HasNoFeed line → parts_of 10 (line ++ (10 ∷ rest)) ≡ line ∷ parts_of 10 rest
line_end [] rest free = refl
line_end (b ∷ bs) rest free =
    let here : (b == 10) ≡ false = is_no_feed b (and_parts (not_feed b) (list_all not_feed bs) free).0 in
    rw here (ap (onto_first b) (line_end bs rest (and_parts (not_feed b) (list_all not_feed bs) free).1))

pub lines_back : (lines : List (List ℕ)) → HaveNoFeed lines → lines_of (bytes_of lines) ≡ lines
lines_back [] free = refl
lines_back (line ∷ lines) free =
    ap (parts_of 10) (append_assoc line (10 ∷ []) (bytes_of lines))
    ∙ (line_end line (bytes_of lines) free.0 ∙ ap (λ (ls : List (List ℕ)). line ∷ ls) (lines_back lines free.1))

onto_free : (b : ℕ) (lines : List (List ℕ)) → not_feed b ≡ true → HaveNoFeed lines → HaveNoFeed (onto_first b lines)
onto_free b [] free all = (and_from (not_feed b) true free refl, tt)
onto_free b (line ∷ lines) free all = (and_from (not_feed b) (list_all not_feed line) free all.0, all.1)

free_by : (b : ℕ) (bs : List ℕ) (is : Bool) → (b == 10) ≡ is → HaveNoFeed (parts_of 10 bs) → HaveNoFeed (parts_of 10 (b ∷ bs))
free_by b bs true e all = rw e (refl, all)
free_by b bs false e all = rw e (onto_free b (parts_of 10 bs) (ap not e) all)

-- no line of a text has a line feed
pub lines_free : (text : List ℕ) → HaveNoFeed (lines_of text)
lines_free [] = tt
lines_free (b ∷ bs) = free_by b bs (b == 10) refl (lines_free bs)

place_by : (p : List ℕ → Bool) (line old : List ℕ) (lines : List (List ℕ)) (b : Bool) → HasNoFeed line → HasNoFeed old → HaveNoFeed lines →
    HaveNoFeed (in_place p line lines) → HaveNoFeed (cond b (line ∷ lines) (old ∷ in_place p line lines))
place_by p line old lines true free here all more = (free, all)
place_by p line old lines false free here all more = (here, more)

place_free : (p : List ℕ → Bool) (line : List ℕ) (lines : List (List ℕ)) → HasNoFeed line → HaveNoFeed lines → HaveNoFeed (in_place p line lines)
place_free p line [] free all = (free, tt)
place_free p line (old ∷ lines) free all = place_by p line old lines (p old) free all.0 all.1 (place_free p line lines free all.1)

-- a text of which a test that no line feed passes says yes
feed_by : (p : ℕ → Bool) (b : ℕ) (is : Bool) → (b == 10) ≡ is → p 10 ≡ false → p b ≡ true → not_feed b ≡ true
feed_by p b true e none here = absurd (false≢true (sym none ∙ (ap p (sym ((Decides-eqb b 10).0 e)) ∙ here)))
feed_by p b false e none here = ap not e

free_if : (p : ℕ → Bool) (text : List ℕ) → p 10 ≡ false → list_all p text ≡ true → HasNoFeed text
free_if p [] none all = refl
free_if p (b ∷ bs) none all =
    and_from (not_feed b) (list_all not_feed bs)
    (feed_by p b (b == 10) refl none (and_parts (p b) (list_all p bs) all).0)
    (free_if p bs none (and_parts (p b) (list_all p bs) all).1)

join_free : (a b : List ℕ) → HasNoFeed a → HasNoFeed b → HasNoFeed (a ++ b)
join_free a b x y = list_all-append not_feed a b ∙ and_from (list_all not_feed a) (list_all not_feed b) x y

role_free : (is_arbiter : Bool) → HasNoFeed (role_text is_arbiter)
role_free true = refl
role_free false = refl

shown_bytes : (text : List ℕ) → is_full_name text ≡ true → list_all is_shown_byte text ≡ true
shown_bytes text is =
    let room = nat_le 1 (length text) && nat_le (length text) 100 in
    let shown = list_all is_shown_byte text in
    let seen = list_all is_seen (chars text) in
    (and_parts room shown (and_parts (room && shown) (is_spaced text) (and_parts ((room && shown) && is_spaced text) seen is).0).0).1

line_free : (e : Entry) → IsName e.name → decode_sized (encode_lower e.sum) 32 ≡ Ok e.sum → is_full_name e.full_name ≡ true →
    HasNoFeed (line_of e)
line_free e name sum full =
    let digits = encode_lower e.sum in
    let role = role_text e.is_arbiter in
    join_free e.name (32 ∷ (role ++ (32 ∷ (digits ++ (32 ∷ e.full_name))))) (free_if is_name_byte e.name refl name.bytes)
    (join_free role (32 ∷ (digits ++ (32 ∷ e.full_name))) (role_free e.is_arbiter)
    (join_free digits (32 ∷ e.full_name) (free_if is_hex_digit digits refl
    (list_all-from_AllPass is_hex_digit digits ((IsOk-decode_sized digits 32).0 (rw sum refl)).1))
    (free_if is_shown_byte e.full_name refl (shown_bytes e.full_name full))))

-- ---- lines of others

one_more_than : (n : ℕ) → 1 + n ≡ suc n
one_more_than n = omega arith

word_by : (b : ℕ) (bs x : List ℕ) → (b == 32) ≡ false → word_of (bs ++ (32 ∷ x)) ≡ bs → word_of ((b ∷ bs) ++ (32 ∷ x)) ≡ b ∷ bs
word_by b bs x other rest =
    let n = position_or_len (λ (c : ℕ). c == 32) (bs ++ (32 ∷ x)) in
    rw other (ap (λ (k : ℕ). take k (b ∷ (bs ++ (32 ∷ x)))) (one_more_than n) ∙ ap (λ (t : List ℕ). b ∷ t) rest)

pub word_first : (a x : List ℕ) → IsWord a → word_of (a ++ (32 ∷ x)) ≡ a
word_first [] x word = refl
word_first (b ∷ bs) x word =
    word_by b bs x (ne_eqb b 32 (word 0 (omega arith))) (word_first bs x (λ i below. word (suc i) (omega arith)))

line_word : (line : List ℕ) (e : Entry) → IsLineOf line e → word_of line ≡ e.name
line_word line e is =
    ap word_of is.spelled ∙ word_first e.name (role_text e.is_arbiter ++ (32 ∷ (is.digits ++ (32 ∷ e.full_name)))) (name_word e.name is.name)

same_test : (name line : List ℕ) (e : Entry) → IsLineOf line e → is_of name line ≡ has_name name e
same_test name line e is = ap (λ (w : List ℕ). bytes_eq w name) (line_word line e is)

-- a silent line is of no name
word_head : (b : ℕ) (bs : List ℕ) → (b == 32) ≡ false → word_of (b ∷ bs) ≡ b ∷ word_of bs
word_head b bs other =
    let n = position_or_len (λ (c : ℕ). c == 32) bs in
    rw other (ap (λ (k : ℕ). take k (b ∷ bs)) (one_more_than n))

head_named : (name : List ℕ) → IsName name → is_name_byte (head_of name) ≡ true
head_named [] name = absurd (omega (arith, name.some))
head_named (b ∷ bs) name = (and_parts (is_name_byte b) (list_all is_name_byte bs) name.bytes).0

silent_unnamed : (name line : List ℕ) → IsName name → is_silent line ≡ true → word_of line ≢ name
silent_unnamed name [] is silent e = false≢true (ap is_name_byte (ap head_of e) ∙ head_named name is)
silent_unnamed name (b ∷ bs) is silent e =
    let same : b ≡ 35 = (Decides-eqb b 35).0 silent in
    false≢true (ap is_name_byte (sym (ap head_of (word_head 35 bs refl)))
    ∙ (ap (λ (c : ℕ). is_name_byte (head_of (word_of (c ∷ bs)))) (sym same) ∙ (ap is_name_byte (ap head_of e) ∙ head_named name is)))

silent_not_of : (name line : List ℕ) → IsName name → is_silent line ≡ true → is_of name line ≡ false
silent_not_of name line is silent =
    false_from_ne_true (is_of name line) (λ same. silent_unnamed name line is silent ((bytes_eq-Decides (word_of line) name).0 same))

-- ---- a line in its place

place_silent : (line old : List ℕ) (lines more : List (List ℕ)) (b : Bool) → b ≡ false → is_silent old ≡ true →
    spoken (cond b (line ∷ lines) (old ∷ more)) ≡ spoken more
place_silent line old lines more b other silent = rw other (rw silent refl)

place_spoken : (line old : List ℕ) (lines more : List (List ℕ)) (e one : Entry) (es rest : List Entry) (b : Bool) → is_silent line ≡ false →
    is_silent old ≡ false → IsLineOf line e → IsLineOf old one → AllZip IsLineOf (spoken lines) es → AllZip IsLineOf (spoken more) rest →
    AllZip IsLineOf (spoken (cond b (line ∷ lines) (old ∷ more))) (cond b (e ∷ es) (one ∷ rest))
place_spoken line old lines more e one es rest true speaks here told was zip next = rw speaks (told, zip)
place_spoken line old lines more e one es rest false speaks here told was zip next = rw here (was, next)

place_end : (line : List ℕ) (e : Entry) → is_silent line ≡ false → IsLineOf line e → AllZip IsLineOf (spoken (line ∷ [])) (e ∷ [])
place_end line e speaks told = rw speaks (told, tt)

place_step : (line old : List ℕ) (e : Entry) (lines : List (List ℕ)) (es : List Entry) (is : Bool) → is_silent line ≡ false → IsLineOf line e →
    is_silent old ≡ is →
    ((rest : List Entry) → AllZip IsLineOf (spoken lines) rest →
    AllZip IsLineOf (spoken (in_place (is_of e.name) line lines)) (in_place (has_name e.name) e rest)) →
    AllZip IsLineOf (cond (not is) (old ∷ spoken lines) (spoken lines)) es →
    AllZip IsLineOf (spoken (in_place (is_of e.name) line (old ∷ lines))) (in_place (has_name e.name) e es)
place_step line old e lines es true speaks told silent rest zip =
    subst (λ (ls : List (List ℕ)). AllZip IsLineOf ls (in_place (has_name e.name) e es))
    (sym (place_silent line old lines (in_place (is_of e.name) line lines) (is_of e.name old) (silent_not_of e.name old told.name silent) silent))
    (rest es zip)
place_step line old e lines [] false speaks told here rest zip = absurd zip
place_step line old e lines (one ∷ es) false speaks told here rest zip =
    let more = in_place (is_of e.name) line lines in
    let next = in_place (has_name e.name) e es in
    subst (λ (b : Bool). AllZip IsLineOf (spoken (cond (is_of e.name old) (line ∷ lines) (old ∷ more))) (cond b (e ∷ es) (one ∷ next)))
    (same_test e.name old one zip.0)
    (place_spoken line old lines more e one es next (is_of e.name old) speaks here told zip.0 zip.1 (rest es zip.1))

place_zip : (line : List ℕ) (e : Entry) (lines : List (List ℕ)) (es : List Entry) → is_silent line ≡ false → IsLineOf line e →
    AllZip IsLineOf (spoken lines) es → AllZip IsLineOf (spoken (in_place (is_of e.name) line lines)) (in_place (has_name e.name) e es)
place_zip line e [] [] speaks told zip = place_end line e speaks told
place_zip line e [] (one ∷ es) speaks told zip = absurd zip
place_zip line e (old ∷ lines) es speaks told zip =
    place_step line old e lines es (is_silent old) speaks told refl (λ rest z. place_zip line e lines rest speaks told z) zip

-- ---- a player in the place of the one of the name

place_all_by : {A : Type 0} (P : A → Type 0) (x y : A) (ys more : List A) (b : Bool) → P x → All P (y ∷ ys) → All P more →
    All P (cond b (x ∷ ys) (y ∷ more))
place_all_by P x y ys more true here all next = All-cons P x ys here (All-tail P y ys all)
place_all_by P x y ys more false here all next = All-cons P y more (All-head P y ys all) next

place_all : {A : Type 0} (P : A → Type 0) (p : A → Bool) (x : A) (xs : List A) → P x → All P xs → All P (in_place p x xs)
place_all P p x [] here all = All-cons P x [] here (All-nil P)
place_all P p x (y ∷ ys) here all = place_all_by P x y ys (in_place p x ys) (p y) here all (place_all P p x ys here (All-tail P y ys all))

-- no other player passes a test
abbrev NoOther : (Entry → Bool) → Entry → List Entry → Type 0
NoOther q e es = list_any q (filter (is_other e.name) es) ≡ false

other_by : (q : Entry → Bool) (e one : Entry) (es : List Entry) (b : Bool) →
    list_any q (cond (not b) (one ∷ filter (is_other e.name) es) (filter (is_other e.name) es)) ≡ false → NoOther q e es
other_by q e one es true none = none
other_by q e one es false none = (or_parts (q one) (list_any q (filter (is_other e.name) es)) none).1

other_more : (q : Entry → Bool) (e one : Entry) (es : List Entry) → NoOther q e (one ∷ es) → NoOther q e es
other_more q e one es none = other_by q e one es (has_name e.name one) none

other_first : (q : Entry → Bool) (e one : Entry) (es : List Entry) → has_name e.name one ≡ false → NoOther q e (one ∷ es) → q one ≡ false
other_first q e one es other none =
    (or_parts (q one) (list_any q (filter (is_other e.name) es))
    (subst (λ (b : Bool). list_any q (cond (not b) (one ∷ filter (is_other e.name) es) (filter (is_other e.name) es)) ≡ false) other none)).0

-- no other player has the sum, or a name that is alike
pub record IsOurs (e : Entry) (es : List Entry) : Type 0 where
  pub names : list_any (is_alike e.name) (filter (is_other e.name) es) ≡ false
  pub sums : list_any (has_sum e.sum) (filter (is_other e.name) es) ≡ false

ours_more : (e one : Entry) (es : List Entry) → IsOurs e (one ∷ es) → IsOurs e es
ours_more e one es ours = record {
  names = other_more (is_alike e.name) e one es ours.names;
  sums = other_more (has_sum e.sum) e one es ours.sums;
}

two_ours : (e one : Entry) (es : List Entry) → has_name e.name one ≡ false → IsOurs e (one ∷ es) → AreTwo one e
two_ours e one es other ours =
    two_if one e (other_first (is_alike e.name) e one es other ours.names) (other_first (has_sum e.sum) e one es other ours.sums)

pub flipped_two : (a b : Entry) → AreTwo a b → AreTwo b a
flipped_two a b two = record { names = λ e. two.names (sym e); sums = λ e. two.sums (sym e) }

-- who stands apart from the one that had the name stands apart from the new one
behind_apart : (e one : Entry) (es : List Entry) → one.name ≡ e.name → All (AreTwo one) es → IsOurs e es → All (AreTwo e) es
behind_apart e one [] same all ours = All-nil (AreTwo e)
behind_apart e one (two ∷ es) same all ours =
    let apart = All-head (AreTwo one) two es all in
    let other : has_name e.name two ≡ false =
    false_from_ne_true (has_name e.name two)
    (λ h. apart.names (ap str_to_ascii_lowercase (same ∙ sym ((bytes_eq-Decides two.name e.name).0 h)))) in
    All-cons (AreTwo e) two es (flipped_two two e (two_ours e two es other ours))
    (behind_apart e one es same (All-tail (AreTwo one) two es all) (ours_more e two es ours))

place_pairs_by : (e one : Entry) (es more : List Entry) (b : Bool) → has_name e.name one ≡ b → AllPairs AreTwo (one ∷ es) → IsOurs e (one ∷ es) →
    AllPairs AreTwo more → (AreTwo one e → All (AreTwo one) more) → AllPairs AreTwo (cond b (e ∷ es) (one ∷ more))
place_pairs_by e one es more true h pairs ours next all =
    AllPairs-cons AreTwo e es
    (behind_apart e one es ((bytes_eq-Decides one.name e.name).0 h) (pairs_head AreTwo one es pairs) (ours_more e one es ours))
    (pairs_tail AreTwo one es pairs)
place_pairs_by e one es more false h pairs ours next all =
    AllPairs-cons AreTwo one more (all (two_ours e one es h ours)) next

place_pairs : (e : Entry) (es : List Entry) → AllPairs AreTwo es → IsOurs e es → AllPairs AreTwo (in_place (has_name e.name) e es)
place_pairs e [] pairs ours = AllPairs-cons AreTwo e [] (All-nil (AreTwo e)) pairs
place_pairs e (one ∷ es) pairs ours =
    let more = in_place (has_name e.name) e es in
    place_pairs_by e one es more (has_name e.name one) refl pairs ours
    (place_pairs e es (pairs_tail AreTwo one es pairs) (ours_more e one es ours))
    (λ two. place_all (AreTwo one) (has_name e.name) e es two (pairs_head AreTwo one es pairs))

-- ---- the new file

any_by : {A : Type 0} (p q : A → Bool) (x : A) (xs : List A) (is : Bool) → p x ≡ is →
    list_any (λ y. p y && q y) xs ≡ list_any q (filter p xs) → list_any (λ y. p y && q y) (x ∷ xs) ≡ list_any q (filter p (x ∷ xs))
any_by p q x xs true e rest = rw e (ap (λ (b : Bool). q x || b) rest)
any_by p q x xs false e rest = rw e rest

any_filtered : {A : Type 0} (p q : A → Bool) (xs : List A) → list_any (λ x. p x && q x) xs ≡ list_any q (filter p xs)
any_filtered p q [] = refl
any_filtered p q (x ∷ xs) = any_by p q x xs (p x) refl (any_filtered p q xs)

-- what the test of the players says
pub taken_told : (players slice : List Player) (name who sum digest : List ℕ) (b is : Bool) →
    b ≡ list_any (λ player. is_other name (entry_of player) && has_sum sum (entry_of player)) slice →
    slice ≡ players → name ≡ who → sum ≡ digest → b ≡ is → list_any (has_sum digest) (filter (is_other who) (entries_of players)) ≡ is
taken_told players slice name who sum digest b is told same named summed answer =
    sym (any_filtered (is_other who) (has_sum digest) (entries_of players))
    ∙ (sym (any_mapped entry_of (λ (e : Entry). is_other who e && has_sum digest e) players)
    ∙ (ap (λ (ps : List Player). list_any (λ player. is_other who (entry_of player) && has_sum digest (entry_of player)) ps) (sym same)
    ∙ (ap (λ (n : List ℕ). list_any (λ player. is_other n (entry_of player) && has_sum digest (entry_of player)) slice) (sym named)
    ∙ (ap (λ (s : List ℕ). list_any (λ player. is_other name (entry_of player) && has_sum s (entry_of player)) slice) (sym summed)
    ∙ (sym told ∙ answer)))))

pub alike_told : (players slice : List Player) (name who : List ℕ) (b is : Bool) →
    b ≡ list_any (λ player. is_other name (entry_of player) && is_alike name (entry_of player)) slice →
    slice ≡ players → name ≡ who → b ≡ is → list_any (is_alike who) (filter (is_other who) (entries_of players)) ≡ is
alike_told players slice name who b is told same named answer =
    sym (any_filtered (is_other who) (is_alike who) (entries_of players))
    ∙ (sym (any_mapped entry_of (λ (e : Entry). is_other who e && is_alike who e) players)
    ∙ (ap (λ (ps : List Player). list_any (λ player. is_other who (entry_of player) && is_alike who (entry_of player)) ps) (sym same)
    ∙ (ap (λ (n : List ℕ). list_any (λ player. is_other n (entry_of player) && is_alike n (entry_of player)) slice) (sym named)
    ∙ (sym told ∙ answer))))

line_is : (e : Entry) → IsName e.name → decode_sized (encode_lower e.sum) 32 ≡ Ok e.sum → is_full_name e.full_name ≡ true → IsLineOf (line_of e) e
line_is e name sum full = record {
  name = name;
  digits = encode_lower e.sum;
  sum = sum;
  full_name = full;
  spelled = refl;
}

named_speaks : (b : ℕ) (is : Bool) → (b == 35) ≡ is → is_name_byte b ≡ true → (b == 35) ≡ false
named_speaks b true e named =
    let same : b ≡ 35 = (Decides-eqb b 35).0 e in
    absurd (false≢true (ap is_name_byte (sym same) ∙ named))
named_speaks b false e named = e

speaks_by : (name rest : List ℕ) → IsName name → is_silent (name ++ rest) ≡ false
speaks_by [] rest name = absurd (omega (arith, name.some))
speaks_by (b ∷ bs) rest name = named_speaks b (b == 35) refl (and_parts (is_name_byte b) (list_all is_name_byte bs) name.bytes).0

-- ---- the lines of the new file

-- what the lines that are left become: the line stands among those before, or is still to be put
abbrev pub left : (List ℕ → Bool) → List ℕ → Bool → List (List ℕ) → List (List ℕ)
left p line true lines = lines
left p line false lines = in_place p line lines

pub first_true : (put is : Bool) → true ≡ (not put && is) → (put ≡ false) × (is ≡ true)
first_true true is h = absurd (false≢true (sym h))
first_true false is h = (refl, sym h)

pub first_false : (put is : Bool) → false ≡ (not put && is) → put ≡ false → is ≡ false
first_false true is h e = absurd (false≢true (sym e))
first_false false is h e = sym h

left_other : (p : List ℕ → Bool) (line old : List ℕ) (lines : List (List ℕ)) (put : Bool) → (put ≡ false → p old ≡ false) →
    left p line put (old ∷ lines) ≡ old ∷ left p line put lines
left_other p line old lines true other = refl
left_other p line old lines false other =
    let away : p old ≡ false = other refl in
    rw away refl

left_here : (p : List ℕ → Bool) (line old : List ℕ) (lines : List (List ℕ)) (put : Bool) → put ≡ false → p old ≡ true →
    left p line put (old ∷ lines) ≡ line ∷ lines
left_here p line old lines true none here = absurd (false≢true (sym none))
left_here p line old lines false none here = rw here refl

one_line : (text line rest : List ℕ) → (text ++ ended line) ++ rest ≡ text ++ (ended line ++ rest)
one_line text line rest = append_assoc text (ended line) rest

-- the line is put in the place of one, or that one stays
pub put_step : (p : List ℕ → Bool) (line old : List ℕ) (lines rest : List (List ℕ)) (put is_put : Bool) (text new all : List ℕ) →
    lines ≡ old ∷ rest → put ≡ false → p old ≡ true → is_put ≡ true → new ≡ text ++ ended line →
    text ++ bytes_of (left p line put lines) ≡ all → new ++ bytes_of (left p line is_put rest) ≡ all
put_step p line old lines rest put is_put text new all cut none here now told before =
    ap (λ (b : Bool). new ++ bytes_of (left p line b rest)) now
    ∙ (ap (λ (t : List ℕ). t ++ bytes_of rest) told
    ∙ (one_line text line (bytes_of rest)
    ∙ (ap (λ (ls : List (List ℕ)). text ++ bytes_of ls) (sym (left_here p line old rest put none here))
    ∙ (ap (λ (ls : List (List ℕ)). text ++ bytes_of (left p line put ls)) (sym cut) ∙ before))))

pub keep_step : (p : List ℕ → Bool) (line old : List ℕ) (lines rest : List (List ℕ)) (put is_put : Bool) (text new all : List ℕ) →
    lines ≡ old ∷ rest → (put ≡ false → p old ≡ false) → is_put ≡ put → new ≡ text ++ ended old →
    text ++ bytes_of (left p line put lines) ≡ all → new ++ bytes_of (left p line is_put rest) ≡ all
keep_step p line old lines rest put is_put text new all cut other same told before =
    ap (λ (b : Bool). new ++ bytes_of (left p line b rest)) same
    ∙ (ap (λ (t : List ℕ). t ++ bytes_of (left p line put rest)) told
    ∙ (one_line text old (bytes_of (left p line put rest))
    ∙ (ap (λ (ls : List (List ℕ)). text ++ bytes_of ls) (sym (left_other p line old rest put other))
    ∙ (ap (λ (ls : List (List ℕ)). text ++ bytes_of (left p line put ls)) (sym cut) ∙ before))))

pub file_after : (text : List ℕ) (es : List Entry) (e : Entry) (new : List ℕ) → IsFileOf text es → IsName e.name →
    decode_sized (encode_lower e.sum) 32 ≡ Ok e.sum → is_full_name e.full_name ≡ true → IsOurs e es → new ≡ added_text text e →
    IsFileOf new (added_entries es e)
file_after text es e new before name sum full ours written =
    let line = line_of e in
    let lines = in_place (is_of e.name) line (lines_of text) in
    let rest = 32 ∷ (role_text e.is_arbiter ++ (32 ∷ (encode_lower e.sum ++ (32 ∷ e.full_name)))) in
    subst (λ (ls : List (List ℕ)). AreLinesOf ls (added_entries es e))
    (sym (ap lines_of written
    ∙ lines_back lines (place_free (is_of e.name) line (lines_of text) (line_free e name sum full) (lines_free text))))
    (record {
      told = place_zip line e (lines_of text) es (speaks_by e.name rest name) (line_is e name sum full) before.told;
      apart = place_pairs e es before.apart ours;
    })

pub file_added : (text : List ℕ) (es : List Entry) (e : Entry) (new : List ℕ) (is_new : Bool) → IsFileOf text es → IsName e.name →
    decode_sized (encode_lower e.sum) 32 ≡ Ok e.sum → is_full_name e.full_name ≡ true → IsOurs e es → new ≡ added_text text e →
    is_new ≡ not (list_any (has_name e.name) es) → IsAdded text e new is_new
file_added text es e new is_new before name sum full ours written is = record {
  entries = es;
  before = before;
  written = written;
  after = file_after text es e new before name sum full ours written;
  none_before = is;
}
