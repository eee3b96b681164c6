-- The line of a message `as NAME LINE`.
use Rattle.std.proofs.Common.{ℕ, zero, suc, ◌≡◌, ◌≤◌, ◌+◌, ◌==◌, Bool, true, false, ◌&&◌, ◌||◌, not, List, [], ◌∷◌, length, length-append, drop, codes, refl, sym, ap, ◌∙◌, subst, ⊎_elim, arith}
use Rattle.std.specs.Prelude.{if◌then◌else◌, nat_le}
use Rattle.std.specs.List.{list_all, position_or_len}
use Rattle.std.specs.Str.{bytes_eq}
use Rattle.std.proofs.lemmas.Bool.{false≢true, and_parts, or_cases}
use Rattle.std.proofs.lemmas.Bool.Decides.{nat_tests}
use Rattle.std.proofs.lemmas.List.{length-drop}
use Rattle.std.proofs.lemmas.List.Folds.{list_all-append}
use Rattle.std.proofs.lemmas.Slice.Eq.{bytes_eq-Decides}
use Rattle.lobby_words.specs.declared.words.Call.TheVariants as calls
use Rattle.lobby_words.specs.declared.words.Sort.{Sort}
use Rattle.lobby_words.specs.declared.words.Sort.TheVariants as sorts
use Rattle.lobby_words.specs.Words.{word_of, rest_of, as_name, as_line, black_name, pair_times, pair_line, is_as_word, is_act_sort, is_message, is_message_byte, is_play_word, is_question, is_read, is_show_word, is_act_word, as_sort, own_sort, whole_sort, is_stop, is_decision, sort_of, is_as_sort, is_pair_sort}
use Rattle.lobby_desk.proofs.Lines.{message}

-- ---- where a message asks for that, LINE is an act

abbrev may_pair : List ℕ → Bool
may_pair text = not (bytes_eq (as_name text) (black_name text)) && nat_le 1 (length (pair_times text)) && nat_le (length (pair_times text)) 244

whole_none : (z a b o c d e f g h i j : Bool) →
    is_as_sort (if z then sorts.Unpair else (if a then sorts.Players else (if b then sorts.Who else (if o then sorts.Offers else (if c then sorts.Pause else (if d then sorts.Resume
    else (if e then sorts.Lobby else (if f then sorts.LeaveLobby else (if g then sorts.Call calls.StopClocks else (if h then sorts.Call calls.StartClocks else (if i then sorts.Call calls.Announce else (if j then sorts.Call calls.Decide else sorts.Nothing)))))))))))) ≡ false
whole_none true a b o c d e f g h i j = refl
whole_none false true b o c d e f g h i j = refl
whole_none false false true o c d e f g h i j = refl
whole_none false false false true c d e f g h i j = refl
whole_none false false false false true d e f g h i j = refl
whole_none false false false false false true e f g h i j = refl
whole_none false false false false false false true f g h i j = refl
whole_none false false false false false false false true g h i j = refl
whole_none false false false false false false false false true h i j = refl
whole_none false false false false false false false false false true i j = refl
whole_none false false false false false false false false false false true j = refl
whole_none false false false false false false false false false false false true = refl
whole_none false false false false false false false false false false false false = refl

own_none : (a b c r m d e f g p : Bool) (last : Sort) → is_as_sort last ≡ false →
    is_as_sort (if a then sorts.Login else (if b then sorts.Watch else (if c then sorts.Line else (if r then sorts.Room else (if m then sorts.Moves else (if d then sorts.Leave
    else (if e then sorts.Link else (if f then sorts.Close else (if g then (if p then sorts.Pair else sorts.Nothing) else last))))))))) ≡ false
own_none true b c r m d e f g p last h = refl
own_none false true c r m d e f g p last h = refl
own_none false false true r m d e f g p last h = refl
own_none false false false true m d e f g p last h = refl
own_none false false false false true d e f g p last h = refl
own_none false false false false false true e f g p last h = refl
own_none false false false false false false true f g p last h = refl
own_none false false false false false false false true g p last h = refl
own_none false false false false false false false false true true last h = refl
own_none false false false false false false false false true false last h = refl
own_none false false false false false false false false false p last h = h

player_none : (b : Bool) (last : Sort) → is_as_sort last ≡ false → is_as_sort (if b then sorts.Player else last) ≡ false
player_none true last h = refl
player_none false last h = h

own_not_as : (w text : List ℕ) → is_as_sort (own_sort w text) ≡ false
own_not_as w text =
    own_none (bytes_eq w (codes "login")) (bytes_eq w (codes "watch")) (bytes_eq w (codes "line"))
    (bytes_eq w (codes "room")) (bytes_eq w (codes "moves")) (bytes_eq w (codes "leave") && not (bytes_eq text (codes "leave lobby"))) (bytes_eq w (codes "link")) (bytes_eq w (codes "close"))
    (bytes_eq w (codes "pair")) (may_pair text) (if bytes_eq w (codes "player") then sorts.Player else (if bytes_eq w (codes "unpair") then sorts.Unpair else whole_sort text))
    (player_none (bytes_eq w (codes "player")) (if bytes_eq w (codes "unpair") then sorts.Unpair else whole_sort text) (whole_none (bytes_eq w (codes "unpair")) (bytes_eq text (codes "players")) (bytes_eq text (codes "who")) (bytes_eq text (codes "offers")) (bytes_eq text (codes "pause entries"))
    (bytes_eq text (codes "resume entries")) (bytes_eq text (codes "lobby")) (bytes_eq text (codes "leave lobby")) (is_stop text) (bytes_eq text (codes "start clocks")) (bytes_eq (word_of text) (codes "announce")) (is_decision text && nat_le 1 (length (as_line (pair_times text))))))

plays_if : (a b c d e p : Bool) (last : Sort) → is_as_sort last ≡ false →
    is_as_sort (if a then sorts.Name else (if b then sorts.Read else (if c then sorts.Act else (if d then sorts.Drop
    else (if e then (if p then sorts.As else sorts.Nothing) else last))))) ≡ true → p ≡ true
plays_if true b c d e p last none h = absurd (false≢true h)
plays_if false true c d e p last none h = absurd (false≢true h)
plays_if false false true d e p last none h = absurd (false≢true h)
plays_if false false false true e p last none h = absurd (false≢true h)
plays_if false false false false true true last none h = refl
plays_if false false false false true false last none h = absurd (false≢true h)
plays_if false false false false false p last none h = absurd (false≢true (sym none ∙ h))

as_plays : (text : List ℕ) → sort_of text ≡ sorts.As → is_act_word (word_of (as_line text)) ≡ true
unfolding sort_of
as_plays text is =
    let w = word_of text in
    plays_if (bytes_eq w (codes "name")) (is_read text) (is_act_word w) (bytes_eq w (codes "drop")) (bytes_eq w (codes "as"))
    (is_act_word (word_of (as_line text))) (own_sort w text) (own_not_as w text) (ap is_as_sort is)

-- ---- and its word is `as`, as that of an act in one's own name is not

as_if : (a b c d e p : Bool) (last : Sort) → is_as_sort last ≡ false →
    is_as_sort (if a then sorts.Name else (if b then sorts.Read else (if c then sorts.Act else (if d then sorts.Drop
    else (if e then (if p then sorts.As else sorts.Nothing) else last))))) ≡ true → e ≡ true
as_if true b c d e p last none h = absurd (false≢true h)
as_if false true c d e p last none h = absurd (false≢true h)
as_if false false true d e p last none h = absurd (false≢true h)
as_if false false false true e p last none h = absurd (false≢true h)
as_if false false false false true p last none h = refl
as_if false false false false false p last none h = absurd (false≢true (sym none ∙ h))

pub as_word : (text : List ℕ) → sort_of text ≡ sorts.As → is_as_word (word_of text) ≡ true
unfolding sort_of
as_word text is =
    let w = word_of text in
    as_if (bytes_eq w (codes "name")) (is_read text) (is_act_word w) (bytes_eq w (codes "drop")) (bytes_eq w (codes "as"))
    (is_act_word (word_of (as_line text))) (own_sort w text) (own_not_as w text) (ap is_as_sort is)

-- a sort that is of an act in one's own name, and no other
abbrev pub is_own_act : Sort → Bool
is_own_act sorts.Act = true
is_own_act _ = false

-- ---- which messages are `as NAME LINE`

no_act_if : (a b c d e p : Bool) (last : Sort) → a ≡ false → b ≡ false → c ≡ false → d ≡ false → e ≡ true →
    is_act_sort (if a then sorts.Name else (if b then sorts.Read else (if c then sorts.Act else (if d then sorts.Drop
    else (if e then (if p then sorts.As else sorts.Nothing) else last))))) ≡ false
no_act_if false false false false true true last h k l m n = refl
no_act_if false false false false true false last h k l m n = refl
no_act_if true b c d e p last h k l m n = absurd (false≢true (sym h))
no_act_if false true c d e p last h k l m n = absurd (false≢true (sym k))
no_act_if false false true d e p last h k l m n = absurd (false≢true (sym l))
no_act_if false false false true e p last h k l m n = absurd (false≢true (sym m))
no_act_if false false false false false p last h k l m n = absurd (false≢true n)

as_no_act : (text : List ℕ) → is_as_word (word_of text) ≡ true → is_act_sort (sort_of text) ≡ false
unfolding sort_of is_read is_show_word is_act_word is_play_word
as_no_act text is =
    let w = word_of text in
    let same : word_of text ≡ codes "as" = (bytes_eq-Decides (word_of text) (codes "as")).0 is in
    no_act_if (bytes_eq w (codes "name")) (is_read text) (is_act_word w) (bytes_eq w (codes "drop")) (bytes_eq w (codes "as"))
    (is_act_word (word_of (as_line text))) (own_sort w text)
    (ap (λ (v : List ℕ). bytes_eq v (codes "name")) same) (ap (λ (v : List ℕ). is_question v (rest_of text) text) same) (ap is_act_word same)
    (ap (λ (v : List ℕ). bytes_eq v (codes "drop")) same) is

plain_if : (text : List ℕ) (b : Bool) → is_as_word (word_of text) ≡ b → is_act_sort (sort_of text) ≡ true → b ≡ false
plain_if text true is acts = absurd (false≢true (sym (as_no_act text is) ∙ acts))
plain_if text false is acts = refl

-- a message that is itself an act is none
pub plain_word : (text : List ℕ) → is_act_sort (sort_of text) ≡ true → is_as_word (word_of text) ≡ false
plain_word text acts = plain_if text (is_as_word (word_of text)) refl acts

-- ---- a line with such a word is an act

-- what holds of each of the words holds of a text that is one of them
among : (P : List ℕ → Type 0) (w word : List ℕ) (before : Bool) → (before ≡ true → P w) → P word → (before || bytes_eq w word) ≡ true → P w
among P w word true earlier here h = earlier refl
among P w word false earlier here h = subst P (sym ((bytes_eq-Decides w word).0 h)) here

abbrev pub to_offer : List ℕ → Bool
to_offer w = bytes_eq w (codes "move") || bytes_eq w (codes "offer")

abbrev pub to_accept : List ℕ → Bool
to_accept w = to_offer w || bytes_eq w (codes "accept")

abbrev pub to_decline : List ℕ → Bool
to_decline w = to_accept w || bytes_eq w (codes "decline")

abbrev pub to_resign : List ℕ → Bool
to_resign w = to_decline w || bytes_eq w (codes "resign")

abbrev pub to_claim : List ℕ → Bool
to_claim w = to_resign w || bytes_eq w (codes "claim")

each_play : (P : List ℕ → Type 0) (w : List ℕ) → P (codes "move") → P (codes "offer") → P (codes "accept") → P (codes "decline") →
    P (codes "resign") → P (codes "claim") → P (codes "flag") → is_play_word w ≡ true → P w
unfolding is_play_word
each_play P w move offer accept decline resign claim flag h =
    among P w (codes "flag") (to_claim w)
    (among P w (codes "claim") (to_resign w)
    (among P w (codes "resign") (to_decline w)
    (among P w (codes "decline") (to_accept w)
    (among P w (codes "accept") (to_offer w)
    (among P w (codes "offer") (bytes_eq w (codes "move"))
    (λ is. subst P (sym ((bytes_eq-Decides w (codes "move")).0 is)) move) offer)
    accept) decline) resign) claim) flag h

each_word : (P : List ℕ → Type 0) (w : List ℕ) → P (codes "open") → P (codes "join") → (is_play_word w ≡ true → P w) →
    is_act_word w ≡ true → P w
unfolding is_act_word
each_word P w opens joins plays h =
    ⊎_elim
    (λ is. among P w (codes "join") (bytes_eq w (codes "open"))
    (λ first. subst P (sym ((bytes_eq-Decides w (codes "open")).0 first)) opens) joins is)
    plays
    (or_cases (bytes_eq w (codes "open") || bytes_eq w (codes "join")) (is_play_word w) h)

-- what such a word is
abbrev pub IsActWord : List ℕ → Type 0
IsActWord w =
    (bytes_eq w (codes "name") ≡ false) × ((rest text : List ℕ) → is_question w rest text ≡ false) × (is_act_word w ≡ true)

plays_acts : (w : List ℕ) → is_act_word w ≡ true → IsActWord w
unfolding is_show_word is_act_word is_play_word
plays_acts w h =
    each_word IsActWord w (refl, (λ rest text. refl), refl) (refl, (λ rest text. refl), refl)
    (each_play IsActWord w (refl, (λ rest text. refl), refl) (refl, (λ rest text. refl), refl) (refl, (λ rest text. refl), refl) (refl, (λ rest text. refl), refl) (refl, (λ rest text. refl), refl) (refl, (λ rest text. refl), refl) (refl, (λ rest text. refl), refl))
    h

acts_if : (a b c : Bool) (last : Sort) → a ≡ false → b ≡ false → c ≡ true →
    (if a then sorts.Name else (if b then sorts.Read else (if c then sorts.Act else last))) ≡ sorts.Act
acts_if false false true last h k l = refl
acts_if true b c last h k l = absurd (false≢true (sym h))
acts_if false true c last h k l = absurd (false≢true (sym k))
acts_if false false false last h k l = absurd (false≢true l)

act_by_word : (line : List ℕ) → IsActWord (word_of line) → sort_of line ≡ sorts.Act
unfolding sort_of is_read
act_by_word line h =
    let w = word_of line in
    acts_if (bytes_eq w (codes "name")) (is_read line) (is_act_word w)
    (if bytes_eq w (codes "drop") then sorts.Drop else (if bytes_eq w (codes "as") then as_sort line else own_sort w line)) h.0
    (h.1 (rest_of line) line) h.2

pub as_acts : (text : List ℕ) → sort_of text ≡ sorts.As → sort_of (as_line text) ≡ sorts.Act
as_acts text is = act_by_word (as_line text) (plays_acts (word_of (as_line text)) (as_plays text is))

-- ---- it may stand in a message, as the message may

shown_behind : (n : ℕ) (text : List ℕ) → list_all is_message_byte text ≡ true → list_all is_message_byte (drop n text) ≡ true
shown_behind zero text h = h
shown_behind (suc n) [] h = refl
shown_behind (suc n) (b ∷ bs) h = shown_behind n bs (and_parts (is_message_byte b) (list_all is_message_byte bs) h).1

-- what stands behind a first space
behind_space : (text : List ℕ) → list_all is_message_byte text ≡ true → list_all is_message_byte (rest_of text) ≡ true
behind_space text h = shown_behind (position_or_len (λ b. b == 32) text + 1) text h

shorter : (text : List ℕ) → length (rest_of text) ≤ length text
shorter text = let short = length-drop (position_or_len (λ b. b == 32) text + 1) text in omega (arith, short)

-- a text whose word is one of these is not empty
some_if : (line : List ℕ) → IsActWord (word_of line) → 1 ≤ length line
unfolding is_act_word is_play_word
some_if [] h = absurd (false≢true h.2)
some_if (b ∷ bs) h = omega arith

record Parts (text : List ℕ) : Type 0 where
  short : length text ≤ 255
  shown : list_all is_message_byte text ≡ true

at_most : (n : ℕ) → nat_le n 255 ≡ true → n ≤ 255
at_most n h = grind (arith, nat_tests)

parts : (text : List ℕ) → is_message text ≡ true → Parts text
parts text h =
    let len = length text in
    let both = and_parts (nat_le 1 len && nat_le len 255) (list_all is_message_byte text) h in
    record { short = at_most (length text) (and_parts (nat_le 1 len) (nat_le len 255) both.0).1; shown = both.1 }

-- ---- a line that joins is an act

join_word : is_act_word (codes "join") ≡ true
unfolding is_act_word
join_word = refl

pub join_acts : (line : List ℕ) → word_of line ≡ codes "join" → sort_of line ≡ sorts.Act
join_acts line is = act_by_word line (plays_acts (word_of line) (ap is_act_word is ∙ join_word))

-- ---- the line that opens the game of a pairing

pair_if : (a b c d e : Bool) (other last : Sort) → is_pair_sort other ≡ false → is_pair_sort (if a then sorts.Name else (if b then sorts.Read else (if c then sorts.Act
    else (if d then sorts.Drop else (if e then other else last))))) ≡ true → is_pair_sort last ≡ true
pair_if true b c d e other last none h = absurd (false≢true h)
pair_if false true c d e other last none h = absurd (false≢true h)
pair_if false false true d e other last none h = absurd (false≢true h)
pair_if false false false true e other last none h = absurd (false≢true h)
pair_if false false false false true other last none h = absurd (false≢true (sym none ∙ h))
pair_if false false false false false other last none h = h

own_pair : (a b c r m d e f g p : Bool) (last : Sort) → is_pair_sort last ≡ false →
    is_pair_sort (if a then sorts.Login else (if b then sorts.Watch else (if c then sorts.Line else (if r then sorts.Room else (if m then sorts.Moves else (if d then sorts.Leave
    else (if e then sorts.Link else (if f then sorts.Close else (if g then (if p then sorts.Pair else sorts.Nothing) else last))))))))) ≡ true → p ≡ true
own_pair true b c r m d e f g p last none h = absurd (false≢true h)
own_pair false true c r m d e f g p last none h = absurd (false≢true h)
own_pair false false true r m d e f g p last none h = absurd (false≢true h)
own_pair false false false true m d e f g p last none h = absurd (false≢true h)
own_pair false false false false true d e f g p last none h = absurd (false≢true h)
own_pair false false false false false true e f g p last none h = absurd (false≢true h)
own_pair false false false false false false true f g p last none h = absurd (false≢true h)
own_pair false false false false false false false true g p last none h = absurd (false≢true h)
own_pair false false false false false false false false true true last none h = refl
own_pair false false false false false false false false true false last none h = absurd (false≢true h)
own_pair false false false false false false false false false p last none h = absurd (false≢true (sym none ∙ h))

whole_no_pair : (z a b o c d e f g h i j : Bool) →
    is_pair_sort (if z then sorts.Unpair else (if a then sorts.Players else (if b then sorts.Who else (if o then sorts.Offers else (if c then sorts.Pause else (if d then sorts.Resume
    else (if e then sorts.Lobby else (if f then sorts.LeaveLobby else (if g then sorts.Call calls.StopClocks else (if h then sorts.Call calls.StartClocks else (if i then sorts.Call calls.Announce else (if j then sorts.Call calls.Decide else sorts.Nothing)))))))))))) ≡ false
whole_no_pair true a b o c d e f g h i j = refl
whole_no_pair false true b o c d e f g h i j = refl
whole_no_pair false false true o c d e f g h i j = refl
whole_no_pair false false false true c d e f g h i j = refl
whole_no_pair false false false false true d e f g h i j = refl
whole_no_pair false false false false false true e f g h i j = refl
whole_no_pair false false false false false false true f g h i j = refl
whole_no_pair false false false false false false false true g h i j = refl
whole_no_pair false false false false false false false false true h i j = refl
whole_no_pair false false false false false false false false false true i j = refl
whole_no_pair false false false false false false false false false false true j = refl
whole_no_pair false false false false false false false false false false false true = refl
whole_no_pair false false false false false false false false false false false false = refl

player_no_pair : (b : Bool) (last : Sort) → is_pair_sort last ≡ false → is_pair_sort (if b then sorts.Player else last) ≡ false
player_no_pair true last h = refl
player_no_pair false last h = h

as_no_pair : (p : Bool) → is_pair_sort (if p then sorts.As else sorts.Nothing) ≡ false
as_no_pair true = refl
as_no_pair false = refl

pairs_so : (text : List ℕ) → sort_of text ≡ sorts.Pair → may_pair text ≡ true
unfolding sort_of
pairs_so text is =
    let w = word_of text in
    own_pair (bytes_eq w (codes "login")) (bytes_eq w (codes "watch")) (bytes_eq w (codes "line"))
    (bytes_eq w (codes "room")) (bytes_eq w (codes "moves")) (bytes_eq w (codes "leave") && not (bytes_eq text (codes "leave lobby"))) (bytes_eq w (codes "link")) (bytes_eq w (codes "close"))
    (bytes_eq w (codes "pair")) (may_pair text) (if bytes_eq w (codes "player") then sorts.Player else (if bytes_eq w (codes "unpair") then sorts.Unpair else whole_sort text))
    (player_no_pair (bytes_eq w (codes "player")) (if bytes_eq w (codes "unpair") then sorts.Unpair else whole_sort text) (whole_no_pair (bytes_eq w (codes "unpair")) (bytes_eq text (codes "players")) (bytes_eq text (codes "who")) (bytes_eq text (codes "offers")) (bytes_eq text (codes "pause entries"))
    (bytes_eq text (codes "resume entries")) (bytes_eq text (codes "lobby")) (bytes_eq text (codes "leave lobby")) (is_stop text) (bytes_eq text (codes "start clocks")) (bytes_eq (word_of text) (codes "announce")) (is_decision text && nat_le 1 (length (as_line (pair_times text))))))
    (pair_if (bytes_eq w (codes "name")) (is_read text) (is_act_word w) (bytes_eq w (codes "drop")) (bytes_eq w (codes "as"))
    (as_sort text) (own_sort w text) (as_no_pair (is_act_word (word_of (as_line text)))) (ap is_pair_sort is))

at_most_244 : (n : ℕ) → nat_le n 244 ≡ true → n ≤ 244
at_most_244 n h = grind (arith, nat_tests)

pub pair_whole : (text : List ℕ) → is_message text ≡ true → sort_of text ≡ sorts.Pair → is_message (pair_line text) ≡ true
pair_whole text is sort =
    let p = parts text is in
    let times = pair_times text in
    let may = and_parts (not (bytes_eq (as_name text) (black_name text)) && nat_le 1 (length times)) (nat_le (length times) 244) (pairs_so text sort) in
    let short = at_most_244 (length times) may.1 in
    let len = length-append (codes "open white ") times in
    message (pair_line text) (omega (arith, len)) (omega (arith, len, short))
    (list_all-append is_message_byte (codes "open white ") times ∙ behind_space (as_line text) (behind_space (rest_of text) (behind_space text p.shown)))

pub pair_acts : (text : List ℕ) → sort_of (pair_line text) ≡ sorts.Act
unfolding sort_of is_read is_show_word is_act_word
pair_acts text = refl

pub as_whole : (text : List ℕ) → is_message text ≡ true → sort_of text ≡ sorts.As → is_message (as_line text) ≡ true
as_whole text is sort =
    let p = parts text is in
    let short = p.short in
    let first = shorter text in
    let second = shorter (rest_of text) in
    message (as_line text) (some_if (as_line text) (plays_acts (word_of (as_line text)) (as_plays text sort))) (omega (arith, short, first, second))
    (behind_space (rest_of text) (behind_space text p.shown))
