-- Each word by which a message asks for something stands in one of three lists.
use Rattle.std.proofs.Common.{ℕ, ◌≡◌, ◌≢◌, ◌≤◌, ◌<◌, ◌||◌, Bool, true, false, List, [], ◌∷◌, ◌++◌, codes, length, take, refl, ap, sym, ◌∙◌, subst, arith, inl, inr}
use Rattle.std.specs.List.{AllByRecursion}
use Rattle.std.specs.Str.{bytes_eq}
use Rattle.std.proofs.lemmas.Bool.{cases_Bool, false≢true}
use Rattle.std.proofs.lemmas.Slice.Eq.{bytes_eq-Decides}
use Rattle.lobby_words.specs.declared.words.Sort.TheVariants.{Nothing}
use Rattle.lobby_words.specs.Words.{word_of, is_read, is_show_word, is_act_word, is_play_word, sort_of, own_sort, whole_sort, call_sort}
use Rattle.lobby_talk.specs.Front.{is_brief, is_hasty_word, brief_words, long_words, has_word}
use Rattle.lobby_talk.proofs.Fronts.{word_text, or_either}

-- ---- what asks for little begins so

abbrev IsFront : (List ℕ → Bool) → List ℕ → Type 0
IsFront test w = (5 ≤ length w → test (take 5 w) ≡ true) × ((rest : List ℕ) → test (take 5 (w ++ 32 ∷ rest)) ≡ true)

begun : (test : List ℕ → Bool) (text w : List ℕ) → bytes_eq (word_of text) w ≡ true → 5 ≤ length text → IsFront test w → test (take 5 text) ≡ true
begun test text w is long front =
    elim (word_text text w ((bytes_eq-Decides (word_of text) w).0 is)) [
      | inl same ↦ subst (λ (l : List ℕ). test (take 5 l) ≡ true) (sym same)
          (front.0 (subst (λ (l : List ℕ). 5 ≤ length l) same long))
      | inr behind ↦ subst (λ (l : List ℕ). test (take 5 l) ≡ true) (sym behind.1) (front.1 behind.0)
    ]

all_begun : (test : List ℕ → Bool) (text : List ℕ) (words : List (List ℕ)) → AllByRecursion (IsFront test) words →
    has_word words text ≡ true → 5 ≤ length text → test (take 5 text) ≡ true
all_begun test text [] all is long = absurd (false≢true is)
all_begun test text (w ∷ words) all is long =
    elim (or_either (bytes_eq (word_of text) w) (has_word words text) is) [
      | inl this ↦ begun test text w this long all.0
      | inr other ↦ all_begun test text words all.1 other long
    ]

short : (test : List ℕ → Bool) (w : List ℕ) (n : ℕ) → length w ≡ n → n < 5 → 5 ≤ length w → test (take 5 w) ≡ true
short test w n is few many = absurd (omega (arith, is, few, many))

all_brief : AllByRecursion (IsFront is_brief) brief_words
unfolding is_brief
all_brief = (
  (λ _. refl, λ rest. refl),
  (
    (λ _. refl, λ rest. refl),
    (
      (short is_brief (codes "show") 4 refl (omega arith), λ rest. refl),
      (
        (short is_brief (codes "fen") 3 refl (omega arith), λ rest. refl),
        ((short is_brief (codes "room") 4 refl (omega arith), λ rest. refl), ((λ _. refl, λ rest. refl), tt)),
      ),
    ),
  ),
)

pub begins_brief : (text : List ℕ) → has_word brief_words text ≡ true → 5 ≤ length text → is_brief (take 5 text) ≡ true
begins_brief text is long = all_begun is_brief text brief_words all_brief is long

-- ---- a text with no such word asks for nothing

both_no : (a b : Bool) → (a || b) ≡ false → (a ≡ false) × (b ≡ false)
both_no false b none = (refl, none)
both_no true b none = absurd (false≢true (sym none))

not_whole : (text whole w : List ℕ) → word_of whole ≡ w → bytes_eq (word_of text) w ≡ false → bytes_eq text whole ≡ false
not_whole text whole w is other =
    elim (cases_Bool (bytes_eq text whole)) [
      | inl same ↦
          let word : word_of text ≡ w = ap word_of ((bytes_eq-Decides text whole).0 same) ∙ is in
          absurd (false≢true (sym other ∙ (bytes_eq-Decides (word_of text) w).1 word))
      | inr none ↦ none
    ]

-- none of these is the first word
abbrev pub IsNot : List ℕ → List ℕ → Type 0
IsNot text w = bytes_eq (word_of text) w ≡ false

pub record HasNone (text : List ℕ) : Type 0 where
  pub open_is : IsNot text (codes "open")
  pub join_is : IsNot text (codes "join")
  pub move_is : IsNot text (codes "move")
  pub offer_is : IsNot text (codes "offer")
  pub accept_is : IsNot text (codes "accept")
  pub decline_is : IsNot text (codes "decline")
  pub resign_is : IsNot text (codes "resign")
  pub claim_is : IsNot text (codes "claim")
  pub flag_is : IsNot text (codes "flag")
  pub drop_is : IsNot text (codes "drop")
  pub as_is : IsNot text (codes "as")
  pub pair_is : IsNot text (codes "pair")
  pub login_is : IsNot text (codes "login")
  pub offers_is : IsNot text (codes "offers")
  pub unpair_is : IsNot text (codes "unpair")
  pub watch_is : IsNot text (codes "watch")
  pub leave_is : IsNot text (codes "leave")
  pub show_is : IsNot text (codes "show")
  pub fen_is : IsNot text (codes "fen")
  pub room_is : IsNot text (codes "room")
  pub moves_is : IsNot text (codes "moves")
  pub pgn_is : IsNot text (codes "pgn")
  pub list_is : IsNot text (codes "list")
  pub line_is : IsNot text (codes "line")
  pub lobby_is : IsNot text (codes "lobby")
  pub players_is : IsNot text (codes "players")
  pub who_is : IsNot text (codes "who")
  pub pause_is : IsNot text (codes "pause")
  pub resume_is : IsNot text (codes "resume")
  pub stop_is : IsNot text (codes "stop")
  pub start_is : IsNot text (codes "start")
  pub announce_is : IsNot text (codes "announce")
  pub decide_is : IsNot text (codes "decide")
  pub link_is : IsNot text (codes "link")
  pub close_is : IsNot text (codes "close")
  pub player_is : IsNot text (codes "player")

no_read : (text : List ℕ) → HasNone text → is_read text ≡ false
unfolding is_read is_show_word
no_read text none = rw (none.show_is, none.fen_is, none.pgn_is, none.list_is)

no_act : (text : List ℕ) → HasNone text → is_act_word (word_of text) ≡ false
unfolding is_act_word is_play_word
no_act text none =
    rw (none.open_is, none.join_is, none.move_is, none.offer_is, none.accept_is, none.decline_is, none.resign_is, none.claim_is, none.flag_is)

no_call : (text : List ℕ) → HasNone text → call_sort text ≡ Nothing
no_call text none =
    rw (none.stop_is, not_whole text (codes "start clocks") (codes "start") refl none.start_is, none.announce_is, none.decide_is)

no_whole : (text : List ℕ) → HasNone text → whole_sort text ≡ Nothing
no_whole text none =
    rw (
      not_whole text (codes "players") (codes "players") refl none.players_is,
      not_whole text (codes "who") (codes "who") refl none.who_is,
      not_whole text (codes "offers") (codes "offers") refl none.offers_is,
      not_whole text (codes "pause entries") (codes "pause") refl none.pause_is,
      not_whole text (codes "resume entries") (codes "resume") refl none.resume_is,
      not_whole text (codes "lobby") (codes "lobby") refl none.lobby_is,
      not_whole text (codes "leave lobby") (codes "leave") refl none.leave_is,
    ) (no_call text none)

no_own : (text : List ℕ) → HasNone text → own_sort (word_of text) text ≡ Nothing
no_own text none =
    rw (none.login_is, none.watch_is, none.line_is, none.room_is, none.moves_is, none.leave_is, none.link_is, none.close_is, none.pair_is, none.player_is, none.unpair_is)
    (no_whole text none)

no_sort : (text : List ℕ) → IsNot text (codes "name") → HasNone text → sort_of text ≡ Nothing
unfolding sort_of
no_sort text name none =
    rw (name, no_read text none, no_act text none, none.drop_is, none.as_is) (no_own text none)

-- each word of a list is none
none_in : (text : List ℕ) (words : List (List ℕ)) → has_word words text ≡ false → AllByRecursion (IsNot text) words
none_in text [] none = tt
none_in text (w ∷ words) none =
    let both = both_no (bytes_eq (word_of text) w) (has_word words text) none in (both.0, none_in text words both.1)

has_none : (text : List ℕ) → is_hasty_word (word_of text) ≡ false → has_word (brief_words ++ long_words) text ≡ false → HasNone text
unfolding is_act_word is_play_word
has_none text act_none other_none =
    let w = word_of text in
    let others = none_in text (brief_words ++ long_words) other_none in
    let h6 = both_no _ (bytes_eq w (codes "unpair")) act_none in
    let h5 = both_no _ (bytes_eq w (codes "offers")) h6.0 in
    let h4 = both_no _ (bytes_eq w (codes "login")) h5.0 in
    let h3 = both_no _ (bytes_eq w (codes "pair")) h4.0 in
    let h2 = both_no _ (bytes_eq w (codes "as")) h3.0 in
    let h1 = both_no (is_act_word w) (bytes_eq w (codes "drop")) h2.0 in
    let a1 = both_no (bytes_eq w (codes "open") || bytes_eq w (codes "join")) (is_play_word w) h1.0 in
    let a0 = both_no (bytes_eq w (codes "open")) (bytes_eq w (codes "join")) a1.0 in
    let p6 = both_no _ (bytes_eq w (codes "flag")) a1.1 in
    let p5 = both_no _ (bytes_eq w (codes "claim")) p6.0 in
    let p4 = both_no _ (bytes_eq w (codes "resign")) p5.0 in
    let p3 = both_no _ (bytes_eq w (codes "decline")) p4.0 in
    let p2 = both_no _ (bytes_eq w (codes "accept")) p3.0 in
    let p1 = both_no (bytes_eq w (codes "move")) (bytes_eq w (codes "offer")) p2.0 in
    record {
      open_is = a0.0;
      join_is = a0.1;
      move_is = p1.0;
      offer_is = p1.1;
      accept_is = p2.1;
      decline_is = p3.1;
      resign_is = p4.1;
      claim_is = p5.1;
      flag_is = p6.1;
      drop_is = h1.1;
      as_is = h2.1;
      pair_is = h3.1;
      login_is = h4.1;
      offers_is = h5.1;
      unpair_is = h6.1;
      watch_is = others.0;
      leave_is = others.1.0;
      show_is = others.1.1.0;
      fen_is = others.1.1.1.0;
      room_is = others.1.1.1.1.0;
      moves_is = others.1.1.1.1.1.0;
      pgn_is = others.1.1.1.1.1.1.0;
      list_is = others.1.1.1.1.1.1.1.0;
      line_is = others.1.1.1.1.1.1.1.1.0;
      lobby_is = others.1.1.1.1.1.1.1.1.1.0;
      players_is = others.1.1.1.1.1.1.1.1.1.1.0;
      who_is = others.1.1.1.1.1.1.1.1.1.1.1.0;
      pause_is = others.1.1.1.1.1.1.1.1.1.1.1.1.0;
      resume_is = others.1.1.1.1.1.1.1.1.1.1.1.1.1.0;
      stop_is = others.1.1.1.1.1.1.1.1.1.1.1.1.1.1.0;
      start_is = others.1.1.1.1.1.1.1.1.1.1.1.1.1.1.1.0;
      announce_is = others.1.1.1.1.1.1.1.1.1.1.1.1.1.1.1.1.0;
      decide_is = others.1.1.1.1.1.1.1.1.1.1.1.1.1.1.1.1.1.0;
      link_is = others.1.1.1.1.1.1.1.1.1.1.1.1.1.1.1.1.1.1.0;
      close_is = others.1.1.1.1.1.1.1.1.1.1.1.1.1.1.1.1.1.1.1.0;
      player_is = others.1.1.1.1.1.1.1.1.1.1.1.1.1.1.1.1.1.1.1.1.0;
    }

pub is_known : (text : List ℕ) → sort_of text ≢ Nothing → bytes_eq (word_of text) (codes "name") ≡ false →
    (is_hasty_word (word_of text) || has_word (brief_words ++ long_words) text) ≡ true
is_known text asks name =
    elim (cases_Bool (is_hasty_word (word_of text) || has_word (brief_words ++ long_words) text)) [
      | inl known ↦ known
      | inr none ↦
          let both = both_no (is_hasty_word (word_of text)) (has_word (brief_words ++ long_words) text) none in
          absurd (asks (no_sort text name (has_none text both.0 both.1)))
    ]
