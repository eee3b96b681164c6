-- A replay, word by word.
use Rattle.std.proofs.Common.{ℕ, ◌≡◌, ◌≤◌, ◌<◌, ◌+◌, List, [], ◌∷◌, ◌++◌, length, get_or, map, take, drop, suc, refl, sym, ap, ◌∙◌}
use Rattle.std.proofs.Common.{subst, append_assoc, length-append, add-one, arith, codes, decimal}
use Rattle.std.specs.String.{string_bytes}
use Rattle.std.proofs.lemmas.List.{drop_more, drop_all, get_or-map, length-map}
use Rattle.chess_board.specs.declared.moves.Move.{Move}
use Rattle.chess_board.specs.Position.{Position}
use Rattle.chess_board.specs.Next.{next}
use Rattle.chess_board.proofs.LineLemmas.{position_after-push}
use Rattle.text_pgn.specs.Game.{Plays, ArePlayed, StartsAt, TellsNone, fen_in, lines_of, words_in}
use Rattle.text_pgn.specs.Answer.{head, row, PutsRow, PutsRows, IsLineAnswer}
use Rattle.text_pgn.specs.Replaying.{IsUnderWay, IsWhole, Goes, Runs, StopsWithin, words_left}
use Rattle.text_pgn.specs.declared.replay.Replay.{Replay}
use Rattle.text_pgn.proofs.Played.{played_on, runs_more, runs_end, runs_one, runs_stop}
use Rattle.text_pgn.proofs.Spelled.{rows_none, rows_put}

-- the words from one on
pub word_at : {X : Type 0} (f : X → List ℕ) → (items : List X) (i : ℕ) (d : X) → i < length items →
    drop i (map f items) ≡ f (get_or items i d) ∷ drop (i + 1) (map f items)
word_at f items i d below =
    let inside : i < length (map f items) = rw (length-map items f) below in
    drop_more (map f items) i (f d) inside
    ∙ ap (λ (text : List ℕ). text ∷ drop (i + 1) (map f items)) (get_or-map f items i d (f d) below)

-- nothing is played
pub begins : (game : ℕ) (pgn : List ℕ) (replay : Replay) → StartsAt (fen_in (lines_of pgn)) replay.board →
    ((p : Position) → StartsAt (fen_in (lines_of pgn)) p → p ≡ replay.board) →
    map string_bytes replay.words.items ≡ words_in pgn →
    replay.at ≡ 0 → string_bytes replay.text ≡ head game (length (words_in pgn)) replay.board →
    IsUnderWay game pgn replay
begins game pgn replay begun only words none text = record {
  start = replay.board;
  begun = begun;
  only = only;
  words = words;
  within = rw none (omega arith);
  done = [];
  count = sym none;
  played = subst (λ (n : ℕ). ArePlayed replay.board (take n (words_in pgn)) []) (sym none) tt;
  runs = subst (λ (l : List (List ℕ)). Runs replay.board replay.board (words_in pgn) l [])
      (sym (ap (λ (n : ℕ). drop n (map string_bytes replay.words.items)) none ∙ words))
      (record { back = λ rest h. h; forth = λ all h. record { rest = all; joined = refl; played = h } });
  at = refl;
  rows = subst (λ (t : List ℕ). PutsRows replay.board [] (head game (length (words_in pgn)) replay.board) t) (sym text)
      (rows_none replay.board (head game (length (words_in pgn)) replay.board));
}

-- one word is played
goes_on : (game : ℕ) (pgn : List ℕ) (old new : Replay) (word : List ℕ) (m : Move) →
    words_left old ≡ word ∷ words_left new →
    new.words ≡ old.words → new.at ≡ old.at + 1 → old.at < length old.words.items → Plays old.board word m →
    ((other : Move) → Plays old.board word other → other ≡ m) → new.board ≡ next old.board m →
    PutsRow new.at old.board m new.board (string_bytes old.text) (string_bytes new.text) → IsUnderWay game pgn old →
    IsUnderWay game pgn new
goes_on game pgn old new word m cut same at below plays one board put u = record {
  start = u.start;
  begun = u.begun;
  only = u.only;
  words = rw same u.words;
  within = rw same (omega (arith, at, below));
  done = u.done ++ m ∷ [];
  count = let len = length-append u.done (m ∷ []) in omega (arith, len, at, u.count);
  played = subst (λ (ws : List (List ℕ)). ArePlayed u.start (take new.at ws) (u.done ++ m ∷ [])) u.words
      (subst (λ (n : ℕ). ArePlayed u.start (take n (map string_bytes old.words.items)) (u.done ++ m ∷ []))
      (sym (at ∙ add-one old.at))
      (played_on u.start (map string_bytes old.words.items) old.at word (words_left new) u.done m cut
      (subst (λ (ws : List (List ℕ)). ArePlayed u.start (take old.at ws) u.done) (sym u.words) u.played)
      (subst (λ (q : Position). Plays q word m) u.at plays)));
  runs = runs_more u.start old.board new.board (words_in pgn) (words_left new) word u.done m
      (subst (λ (l : List (List ℕ)). Runs u.start old.board (words_in pgn) l u.done) cut u.runs) plays one board;
  at = board ∙ (ap (λ (q : Position). next q m) u.at ∙ sym (position_after-push u.start u.done m));
  rows = rows_put u.start old.board new.board u.done (u.done ++ m ∷ []) m new.at
      (head game (length (words_in pgn)) u.start)
      (string_bytes old.text) (string_bytes new.text) u.rows put u.at board (omega (arith, at, u.count)) refl;
}

-- what the words from one on name goes on from the position that its move brings
played_behind : (p after : Position) (word : List ℕ) (left : List (List ℕ)) (m : Move) (n : ℕ) (moves : List Move) →
    ((other : Move) → Plays p word other → other ≡ m) → after ≡ next p m →
    ArePlayed p (take (suc n) (word ∷ left)) moves → (rest : List Move) × ArePlayed after (take n left) rest
played_behind p after word left m n [] one board played = absurd played
played_behind p after word left m n (first ∷ rest) one board played =
    let same = one first played.0 in (
      rest,
      subst (λ (q : Position). ArePlayed q (take n left) rest) (ap (next p) same ∙ sym board) played.1,
    )

forth : (old new : Replay) (word : List ℕ) (m : Move) → words_left old ≡ word ∷ words_left new →
    ((other : Move) → Plays old.board word other → other ≡ m) → new.board ≡ next old.board m → (n : ℕ) →
    (moves : List Move) → ArePlayed old.board (take (suc n) (words_left old)) moves →
    (rest : List Move) × ArePlayed new.board (take n (words_left new)) rest
forth old new word m cut one board n moves played =
    played_behind old.board new.board word (words_left new) m n moves one board
    (subst (λ (l : List (List ℕ)). ArePlayed old.board (take (suc n) l) moves) cut played)

pub goes_one : (old new : Replay) (word : List ℕ) (m : Move) → words_left old ≡ word ∷ words_left new →
    new.words ≡ old.words → new.at ≡ old.at + 1 → old.at < length old.words.items → Plays old.board word m →
    ((other : Move) → Plays old.board word other → other ≡ m) → new.board ≡ next old.board m →
    PutsRow new.at old.board m new.board (string_bytes old.text) (string_bytes new.text) → Goes old new
goes_one old new word m cut same at below plays one board put = record {
  goes = λ game pgn u. goes_on game pgn old new word m cut same at below plays one board put u;
  words = same;
  at = at;
  forth = forth old new word m cut one board;
}

-- a word names no move
stuck_at : (p : Position) (word : List ℕ) (left : List (List ℕ)) → ((m : Move) → ¬ Plays p word m) → (n : ℕ) →
    (moves : List Move) → ¬ ArePlayed p (take (suc n) (word ∷ left)) moves
stuck_at p word left none n [] played = played
stuck_at p word left none n (m ∷ ms) played = none m played.0

pub stuck : (old : Replay) (word : List ℕ) (left : List (List ℕ)) → words_left old ≡ word ∷ left →
    ((m : Move) → ¬ Plays old.board word m) → (n : ℕ) → StopsWithin (suc n) old
stuck old word left cut none n = λ moves played.
    stuck_at old.board word left none n moves
    (subst (λ (l : List (List ℕ)). ArePlayed old.board (take (suc n) l) moves) cut played)

-- where so many words are played, what may be played is stuck further on
pub stuck_behind : (old now : Replay) (most done n : ℕ) → most ≡ suc n + done →
    ((k : ℕ) → (moves : List Move) → ArePlayed old.board (take (k + done) (words_left old)) moves →
    (rest : List Move) × ArePlayed now.board (take k (words_left now)) rest) →
    StopsWithin (suc n) now → StopsWithin most old
stuck_behind old now most done n is forth stops = λ moves played.
    let behind = forth (suc n) moves
    (subst (λ (k : ℕ). ArePlayed old.board (take k (words_left old)) moves) is played) in
    stops behind.0 behind.1

pub stops : (game : ℕ) (pgn : List ℕ) (old : Replay) (word : List ℕ) (rest : List (List ℕ)) →
    words_left old ≡ word ∷ rest →
    ((m : Move) → ¬ Plays old.board word m) → IsUnderWay game pgn old → TellsNone pgn
stops game pgn old word rest cut none u = λ start moves tells.
    runs_stop u.start old.board (words_in pgn) rest word u.done
    (subst (λ (l : List (List ℕ)). Runs u.start old.board (words_in pgn) l u.done) cut u.runs) none moves
    (subst (λ (p : Position). ArePlayed p (words_in pgn) moves) (u.only start tells.begun) tells.played)

six_joined : (a b c d e f g : List ℕ) → (a ++ (b ++ (c ++ (d ++ (e ++ f))))) ++ g
    ≡ a ++ (b ++ (c ++ (d ++ (e ++ (f ++ g)))))
six_joined a b c d e f g =
    append_assoc a (b ++ (c ++ (d ++ (e ++ f)))) g
    ∙ ap (λ (t : List ℕ). a ++ t) (append_assoc b (c ++ (d ++ (e ++ f))) g
    ∙ ap (λ (t : List ℕ). b ++ t) (append_assoc c (d ++ (e ++ f)) g
    ∙ ap (λ (t : List ℕ). c ++ t) (append_assoc d (e ++ f) g
    ∙ ap (λ (t : List ℕ). d ++ t) (append_assoc e f g))))

answer_of : (game count : ℕ) (start : Position) (done : List Move) (text : List ℕ) → count ≡ length done →
    PutsRows start done (head game count start) text → IsLineAnswer game start done text
answer_of game count start done text counted rows = record {
  behind = rows.behind;
  are = rows.are;
  spelled = rows.put
      ∙ (six_joined (codes "ok line ") (decimal game) (codes " ") (decimal count) (codes "\n")
      (row 0 (codes "-") (codes "-") start) rows.behind
      ∙ ap (λ (n : ℕ). codes "ok line " ++ (decimal game ++ (codes " " ++ (decimal n ++ (codes "\n" ++
      (row 0 (codes "-") (codes "-") start ++ rows.behind)))))) counted);
}

-- all words are played
pub whole : (game : ℕ) (pgn : List ℕ) (replay : Replay) → length replay.words.items ≤ replay.at →
    IsUnderWay game pgn replay →
    IsWhole game pgn (string_bytes replay.text)
whole game pgn replay past u =
    let all : length (map string_bytes replay.words.items) ≤ replay.at =
    rw (length-map replay.words.items string_bytes) past in
    let runs = subst (λ (l : List (List ℕ)). Runs u.start replay.board (words_in pgn) l u.done)
    (drop_all replay.at (map string_bytes replay.words.items) all) u.runs in
    let len : length (words_in pgn) ≡ length replay.words.items = ap length (sym u.words)
    ∙ length-map replay.words.items string_bytes in
    let counted : length (words_in pgn) ≡ length u.done = omega (arith, len, u.count, u.within, past) in
    record {
      tells = (
        u.start,
        u.done,
        record
            { begun = u.begun; played = runs_end u.start replay.board (words_in pgn) u.done runs },
      );
      answers = λ start moves tells.
          let begun = u.only start tells.begun in
          let same = runs_one u.start replay.board (words_in pgn) u.done runs moves
          (subst (λ (p : Position). ArePlayed p (words_in pgn) moves) begun tells.played) in
          subst (λ (p : Position). IsLineAnswer game p moves (string_bytes replay.text)) (sym begun)
          (subst (λ (ms : List Move). IsLineAnswer game u.start ms (string_bytes replay.text)) (sym same)
          (answer_of game (length (words_in pgn)) u.start u.done (string_bytes replay.text) counted u.rows));
    }
