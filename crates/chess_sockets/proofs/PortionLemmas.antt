-- Lines one behind the other, and those that ask for much.
use Rattle.std.proofs.Common.{◌≡◌, ◌∙◌, ◌<◌, ◌+◌, ℕ, Bool, true, false, List, [], ◌∷◌, ◌++◌, length, get_or, take, drop, refl, ap, sym, subst, arith, append_assoc, length-append, take-append-drop}
use Rattle.std.specs.Prelude.{◌||◌, eqb, codes}
use Rattle.std.specs.List.{starts_with}
use Rattle.std.proofs.Math.Seq.{take-add}
use Rattle.std.proofs.lemmas.Bool.Decides.{Decides-eqb}
use Rattle.std.proofs.lemmas.List.{take_more}
use Rattle.std.proofs.lemmas.List.Elements.{All-nil, All-cons, All-append}
use Rattle.std.proofs.lemmas.Slice.Eq.{starts_is}
use Rattle.text_lines.specs.Lines.{HasNoFeed}
use Rattle.text_lines.specs.Heard.{ended_bytes}
use Rattle.chess_sockets.specs.Portions.{is_dear, AreLines, BeginDear, IsDearLine}

abbrev IsCheap : List ℕ → Type 0
IsCheap line = is_dear line ≡ false

ended-more : (parts : List (List ℕ)) (part : List ℕ) → ended_bytes (parts ++ part ∷ []) ≡ ended_bytes parts ++ (part ++ 10 ∷ [])
ended-more [] part = refl
ended-more (first ∷ parts) part = ap (λ l. first ++ 10 ∷ l) (ended-more parts part)
    ∙ sym (append_assoc first (10 ∷ ended_bytes parts) (part ++ 10 ∷ []))

pub no_lines : AreLines 0 []
no_lines = record { parts = []; cut = refl; lines = All-nil HasNoFeed; cheap = All-nil IsCheap; number = refl }

pub line-taken : (bytes : List ℕ) (at : ℕ) → at < length bytes → get_or bytes at 0 ≡ 10 →
    take (at + 1) bytes ≡ take at bytes ++ 10 ∷ []
line-taken bytes at lt feed = take_more bytes at 0 lt ∙ ap (λ x. take at bytes ++ x ∷ []) feed

-- the lines before a place, and one more
pub more-lines : (count : ℕ) (bytes : List ℕ) (end at : ℕ) → AreLines count (take end bytes) →
    at < length (drop end bytes) → get_or (drop end bytes) at 0 ≡ 10 → HasNoFeed (take at (drop end bytes)) →
    is_dear (take at (drop end bytes)) ≡ false → AreLines (count + 1) (take (end + (at + 1)) bytes)
more-lines count bytes end at lines lt feed none cheap =
    let part = take at (drop end bytes) in
    record {
      parts = lines.parts ++ part ∷ [];
      cut = take-add end (at + 1) bytes
          ∙ ap (λ l. take end bytes ++ l) (line-taken (drop end bytes) at lt feed)
          ∙ ap (λ l. l ++ (part ++ 10 ∷ [])) lines.cut ∙ sym (ended-more lines.parts part);
      lines = All-append HasNoFeed lines.parts (part ∷ []) lines.lines
          (All-cons HasNoFeed part [] none (All-nil HasNoFeed));
      cheap = All-append IsCheap lines.parts (part ∷ []) lines.cheap
          (All-cons IsCheap part [] cheap (All-nil IsCheap));
      number = length-append lines.parts (part ∷ []) ∙ ap (λ n. n + 1) lines.number;
    }

-- the first line
pub first-line : (bytes : List ℕ) (at : ℕ) → at < length bytes → get_or bytes at 0 ≡ 10 → HasNoFeed (take at bytes) →
    is_dear (take at bytes) ≡ false → AreLines 1 (take (at + 1) bytes)
first-line bytes at lt feed none cheap =
    let from : 0 + (at + 1) ≡ at + 1 = omega arith in
    subst (λ n. AreLines 1 (take n bytes)) from (more-lines 0 bytes 0 at no_lines lt feed none cheap)

pub dear-line : (bytes : List ℕ) (at : ℕ) → at < length bytes → get_or bytes at 0 ≡ 10 → HasNoFeed (take at bytes) →
    is_dear (take at bytes) ≡ true → IsDearLine (take (at + 1) bytes)
dear-line bytes at lt feed none dear = record {
  line = take at bytes;
  cut = line-taken bytes at lt feed;
  no_feed = none;
  dear = dear;
}

pub begin-dear : (bytes : List ℕ) (at : ℕ) → at < length bytes → get_or bytes at 0 ≡ 10 → HasNoFeed (take at bytes) →
    is_dear (take at bytes) ≡ true → BeginDear bytes
begin-dear bytes at lt feed none dear = record {
  line = take at bytes;
  more = drop (at + 1) bytes;
  cut = sym (take-append-drop (at + 1) bytes) ∙ ap (λ l. l ++ drop (at + 1) bytes) (line-taken bytes at lt feed)
      ∙ append_assoc (take at bytes) (10 ∷ []) (drop (at + 1) bytes);
  no_feed = none;
  dear = dear;
}

-- ---- what begins with a word

starts-longer : (word line more : List ℕ) → starts_with eqb line word ≡ true → starts_with eqb (line ++ more) word ≡ true
starts-longer word line more h =
    let rest = drop (length word) line in
    let is : line ≡ word ++ rest = (starts_is Decides-eqb line word true (sym h)).0 refl in
    (starts_is Decides-eqb (line ++ more) word (starts_with eqb (line ++ more) word) refl).1 (rest ++ more)
    (ap (λ l. l ++ more) is ∙ append_assoc word rest more)

either-longer : (a b c d : Bool) → (a ≡ true → c ≡ true) → (b ≡ true → d ≡ true) → (a || b) ≡ true → (c || d) ≡ true
either-longer true b c d f g h = ap (λ x. x || d) (f refl)
either-longer false b true d f g h = refl
either-longer false b false d f g h = g h

pub dear-longer : (line more : List ℕ) → is_dear line ≡ true → is_dear (line ++ more) ≡ true
dear-longer line more = either-longer (starts_with eqb line (codes "list")) (starts_with eqb line (codes "pgn "))
    (starts_with eqb (line ++ more) (codes "list")) (starts_with eqb (line ++ more) (codes "pgn "))
    (starts-longer (codes "list") line more) (starts-longer (codes "pgn ") line more)

no-end : {P : Type 0} (line : List ℕ) → [] ≡ line ++ 10 ∷ [] → P
no-end [] e = cc
no-end (x ∷ line) e = cc

-- no byte is no line
pub none-dear : {P : Type 0} → IsDearLine [] → P
none-dear d = no-end d.line d.cut
