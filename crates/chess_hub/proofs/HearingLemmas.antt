-- What was taken of a session's input, and what waits.
use Rattle.std.proofs.Common.{◌≡◌, ℕ, zero, suc, ◌≤◌, ◌-◌, ◌+◌, true, false, List, [], ◌∷◌, ◌++◌, length, drop, map, refl, ap, sym, subst, ◌∙◌, arith, append_assoc, length-append, length-drop, inl, inr}
use Rattle.std.specs.Prelude.{cond}
use Rattle.std.specs.List.{All, onto_first}
use Rattle.std.specs.Io.BufRead.{strip_last}
use Rattle.std.proofs.lemmas.Bool.{cases_Bool}
use Rattle.std.proofs.lemmas.Bool.Decides.{nat_tests}
use Rattle.std.proofs.lemmas.List.Elements.{All-nil, All-cons, All-head, All-tail}
use Rattle.std.proofs.lemmas.List.Splits.{slice_split-cons_yes, slice_split-cons_no}
use Rattle.std.proofs.Math.Seq.{drop-append_seam}
use Rattle.text_lines.specs.Lines.{is_feed, HasNoFeed, parts_of, is_too_long, ended_parts, lines_of, has_long_line, IsUnfinished}
use Rattle.text_lines.specs.Heard.{Heard, heard, heard_more, ended_bytes, kept_of, IsWhole, IsFirstLine}
use Rattle.text_lines.proofs.LineLemmas.{lines-feed}
use Rattle.text_lines.proofs.Wholes.{whole-none, whole-line, whole-append}
use Rattle.chess_hub.specs.Delivery.{DropsLine, DropsLines}

-- ---- what is kept of an input has its lines

onto-no_feed : (b : ℕ) (parts : List (List ℕ)) → is_feed b ≡ false → All HasNoFeed parts →
    All HasNoFeed (onto_first b parts)
onto-no_feed b [] e h =
    All-cons HasNoFeed (b ∷ []) [] (All-cons (λ b. is_feed b ≡ false) b [] e (All-nil (λ b. is_feed b ≡ false)))
    (All-nil HasNoFeed)
onto-no_feed b (part ∷ parts) e h =
    All-cons HasNoFeed (b ∷ part) parts
    (All-cons (λ b. is_feed b ≡ false) b part e (All-head HasNoFeed part parts h)) (All-tail HasNoFeed part parts h)

parts-no_feed : (input : List ℕ) → All HasNoFeed (parts_of input)
parts-no_feed [] = All-cons HasNoFeed [] [] (All-nil (λ b. is_feed b ≡ false)) (All-nil HasNoFeed)
parts-no_feed (b ∷ bytes) =
    elim (cases_Bool (is_feed b)) [
      | inl e ↦ subst (All HasNoFeed) (sym (slice_split-cons_yes is_feed b bytes e))
          (All-cons HasNoFeed [] (parts_of bytes) (All-nil (λ b. is_feed b ≡ false)) (parts-no_feed bytes))
      | inr e ↦ subst (All HasNoFeed) (sym (slice_split-cons_no is_feed b bytes e))
          (onto-no_feed b (parts_of bytes) e (parts-no_feed bytes))
    ]

unfinished-part : (part : List ℕ) → HasNoFeed part → is_too_long part ≡ false → IsUnfinished part
unfinished-part part h e = record { no_feed = h; short = grind (arith, nat_tests) }

lines-ended : (parts : List (List ℕ)) → All HasNoFeed parts →
    lines_of (ended_bytes (ended_parts parts)) ≡ map (strip_last 13) (ended_parts parts)
lines-ended [] h = refl
lines-ended (part ∷ []) h = refl
lines-ended (part ∷ next ∷ parts) h =
    let rest : lines_of (ended_bytes (ended_parts (next ∷ parts))) ≡ map (strip_last 13) (ended_parts (next ∷ parts)) =
    lines-ended (next ∷ parts) (All-tail HasNoFeed part (next ∷ parts) h) in
    elim (cases_Bool (is_too_long part)) [
      | inl e ↦ rw e refl
      | inr e ↦ rw e (lines-feed part (ended_bytes (ended_parts (next ∷ parts)))
          (unfinished-part part (All-head HasNoFeed part (next ∷ parts) h) e)
          ∙ ap (λ ls. strip_last 13 part ∷ ls) rest)
    ]

lines-kept : (input : List ℕ) → lines_of (kept_of input) ≡ lines_of input
lines-kept input =
    elim (has_long_line input) as
    (λ t. lines_of (cond t (ended_bytes (ended_parts (parts_of input))) input) ≡ lines_of input) [
      | true ↦ lines-ended (parts_of input) (parts-no_feed input)
      | false ↦ refl
    ]

-- ---- an input of which lines were taken

-- So many lines were taken of an input, and this waits.
pub record IsHearing (input : List ℕ) (count : ℕ) (h : Heard) : Type 0 where
  pub taken : List ℕ
  pub whole : IsWhole taken
  pub counted : length (lines_of taken) ≡ count
  pub kept : kept_of input ≡ taken ++ h.bytes
  pub long : h.is_long ≡ has_long_line input
  pub lines : lines_of input ≡ lines_of taken ++ lines_of h.bytes

pub hearing-none : IsHearing [] 0 (heard [] false)
hearing-none = record { taken = []; whole = whole-none; counted = refl; kept = refl; long = refl; lines = refl }

-- the lines that wait are those after the lines that were taken
pub hearing-waits : (input : List ℕ) (count : ℕ) (h : Heard) → IsHearing input count h →
    lines_of h.bytes ≡ drop count (lines_of input)
hearing-waits input count h is =
    sym (drop-append_seam (lines_of is.taken) (lines_of h.bytes))
    ∙ ap (λ n. drop n (lines_of is.taken ++ lines_of h.bytes)) is.counted ∙ ap (drop count) (sym is.lines)

pub hearing-more : (input piece : List ℕ) (count : ℕ) (h : Heard) → IsHearing input count h → h.is_long ≡ false →
    IsHearing (input ++ piece) count (heard_more h piece)
hearing-more input piece count h is short =
    let none : has_long_line input ≡ false = sym is.long ∙ short in
    let all : input ≡ is.taken ++ h.bytes =
    ap (λ t. cond t (ended_bytes (ended_parts (parts_of input))) input) (sym none) ∙ is.kept in
    let same : input ++ piece ≡ is.taken ++ (h.bytes ++ piece) =
    ap (λ xs. xs ++ piece) all ∙ append_assoc is.taken h.bytes piece in
    record {
      taken = is.taken;
      whole = is.whole;
      counted = is.counted;
      kept = ap kept_of same ∙ is.whole.kept (h.bytes ++ piece);
      long = sym (is.whole.long (h.bytes ++ piece)) ∙ ap has_long_line (sym same);
      lines = ap lines_of same ∙ is.whole.lines (h.bytes ++ piece)
          ∙ ap (λ ls. lines_of is.taken ++ ls) (sym (lines-kept (h.bytes ++ piece)));
    }

-- one line more is taken
pub hearing-line : (input : List ℕ) (count : ℕ) (old new : Heard) (line : List ℕ) → IsHearing input count old →
    IsFirstLine old.bytes line new.bytes → new.is_long ≡ old.is_long → IsHearing input (count + 1) new
hearing-line input count old new line is first long =
    let part = first.part in
    let one : IsWhole (part ++ 10 ∷ []) = whole-line part first.unfinished in
    let own : lines_of (part ++ 10 ∷ []) ≡ line ∷ [] =
    lines-feed part [] first.unfinished ∙ ap (λ l. l ∷ []) (sym first.stripped) in
    let all : lines_of (is.taken ++ (part ++ 10 ∷ [])) ≡ lines_of is.taken ++ line ∷ [] =
    is.whole.lines (part ++ 10 ∷ []) ∙ ap (λ ls. lines_of is.taken ++ ls) own in
    record {
      taken = is.taken ++ (part ++ 10 ∷ []);
      whole = whole-append is.taken (part ++ 10 ∷ []) is.whole one;
      counted = ap length all ∙ length-append (lines_of is.taken) (line ∷ []) ∙ ap (λ n. n + 1) is.counted;
      kept = is.kept ∙ ap (λ xs. is.taken ++ xs) (first.cut ∙ sym (append_assoc part (10 ∷ []) new.bytes))
          ∙ sym (append_assoc is.taken (part ++ 10 ∷ []) new.bytes);
      long = long ∙ is.long;
      lines = is.lines ∙ ap (λ ls. lines_of is.taken ++ ls) first.lines
          ∙ sym (append_assoc (lines_of is.taken) (line ∷ []) (lines_of new.bytes))
          ∙ ap (λ ls. ls ++ lines_of new.bytes) (sym all);
    }

-- several lines more are
pub hearing-drops : (k : ℕ) (input : List ℕ) (count : ℕ) (old new : Heard) → IsHearing input count old →
    count + k ≤ length (lines_of input) → DropsLines k old new → IsHearing input (count + k) new
hearing-drops zero input count old new is few drops =
    let e : count + zero ≡ count = omega arith in
    subst (λ n. IsHearing input n new) (sym e) (subst (IsHearing input count) (sym drops) is)
hearing-drops (suc k) input count old new is few drops =
    let between = drops.0 in
    let one : DropsLine between new = drops.2 in
    let before : IsHearing input (count + k) between =
    hearing-drops k input count old between is (omega arith) drops.1 in
    let left : length (lines_of between.bytes) ≡ length (lines_of input) - (count + k) =
    ap length (hearing-waits input (count + k) between before) ∙ length-drop (count + k) (lines_of input) in
    let line = one.taken (omega arith) in
    let e : count + suc k ≡ count + k + 1 = omega arith in
    subst (λ n. IsHearing input n new) (sym e)
    (hearing-line input (count + k) between new line.0 before line.1 one.long)

-- as many lines wait as were not taken
pub hearing-count : (input : List ℕ) (count : ℕ) (h : Heard) → IsHearing input count h →
    length (lines_of input) ≡ count + length (lines_of h.bytes)
hearing-count input count h is =
    ap length is.lines ∙ length-append (lines_of is.taken) (lines_of h.bytes)
    ∙ ap (λ n. n + length (lines_of h.bytes)) is.counted
