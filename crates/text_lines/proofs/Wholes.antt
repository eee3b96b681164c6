-- What is kept of an input.
use Rattle.std.proofs.Common.{◌≡◌, ℕ, ◌<◌, ◌≤◌, ◌-◌, Bool, true, false, List, [], ◌∷◌, ◌++◌, ◌+◌, length, drop, inl, inr, subst, map, refl, ap, sym, ◌∙◌, arith, append_assoc, append-nil, length-append}
use Rattle.std.specs.Prelude.{cond}
use Rattle.std.specs.Io.BufRead.{strip_last}
use Rattle.std.proofs.lemmas.List.Splits.{slice_split_none}
use Rattle.std.proofs.lemmas.List.Elements.{All-append, All-nil}
use Rattle.std.proofs.lemmas.Bool.{cases_lt}
use Rattle.std.proofs.lemmas.List.{append_cancel_left, drop-drop, drop-append-le, length-drop}
use Rattle.std.proofs.Math.Seq.{drop-append_seam}
use Rattle.text_lines.specs.Lines.{is_feed, HasNoFeed, parts_of, ended_parts, lines_of, has_long_line, IsUnfinished}
use Rattle.text_lines.specs.Heard.{heard, heard_more, ended_bytes, kept_of, IsWhole, IsCut, IsFirstLine}
use Rattle.text_lines.specs.Holding.{held_by, IsHolding}
use Rattle.text_lines.proofs.LineLemmas.{ended-feed, ended-more-long, lines-feed, long-feed, long-rest, lines-rest, long-long}

-- a line is kept with its line feed
pub kept-feed : (held more : List ℕ) → IsUnfinished held → kept_of (held ++ 10 ∷ more) ≡ held ++ 10 ∷ kept_of more
kept-feed held more u =
    ap (λ t. cond t (ended_bytes (ended_parts (parts_of (held ++ 10 ∷ more)))) (held ++ 10 ∷ more)) (long-feed held more u)
    ∙ ap (λ parts. cond (has_long_line more) (ended_bytes parts) (held ++ 10 ∷ more)) (ended-feed held more u)
    ∙ elim (has_long_line more) as
    (λ t. cond t (held ++ 10 ∷ ended_bytes (ended_parts (parts_of more))) (held ++ 10 ∷ more)
    ≡ held ++ 10 ∷ cond t (ended_bytes (ended_parts (parts_of more))) more) [ true ↦ refl | false ↦ refl ]

pub kept-rest : (held : List ℕ) → IsUnfinished held → kept_of held ≡ held
kept-rest held u = ap (λ t. cond t (ended_bytes (ended_parts (parts_of held))) held) (long-rest held u)

pub kept-long : (held more : List ℕ) → HasNoFeed held → 255 < length held → kept_of (held ++ more) ≡ []
kept-long held more h e =
    ap (λ t. cond t (ended_bytes (ended_parts (parts_of (held ++ more)))) (held ++ more)) (long-long held more h e)
    ∙ ap ended_bytes (ended-more-long held more h e)

pub whole-none : IsWhole []
whole-none = record { lines = λ more. refl; long = λ more. refl; kept = λ more. refl }

-- a whole line
pub whole-line : (held : List ℕ) → IsUnfinished held → IsWhole (held ++ 10 ∷ [])
whole-line held u = record {
  lines = λ more. ap lines_of (append_assoc held (10 ∷ []) more) ∙ lines-feed held more u
      ∙ sym (ap (λ xs. xs ++ lines_of more) (lines-feed held [] u));
  long = λ more. ap has_long_line (append_assoc held (10 ∷ []) more) ∙ long-feed held more u;
  kept = λ more. ap kept_of (append_assoc held (10 ∷ []) more) ∙ kept-feed held more u
      ∙ sym (append_assoc held (10 ∷ []) (kept_of more));
}

-- whole lines after whole lines
pub whole-append : (a b : List ℕ) → IsWhole a → IsWhole b → IsWhole (a ++ b)
whole-append a b v w = record {
  lines = λ more. ap lines_of (append_assoc a b more) ∙ v.lines (b ++ more) ∙ ap (λ xs. lines_of a ++ xs) (w.lines more)
      ∙ sym (append_assoc (lines_of a) (lines_of b) (lines_of more)) ∙ ap (λ xs. xs ++ lines_of more) (sym (v.lines b));
  long = λ more. ap has_long_line (append_assoc a b more) ∙ v.long (b ++ more) ∙ w.long more;
  kept = λ more. ap kept_of (append_assoc a b more) ∙ v.kept (b ++ more) ∙ ap (λ xs. a ++ xs) (w.kept more)
      ∙ sym (append_assoc a b (kept_of more));
}

-- What was taken of bytes that follow what had come of a line.
pub record HasTaken (whole came piece now rest more : List ℕ) : Type 0 where
  pub added : List ℕ
  pub items : now ≡ whole ++ added
  pub lines : IsWhole added
  pub unfinished : IsUnfinished rest
  pub same : came ++ piece ≡ added ++ (rest ++ more)

pub unfinished-none : IsUnfinished []
unfinished-none = record { no_feed = All-nil (λ b. is_feed b ≡ false); short = omega arith }

-- one line more
pub taken-line : (whole came piece now rest more part after held next : List ℕ) → HasTaken whole came piece now rest more →
    more ≡ part ++ 10 ∷ after → held ≡ rest ++ part → IsUnfinished held → next ≡ now ++ (held ++ 10 ∷ []) →
    HasTaken whole came piece next [] after
taken-line whole came piece now rest more part after held next h split is u e = record {
  added = h.added ++ (held ++ 10 ∷ []);
  items = e ∙ ap (λ xs. xs ++ (held ++ 10 ∷ [])) h.items ∙ append_assoc whole h.added (held ++ 10 ∷ []);
  lines = whole-append h.added (held ++ 10 ∷ []) h.lines (whole-line held u);
  unfinished = unfinished-none;
  same = h.same ∙ ap (λ xs. h.added ++ (rest ++ xs)) split
      ∙ ap (λ xs. h.added ++ xs) (sym (append_assoc rest part (10 ∷ after)) ∙ ap (λ xs. xs ++ 10 ∷ after) (sym is)
      ∙ sym (append_assoc held (10 ∷ []) after)) ∙ sym (append_assoc h.added (held ++ 10 ∷ []) after);
}

abbrev pub IsTaken : List ℕ → List ℕ → List ℕ → List ℕ → List ℕ → Bool → Type 0
IsTaken whole came piece now rest is_long =
    (added : List ℕ) × (now ≡ whole ++ added) × IsCut (came ++ piece) added rest is_long

-- the rest has no line feed
pub taken-rest : (whole came piece now rest more held : List ℕ) → HasTaken whole came piece now rest more →
    held ≡ rest ++ more → IsUnfinished held → IsTaken whole came piece now held false
taken-rest whole came piece now rest more held h is u =
    let same : came ++ piece ≡ h.added ++ held = h.same ∙ ap (λ xs. h.added ++ xs) (sym is) in (
      h.added,
      h.items,
      record {
        whole = h.lines;
        unfinished = u;
        kept = ap kept_of same ∙ h.lines.kept held ∙ ap (λ xs. h.added ++ xs) (kept-rest held u);
        long = ap has_long_line same ∙ h.lines.long held ∙ long-rest held u;
        nothing = λ e. absurd (let bad : false ≡ true = e in cc);
      },
    )

-- a line is too long
pub taken-long : (whole came piece now rest more part after held : List ℕ) → HasTaken whole came piece now rest more →
    more ≡ part ++ after → HasNoFeed part → 255 < length rest + length part → held ≡ [] → IsUnfinished held →
    IsTaken whole came piece now held true
taken-long whole came piece now rest more part after held h split no_feed long nothing u =
    let same : came ++ piece ≡ h.added ++ ((rest ++ part) ++ after) = h.same
    ∙ ap (λ xs. h.added ++ (rest ++ xs)) split ∙ ap (λ xs. h.added ++ xs) (sym (append_assoc rest part after)) in
    let free : HasNoFeed (rest ++ part) = All-append (λ b. is_feed b ≡ false) rest part h.unfinished.no_feed no_feed in
    let longer : 255 < length (rest ++ part) = omega (arith, length-append rest part) in (
      h.added,
      h.items,
      record {
        whole = h.lines;
        unfinished = u;
        kept = ap kept_of same ∙ h.lines.kept ((rest ++ part) ++ after)
            ∙ ap (λ xs. h.added ++ xs) (kept-long (rest ++ part) after free longer ∙ sym nothing);
        long = ap has_long_line same ∙ h.lines.long ((rest ++ part) ++ after) ∙ long-long (rest ++ part) after free longer;
        nothing = λ _. nothing;
      },
    )

-- ---- the oldest line

pub first-line : (bytes part after : List ℕ) → bytes ≡ part ++ 10 ∷ after → HasNoFeed part → length part ≤ 255 →
    IsFirstLine bytes (strip_last 13 part) after
first-line bytes part after e h l =
    let u : IsUnfinished part = record { no_feed = h; short = l } in
    record { part = part; unfinished = u; stripped = refl; cut = e; lines = ap lines_of e ∙ lines-feed part after u }

-- a line before whole lines is not too long
pub whole-short : (held more : List ℕ) → IsWhole (held ++ 10 ∷ more) → HasNoFeed held → length held ≤ 255
whole-short held more w h =
    let short : has_long_line ((held ++ 10 ∷ more) ++ []) ≡ false = w.long [] in
    let longer : 255 < length held → ⊥ = λ l. (let long : has_long_line (held ++ ((10 ∷ more) ++ [])) ≡ true =
    long-long held ((10 ∷ more) ++ []) h l in
    let bad : false ≡ true = sym short ∙ ap has_long_line (append_assoc held (10 ∷ more) []) ∙ long in cc) in
    elim (cases_lt 255 (length held)) [ inl l ↦ absurd (longer l) | inr l ↦ l ]

-- whole lines without the first are whole lines
pub whole-after : (held more : List ℕ) → IsWhole (held ++ 10 ∷ more) → HasNoFeed held → IsWhole more
whole-after held more w h =
    let u : IsUnfinished held = record { no_feed = h; short = whole-short held more w h } in
    record {
      lines = λ next. (let a : lines_of ((held ++ 10 ∷ more) ++ next) ≡ lines_of (held ++ 10 ∷ more) ++ lines_of next =
          w.lines next in
          let b : lines_of ((held ++ 10 ∷ more) ++ next) ≡ strip_last 13 held ∷ lines_of (more ++ next) =
          ap lines_of (append_assoc held (10 ∷ more) next) ∙ lines-feed held (more ++ next) u in
          let e : strip_last 13 held ∷ lines_of (more ++ next) ≡ strip_last 13 held ∷ (lines_of more ++ lines_of next) =
          sym b ∙ a ∙ ap (λ xs. xs ++ lines_of next) (lines-feed held more u) in
          cc);
      long = λ next. sym (long-feed held (more ++ next) u)
          ∙ ap has_long_line (sym (append_assoc held (10 ∷ more) next)) ∙ w.long next;
      kept = λ next. (let e : held ++ 10 ∷ kept_of (more ++ next) ≡ held ++ 10 ∷ (more ++ kept_of next) =
          sym (kept-feed held (more ++ next) u) ∙ ap kept_of (sym (append_assoc held (10 ∷ more) next)) ∙ w.kept next
          ∙ append_assoc held (10 ∷ more) (kept_of next) in
          let same : 10 ∷ kept_of (more ++ next) ≡ 10 ∷ (more ++ kept_of next) =
          append_cancel_left held (10 ∷ kept_of (more ++ next)) (10 ∷ (more ++ kept_of next)) e in
          cc);
    }

-- the rest after whole lines is no line
pub lines-rest_after : (whole rest : List ℕ) → IsWhole whole → IsUnfinished rest → lines_of (whole ++ rest) ≡ lines_of whole
lines-rest_after whole rest w u =
    w.lines rest ∙ ap (λ xs. lines_of whole ++ xs) (lines-rest rest u) ∙ append-nil (lines_of whole)

pub lines-no_feed : (bytes : List ℕ) → HasNoFeed bytes → lines_of bytes ≡ []
lines-no_feed bytes h = ap (λ parts. map (strip_last 13) (ended_parts parts)) (slice_split_none is_feed bytes h)

-- ---- how the bytes are held

-- the bytes after a line, and where they begin
after-line : (part after : List ℕ) → drop (length part + 1) (part ++ 10 ∷ after) ≡ after
after-line part after =
    ap (λ n. drop n (part ++ 10 ∷ after)) (sym (length-append part (10 ∷ [])))
    ∙ ap (λ xs. drop (length (part ++ 10 ∷ [])) xs) (sym (append_assoc part (10 ∷ []) after))
    ∙ drop-append_seam (part ++ 10 ∷ []) after

pub drop-line : (bytes part after : List ℕ) (count : ℕ) → drop count bytes ≡ part ++ 10 ∷ after →
    drop (count + (length part + 1)) bytes ≡ after
drop-line bytes part after count e =
    sym (drop-drop (length part + 1) count bytes) ∙ ap (drop (length part + 1)) e ∙ after-line part after

pub line-within : (bytes part after : List ℕ) (count : ℕ) → drop count bytes ≡ part ++ 10 ∷ after →
    count + (length part + 1) ≤ length bytes
line-within bytes part after count e =
    let l : length bytes - count ≡ length part + (1 + length after) =
    sym (length-drop count bytes) ∙ ap length e ∙ length-append part (10 ∷ after) ∙ omega arith in
    omega arith

-- without the oldest line, of which the bytes may have been given up
pub holding-after : (bytes part after rest now : List ℕ) (count left : ℕ) (is_long : Bool) →
    IsHolding bytes count rest is_long → drop count bytes ≡ part ++ 10 ∷ after → HasNoFeed part →
    drop left now ≡ drop (count + (length part + 1)) bytes → left + left ≤ length now → IsHolding now left rest is_long
holding-after bytes part after rest now count left is_long h e f kept half = record {
  half = half;
  whole = subst IsWhole (sym (kept ∙ drop-line bytes part after count e))
      (whole-after part after (subst IsWhole e h.whole) f);
  unfinished = h.unfinished;
  nothing = h.nothing;
}

abbrev pub TakesLine : List ℕ → List ℕ → Type 0
TakesLine bytes more = (line : List ℕ) × IsFirstLine bytes line more

pub takes-line : (bytes part after rest now : List ℕ) (count left : ℕ) (is_long : Bool) →
    IsHolding bytes count rest is_long → drop count bytes ≡ part ++ 10 ∷ after → HasNoFeed part →
    drop left now ≡ drop (count + (length part + 1)) bytes → TakesLine (drop count bytes ++ rest) (drop left now ++ rest)
takes-line bytes part after rest now count left is_long h e f kept = (
  strip_last 13 part,
  first-line (drop count bytes ++ rest) part (drop left now ++ rest)
      (ap (λ xs. xs ++ rest) e ∙ append_assoc part (10 ∷ after) rest
      ∙ ap (λ xs. part ++ 10 ∷ (xs ++ rest)) (sym (kept ∙ drop-line bytes part after count e)))
      f (whole-short part after (subst IsWhole e h.whole) f),
)

-- no line waits where no line feed is held
pub takes-none : (bytes rest : List ℕ) (count : ℕ) (is_long : Bool) → IsHolding bytes count rest is_long →
    HasNoFeed (drop count bytes) → 0 < length (lines_of (drop count bytes ++ rest)) → ⊥
takes-none bytes rest count is_long h f l =
    let e : length (lines_of (drop count bytes ++ rest)) ≡ 0 =
    ap length (lines-rest_after (drop count bytes) rest h.whole h.unfinished ∙ lines-no_feed (drop count bytes) f) in
    omega arith

within-half : (count : ℕ) (bytes : List ℕ) → count + count ≤ length bytes → count ≤ length bytes
within-half count bytes half = omega arith

-- what is held after more bytes
pub holding-more : (bytes piece rest now left : List ℕ) (count : ℕ) (was is_long : Bool) → IsHolding bytes count rest was →
    IsTaken bytes rest piece now left is_long → IsHolding now count left is_long
holding-more bytes piece rest now left count was is_long h t =
    let cut = t.2 in
    let held : count + count ≤ length bytes = h.half in
    let same : drop count now ≡ drop count bytes ++ t.0 =
    ap (drop count) t.1 ∙ drop-append-le count bytes t.0 (within-half count bytes held) in
    record {
      half = (let l : length now ≡ length bytes + length t.0 = ap length t.1 ∙ length-append bytes t.0 in omega arith);
      whole = subst IsWhole (sym same) (whole-append (drop count bytes) t.0 h.whole cut.whole);
      unfinished = cut.unfinished;
      nothing = cut.nothing;
    }

pub held-more : (bytes piece rest now left : List ℕ) (count : ℕ) (was is_long : Bool) → IsHolding bytes count rest was →
    IsTaken bytes rest piece now left is_long →
    held_by now count left is_long ≡ heard_more (held_by bytes count rest was) piece
held-more bytes piece rest now left count was is_long h t =
    let cut = t.2 in
    let whole = drop count bytes in
    let same : drop count now ≡ whole ++ t.0 =
    ap (drop count) t.1 ∙ drop-append-le count bytes t.0 (within-half count bytes h.half) in
    let kept : drop count now ++ left ≡ kept_of ((whole ++ rest) ++ piece) =
    ap (λ xs. xs ++ left) same ∙ append_assoc whole t.0 left ∙ ap (λ xs. whole ++ xs) (sym cut.kept)
    ∙ sym (h.whole.kept (rest ++ piece)) ∙ ap kept_of (sym (append_assoc whole rest piece)) in
    let long : is_long ≡ has_long_line ((whole ++ rest) ++ piece) =
    sym cut.long ∙ sym (h.whole.long (rest ++ piece)) ∙ ap has_long_line (sym (append_assoc whole rest piece)) in
    ap (λ xs. heard xs is_long) kept ∙ ap (heard (kept_of ((whole ++ rest) ++ piece))) long
