-- The first line of an input.
use Rattle.std.proofs.Common.{◌≡◌, ℕ, ◌<◌, ◌≤◌, true, false, List, [], ◌∷◌, ◌++◌, length, map, refl, ap, ◌∙◌, arith, length-append}
use Rattle.std.specs.Prelude.{◌||◌, cond}
use Rattle.std.specs.List.{slice_split, onto_first, list_any}
use Rattle.std.specs.Io.BufRead.{strip_last}
use Rattle.std.proofs.lemmas.List.Elements.{All-head, All-tail}
use Rattle.std.proofs.lemmas.List.Splits.{slice_split-cons_no, slice_split_none, slice_split_at}
use Rattle.std.proofs.lemmas.Bool.Decides.{nat_tests}
use Rattle.text_lines.specs.Lines.{is_feed, HasNoFeed, parts_of, is_too_long, ended_parts, lines_of, has_long_line, IsUnfinished}

-- the first part of an input, and the other parts
pub record HasFirst (parts : List (List ℕ)) : Type 0 where
  pub first : List ℕ
  pub others : List (List ℕ)
  pub are : parts ≡ first ∷ others

onto_has_first : (b : ℕ) (parts : List (List ℕ)) → HasFirst (onto_first b parts)
onto_has_first b [] = record { first = b ∷ []; others = []; are = refl }
onto_has_first b (part ∷ parts) = record { first = b ∷ part; others = parts; are = refl }

pub parts_have_first : (input : List ℕ) → HasFirst (parts_of input)
parts_have_first [] = record { first = []; others = []; are = refl }
parts_have_first (b ∷ bytes) =
    elim (is_feed b) as
    (λ t. HasFirst (cond t ([] ∷ slice_split is_feed bytes) (onto_first b (slice_split is_feed bytes)))) [
      | true ↦ record { first = []; others = parts_of bytes; are = refl }
      | false ↦ onto_has_first b (parts_of bytes)
    ]

-- a part that a line feed ends, before parts of which there is one at least
ended-more : (part : List ℕ) (parts : List (List ℕ)) → HasFirst parts → is_too_long part ≡ false →
    ended_parts (part ∷ parts) ≡ part ∷ ended_parts parts
ended-more part [] h e = absurd (let bad : [] ≡ h.first ∷ h.others = h.are in cc bad)
ended-more part (next ∷ parts) h e = rw e refl

fits : (held : List ℕ) → length held ≤ 255 → is_too_long held ≡ false
fits held h = grind (arith, nat_tests)

pub ended-feed : (held more : List ℕ) → IsUnfinished held →
    ended_parts (parts_of (held ++ 10 ∷ more)) ≡ held ∷ ended_parts (parts_of more)
ended-feed held more u =
    ap ended_parts (slice_split_at is_feed held 10 more u.no_feed refl)
    ∙ ended-more held (parts_of more) (parts_have_first more) (fits held u.short)

-- a line feed after bytes without one ends the first line
pub lines-feed : (held more : List ℕ) → IsUnfinished held →
    lines_of (held ++ 10 ∷ more) ≡ strip_last 13 held ∷ lines_of more
lines-feed held more u = ap (map (strip_last 13)) (ended-feed held more u)

pub long-feed : (held more : List ℕ) → IsUnfinished held → has_long_line (held ++ 10 ∷ more) ≡ has_long_line more
long-feed held more u =
    ap (list_any is_too_long) (slice_split_at is_feed held 10 more u.no_feed refl)
    ∙ ap (λ t. t || has_long_line more) (fits held u.short)

-- a rest is no line
pub lines-rest : (held : List ℕ) → IsUnfinished held → lines_of held ≡ []
lines-rest held u = ap (λ parts. map (strip_last 13) (ended_parts parts)) (slice_split_none is_feed held u.no_feed)

pub long-rest : (held : List ℕ) → IsUnfinished held → has_long_line held ≡ false
long-rest held u = ap (list_any is_too_long) (slice_split_none is_feed held u.no_feed)
    ∙ ap (λ t. t || false) (fits held u.short)

-- bytes without a line feed are the front of the first part
pub record BeginsFirst (held : List ℕ) (parts : List (List ℕ)) : Type 0 where
  pub tail : List ℕ
  pub others : List (List ℕ)
  pub are : parts ≡ (held ++ tail) ∷ others

pub begins_first : (held more : List ℕ) → HasNoFeed held →
    BeginsFirst held (parts_of (held ++ more))
begins_first [] more h = let first = parts_have_first more in record
    { tail = first.first; others = first.others; are = first.are }
begins_first (b ∷ held) more h =
    let rest = begins_first held more (All-tail (λ b. is_feed b ≡ false) b held h) in
    record {
      tail = rest.tail;
      others = rest.others;
      are = slice_split-cons_no is_feed b (held ++ more) (All-head (λ b. is_feed b ≡ false) b held h)
          ∙ ap (onto_first b) rest.are;
    }

ended-long : (part : List ℕ) (parts : List (List ℕ)) → is_too_long part ≡ true → ended_parts (part ∷ parts) ≡ []
ended-long part [] e = refl
ended-long part (next ∷ parts) e = rw e refl

longer : (held tail : List ℕ) → 255 < length held → is_too_long (held ++ tail) ≡ true
longer held tail e = let l = length-append held tail in grind (arith, nat_tests, length-append)

pub ended-more-long : (held more : List ℕ) → HasNoFeed held → 255 < length held →
    ended_parts (parts_of (held ++ more)) ≡ []
ended-more-long held more h e =
    let first = begins_first held more h in
    ap ended_parts first.are ∙ ended-long (held ++ first.tail) first.others (longer held first.tail e)

-- with more than 255 bytes without a line feed there are no more lines
pub lines-long : (held more : List ℕ) → HasNoFeed held → 255 < length held →
    lines_of (held ++ more) ≡ []
lines-long held more h e = ap (map (strip_last 13)) (ended-more-long held more h e)

pub long-long : (held more : List ℕ) → HasNoFeed held → 255 < length held →
    has_long_line (held ++ more) ≡ true
long-long held more h e =
    let first = begins_first held more h in
    ap (list_any is_too_long) first.are ∙ ap (λ t. t || list_any is_too_long first.others) (longer held first.tail e)
