-- The first lines of longer answers are read as they were meant, and nothing else is read so.
use Rattle.std.proofs.Common.{ℕ, ◌≡◌, ◌<◌, ◌^◌, Bool, true, false, ◌&&◌, List, [], ◌∷◌, Option, Some, None, codes, decimal, refl, ap, ◌∙◌}
use Rattle.std.specs.Prelude.{if◌then◌else◌}
use Rattle.std.specs.Str.{bytes_eq}
use Rattle.std.proofs.lemmas.Option.{none-some, same_Some}
use Rattle.std.proofs.lemmas.Slice.Eq.{bytes_eq-Decides}
use Rattle.server_answers.specs.declared.heads.PgnHead.{PgnHead}
use Rattle.server_answers.specs.Fields.{first_fields, has_fields, line_of}
use Rattle.server_answers.specs.Values.{u32_in}
use Rattle.server_answers.specs.Heads.{list_line, pgn_line, IsPgnHead, list_by, list_in, pgn_with, pgn_by, pgn_in}
use Rattle.server_answers.proofs.Joined.{EachLacks, joined, has_joined, fields_joined}
use Rattle.server_answers.proofs.Spelled.{u32_only, u32_read, u32_lacks}
use Rattle.server_answers.proofs.Standing.{if_has, then_some}

record Words {A : Type 0} (one two first second : List ℕ) (o : Option A) (a : A) : Type 0 where
  one_is : one ≡ first
  two_is : two ≡ second
  rest : o ≡ Some a

words_at : {A : Type 0} (one two first second : List ℕ) (o : Option A) (a : A) (b c : Bool) → bytes_eq one first ≡ b → bytes_eq two second ≡ c →
    (if b && c then o else None) ≡ Some a → Words one two first second o a
words_at one two first second o a true true e f h =
    record { one_is = (bytes_eq-Decides one first).0 e; two_is = (bytes_eq-Decides two second).0 f; rest = h }
words_at one two first second o a true false e f h = absurd (none-some a h)
words_at one two first second o a false c e f h = absurd (none-some a h)

-- ---- `list`

list_lacks : (count : ℕ) → count < 2 ^ 32 → EachLacks (codes "ok" ∷ codes "list" ∷ decimal count ∷ [])
list_lacks count small = (refl, (refl, (u32_lacks count small, tt)))

pub list_read : (count : ℕ) → count < 2 ^ 32 → list_in (list_line count) ≡ Some count
unfolding list_in
list_read count small =
    let lack = list_lacks count small in
    let rest = codes "list" ∷ decimal count ∷ [] in
    if_has (has_fields 3 (list_line count)) (list_by (first_fields 3 (list_line count))) (has_joined (codes "ok") rest lack)
    ∙ (ap list_by (fields_joined (codes "ok") rest lack) ∙ u32_read count small)

list_by_only : (ok list count : List ℕ) (n : ℕ) → list_by (ok ∷ list ∷ count ∷ []) ≡ Some n →
    (line_of (ok ∷ list ∷ count ∷ []) ≡ list_line n) × (n < 2 ^ 32)
list_by_only ok list count n h =
    let words = words_at ok list (codes "ok") (codes "list") (u32_in count) n (bytes_eq ok (codes "ok")) (bytes_eq list (codes "list")) refl refl h in
    let number = u32_only count n words.rest in
    (rw words.one_is (rw words.two_is (rw number.spelled refl)), number.small)

pub list_only : (line : List ℕ) (n : ℕ) → list_in line ≡ Some n → (line ≡ list_line n) × (n < 2 ^ 32)
unfolding list_in
list_only line n h =
    let is = then_some (has_fields 3 line) (list_by (first_fields 3 line)) n h in
    let only = list_by_only _ _ _ n is.1 in
    (joined 2 line is.0 ∙ only.0, only.1)

-- ---- `pgn`

pgn_lacks : (head : PgnHead) → IsPgnHead head → EachLacks (codes "ok" ∷ codes "pgn" ∷ decimal head.game ∷ decimal head.lines ∷ [])
pgn_lacks head is = (refl, (refl, (u32_lacks head.game is.game, (u32_lacks head.lines is.lines, tt))))

pub pgn_read : (head : PgnHead) → IsPgnHead head → pgn_in (pgn_line head) ≡ Some head
unfolding pgn_in
pgn_read head is =
    let lack = pgn_lacks head is in
    let rest = codes "pgn" ∷ decimal head.game ∷ decimal head.lines ∷ [] in
    if_has (has_fields 4 (pgn_line head)) (pgn_by (first_fields 4 (pgn_line head))) (has_joined (codes "ok") rest lack)
    ∙ (ap pgn_by (fields_joined (codes "ok") rest lack)
    ∙ (ap (λ (o : Option ℕ). pgn_with o (u32_in (decimal head.lines))) (u32_read head.game is.game)
    ∙ ap (pgn_with (Some head.game)) (u32_read head.lines is.lines)))

pgn_at : (ok pgn game count : List ℕ) (g k : Option ℕ) (head : PgnHead) → ok ≡ codes "ok" → pgn ≡ codes "pgn" → u32_in game ≡ g →
    u32_in count ≡ k → pgn_with g k ≡ Some head →
    (line_of (ok ∷ pgn ∷ game ∷ count ∷ []) ≡ pgn_line head) × IsPgnHead head
pgn_at ok pgn game count None k head e f i j h = absurd (none-some head h)
pgn_at ok pgn game count (Some g) None head e f i j h = absurd (none-some head h)
pgn_at ok pgn game count (Some g) (Some k) head e f i j h =
    let same = same_Some _ head h in
    let number = u32_only game head.game (i ∙ ap (λ (t : PgnHead). Some t.game) same) in
    let lines = u32_only count head.lines (j ∙ ap (λ (t : PgnHead). Some t.lines) same) in
    (rw e (rw f (rw number.spelled (rw lines.spelled refl))), record { game = number.small; lines = lines.small })

pgn_by_only : (ok pgn game count : List ℕ) (head : PgnHead) → pgn_by (ok ∷ pgn ∷ game ∷ count ∷ []) ≡ Some head →
    (line_of (ok ∷ pgn ∷ game ∷ count ∷ []) ≡ pgn_line head) × IsPgnHead head
pgn_by_only ok pgn game count head h =
    let words = words_at ok pgn (codes "ok") (codes "pgn") (pgn_with (u32_in game) (u32_in count)) head
    (bytes_eq ok (codes "ok")) (bytes_eq pgn (codes "pgn")) refl refl h in
    pgn_at ok pgn game count (u32_in game) (u32_in count) head words.one_is words.two_is refl refl words.rest

pub pgn_only : (line : List ℕ) (head : PgnHead) → pgn_in line ≡ Some head → (line ≡ pgn_line head) × IsPgnHead head
unfolding pgn_in
pgn_only line head h =
    let is = then_some (has_fields 4 line) (pgn_by (first_fields 4 line)) head h in
    let only = pgn_by_only _ _ _ _ head is.1 in
    (joined 3 line is.0 ∙ only.0, only.1)
