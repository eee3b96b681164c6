-- The last line of a text is that of what stands behind its first line.
use Rattle.std.proofs.Common.{◌≡◌, ◌+◌, ◌≤◌, inl, inr, ℕ, Bool, true, false, List, [], ◌∷◌, length, take, drop, refl, add-one, arith, subst, sym, ap, ◌∙◌}
use Rattle.std.specs.Prelude.{◌==◌, not, if◌then◌else◌}
use Rattle.std.specs.List.{before_first, position_or_len, prefix_len}
use Rattle.std.proofs.Math.Seq.{take-length}
use Rattle.std.proofs.lemmas.Bool.{cases_Bool, false≢true}
use Rattle.std.proofs.lemmas.List.{drop_all}
use Rattle.text_lines.specs.Lines.{is_feed}
use Rattle.lobby_talk.specs.Making.{last_line, lines_behind}

abbrev is_none : List ℕ → Bool
is_none xs = length xs == 0

-- where no line stands behind the first one
pub last_line_first : (s : List ℕ) → (length (lines_behind s) == 0) ≡ true → last_line s ≡ before_first is_feed s
unfolding last_line
last_line_first [] none = refl
last_line_first (b ∷ bs) none =
    ap (λ (t : Bool). if t then before_first is_feed (b ∷ bs) else last_line bs) none

-- what stands behind the first line, byte by byte
behind_cons : (b : ℕ) (bs : List ℕ) (t : Bool) → (b == 10) ≡ t → lines_behind (b ∷ bs) ≡ (if t then bs else lines_behind bs)
behind_cons b bs true e =
    ap (λ (u : Bool). drop ((if not u then 1 + prefix_len (λ x. not (is_feed x)) bs else 0) + 1) (b ∷ bs)) e
behind_cons b bs false e =
    let k = prefix_len (λ x. not (is_feed x)) bs in
    let same : 1 + k ≡ k + 1 = omega arith in
    ap (λ (u : Bool). drop ((if not u then 1 + k else 0) + 1) (b ∷ bs)) e
    ∙ (ap (λ (n : ℕ). drop n (b ∷ bs)) (add-one (1 + k)) ∙ ap (λ (n : ℕ). drop n bs) same)

-- where one does
pub last_line_behind : (s : List ℕ) → (length (lines_behind s) == 0) ≡ false → last_line s ≡ last_line (lines_behind s)
unfolding last_line
last_line_behind [] some = absurd (false≢true (sym some))
last_line_behind (b ∷ bs) some =
    let begins : last_line (b ∷ bs) ≡ last_line bs =
    ap (λ (t : Bool). if t then before_first is_feed (b ∷ bs) else last_line bs) some in
    begins ∙ elim (cases_Bool (b == 10)) [
      | inl feed ↦ ap last_line (sym (behind_cons b bs true feed))
      | inr not ↦
          let behind : lines_behind (b ∷ bs) ≡ lines_behind bs = behind_cons b bs false not in
          last_line_behind bs (subst (λ (l : List ℕ). (length l == 0) ≡ false) behind some) ∙ ap last_line (sym behind)
    ]

-- a text without a line feed
pub last_line_whole : (s : List ℕ) → position_or_len is_feed s ≡ length s → last_line s ≡ s
last_line_whole s e =
    let none : lines_behind s ≡ [] =
    ap (λ (n : ℕ). drop (n + 1) s) e ∙ (let le : length s ≤ length s + 1 = omega arith in drop_all (length s + 1) s le) in
    last_line_first s (ap is_none none) ∙ (ap (λ (n : ℕ). take n s) e ∙ take-length s)
