-- Each input is whole lines and what comes after them, which more bytes may follow.
use Rattle.std.proofs.Common.{◌≡◌, ℕ, ◌<◌, ◌+◌, true, false, ◌⊎◌, inl, inr, List, [], ◌∷◌, ◌++◌, length, sym, refl, ap, ◌∙◌, subst, append_assoc, append-nil, arith, length-append}
use Rattle.std.specs.Prelude.{nat_lt}
use Rattle.std.proofs.lemmas.Bool.{false≢true, cases_Bool}
use Rattle.std.proofs.lemmas.Bool.Decides.{Decides-eqb, Decides-ltb}
use Rattle.std.proofs.lemmas.List.Elements.{All-append, All-cons, All-nil}
use Rattle.text_lines.specs.Lines.{is_feed, HasNoFeed, IsUnfinished, lines_of, has_long_line}
use Rattle.text_lines.specs.Heard.{IsWhole}
use Rattle.text_lines.proofs.LineLemmas.{lines-rest, long-rest}
use Rattle.text_lines.proofs.Wholes.{whole-none, whole-line, whole-append, unfinished-none}
use Rattle.text_lines.specs.Turns.{IsTooLong}
use Rattle.text_lines.proofs.Runs.{unfinished-more, too-long, too-long-more}

-- what comes after the whole lines: the front of a line, or a line that is too long
data After (rest : List ℕ) : Type 0 where
  After_unfinished : IsUnfinished rest → After rest
  After_long : IsTooLong rest → After rest

record Cut (input : List ℕ) : Type 0 where
  whole : List ℕ
  is : IsWhole whole
  rest : List ℕ
  after : After rest
  cut : input ≡ whole ++ rest

no_feed-one : (b : ℕ) → is_feed b ≡ false → HasNoFeed (b ∷ [])
no_feed-one b f = All-cons (λ x. is_feed x ≡ false) b [] f (All-nil (λ x. is_feed x ≡ false))

no_feed-more : (held : List ℕ) (b : ℕ) → IsUnfinished held → is_feed b ≡ false → HasNoFeed (held ++ b ∷ [])
no_feed-more held b u f = All-append (λ x. is_feed x ≡ false) held (b ∷ []) u.no_feed (no_feed-one b f)

-- a byte that is no line feed, behind the front of a line
byte-more : (held : List ℕ) (b : ℕ) → IsUnfinished held → is_feed b ≡ false →
    IsUnfinished (held ++ b ∷ []) ⊎ IsTooLong (held ++ b ∷ [])
byte-more held b u f = elim (cases_Bool (nat_lt (length held) 255)) [
  | inl t ↦ inl (unfinished-more held (b ∷ []) u (no_feed-one b f)
      (let l : length held < 255 = (Decides-ltb (length held) 255).0 t in omega (arith, l)))
  | inr e ↦ inr (too-long (held ++ b ∷ []) (no_feed-more held b u f)
      (let l : ¬ (length held < 255) = λ h. false≢true (sym e ∙ (Decides-ltb (length held) 255).1 h) in
      omega (arith, l, length-append held (b ∷ []))))
]

-- one line, and what comes after it
cut-line : (held bytes : List ℕ) (b : ℕ) → IsUnfinished held → b ≡ 10 → Cut bytes → Cut (held ++ b ∷ bytes)
cut-line held bytes b u feed h = record {
  whole = (held ++ 10 ∷ []) ++ h.whole;
  is = whole-append (held ++ 10 ∷ []) h.whole (whole-line held u) h.is;
  rest = h.rest;
  after = h.after;
  cut = ap (λ (x : ℕ). held ++ x ∷ bytes) feed ∙ ap (λ (x : List ℕ). held ++ 10 ∷ x) h.cut
      ∙ sym (append_assoc held (10 ∷ []) (h.whole ++ h.rest))
      ∙ sym (append_assoc (held ++ 10 ∷ []) h.whole h.rest);
}

cut-on : (held bytes : List ℕ) → IsUnfinished held → Cut (held ++ bytes)
cut-on held [] u = record {
  whole = [];
  is = whole-none;
  rest = held;
  after = After_unfinished u;
  cut = append-nil held;
}
cut-on held (b ∷ bytes) u = elim (cases_Bool (is_feed b)) [
  | inl t ↦ cut-line held bytes b u ((Decides-eqb b 10).0 t) (cut-on [] bytes unfinished-none)
  | inr f ↦ elim (byte-more held b u f) [
    | inl more ↦ subst Cut (append_assoc held (b ∷ []) bytes) (cut-on (held ++ b ∷ []) bytes more)
    | inr long ↦ record {
      whole = [];
      is = whole-none;
      rest = held ++ b ∷ bytes;
      after = After_long (subst IsTooLong (append_assoc held (b ∷ []) bytes)
          (too-long-more (held ++ b ∷ []) bytes long));
      cut = refl;
    }
  ]
]

-- More bytes bring more lines, but none where a line was too long.
pub record BringsLines (input more : List ℕ) : Type 0 where
  pub left : List (List ℕ)
  pub lines : lines_of (input ++ more) ≡ lines_of input ++ left
  pub none : has_long_line input ≡ true → left ≡ []
  pub long : has_long_line input ≡ true → has_long_line (input ++ more) ≡ true

brings-after : (input more whole rest : List ℕ) → IsWhole whole → After rest → input ≡ whole ++ rest →
    BringsLines input more
brings-after input more whole rest w (After_unfinished u) cut =
    let whole_cut : input ++ more ≡ whole ++ (rest ++ more) = ap (λ (x : List ℕ). x ++ more) cut
    ∙ append_assoc whole rest more in
    let short : has_long_line input ≡ false = ap has_long_line cut ∙ w.long rest ∙ long-rest rest u in
    record {
      left = lines_of (rest ++ more);
      lines = ap lines_of whole_cut ∙ w.lines (rest ++ more)
          ∙ ap (λ (x : List (List ℕ)). x ++ lines_of (rest ++ more))
          (sym (ap lines_of cut ∙ w.lines rest ∙ ap (λ (x : List (List ℕ)). lines_of whole ++ x) (lines-rest rest u)
          ∙ append-nil (lines_of whole)));
      none = λ h. absurd (false≢true (sym short ∙ h));
      long = λ h. absurd (false≢true (sym short ∙ h));
    }
brings-after input more whole rest w (After_long l) cut =
    let whole_cut : input ++ more ≡ whole ++ (rest ++ more) = ap (λ (x : List ℕ). x ++ more) cut
    ∙ append_assoc whole rest more in
    let none : lines_of rest ≡ [] = ap lines_of (sym (append-nil rest)) ∙ l.none [] in
    record {
      left = [];
      lines = ap lines_of whole_cut ∙ w.lines (rest ++ more)
          ∙ ap (λ (x : List (List ℕ)). lines_of whole ++ x) (l.none more ∙ sym none)
          ∙ sym (w.lines rest) ∙ ap lines_of (sym cut) ∙ sym (append-nil (lines_of input));
      none = λ h. refl;
      long = λ h. ap has_long_line whole_cut ∙ w.long (rest ++ more) ∙ l.long more;
    }

pub brings : (input more : List ℕ) → BringsLines input more
unfolding cut-on
brings input more = let h = cut-on [] input unfinished-none in
    brings-after input more h.whole h.rest h.is h.after h.cut
