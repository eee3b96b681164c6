-- Tokens stand in lines in one way, and one more token keeps them so.
use Rattle.std.proofs.Common.{◌≡◌, ◌≢◌, ℕ, true, ◌+◌, ◌<◌, ◌≤◌, List, [], ◌∷◌, ◌++◌, length, refl, ap, ◌∙◌, sym, subst, arith, append_assoc, append-nil, length-append}
use Rattle.std.proofs.lemmas.Bool.Decides.{nat_tests}
use Rattle.chess_text.specs.Movetext.{IsToken, is_token, line_text, IsFull, AreLines, tokens_of, lines_text, IsMovetext, joined_lines, last_width, IsUnderWay}

-- a line with one more token
line_text-more : (line : List (List ℕ)) (token : List ℕ) → line ≢ [] →
    line_text (line ++ (token ∷ [])) ≡ line_text line ++ (32 ∷ token)
line_text-more [] token filled = absurd (filled refl)
line_text-more (first ∷ []) token filled = refl
line_text-more (first ∷ next ∷ line) token filled =
    ap (λ t. first ++ (32 ∷ t)) (line_text-more (next ∷ line) token (λ e. cc))
    ∙ sym (append_assoc first (32 ∷ line_text (next ∷ line)) (32 ∷ token))

length-line_text-more : (line : List (List ℕ)) (token : List ℕ) → line ≢ [] →
    length (line_text (line ++ (token ∷ []))) ≡ length (line_text line) + 1 + length token
length-line_text-more line token filled =
    ap length (line_text-more line token filled) ∙ (length-append (line_text line) (32 ∷ token) ∙ omega arith)

-- a line is no shorter with more tokens
line_text-front : (line : List (List ℕ)) (token : List ℕ) (more : List (List ℕ)) →
    length (line_text (line ++ (token ∷ []))) ≤ length (line_text (line ++ (token ∷ more)))
line_text-front [] token [] = omega arith
line_text-front [] token (next ∷ more) = omega (arith, length-append token (32 ∷ line_text (next ∷ more)))
line_text-front (first ∷ []) token more =
    let shorter = line_text-front [] token more in
    omega (arith, length-append first (32 ∷ line_text (token ∷ [])), length-append first (32 ∷ line_text (token ∷ more)))
line_text-front (first ∷ next ∷ line) token more =
    let shorter = line_text-front (next ∷ line) token more in
    omega (
      arith,
      length-append first (32 ∷ line_text ((next ∷ line) ++ (token ∷ []))),
      length-append first (32 ∷ line_text ((next ∷ line) ++ (token ∷ more))),
    )

-- Two lines at the front of one list of tokens are the same, or one is the front of the other.
data Fronts (a b x y : List (List ℕ)) : Type 0 where
  same_front : a ≡ b → x ≡ y → Fronts a b x y
  longer : (token : List ℕ) (more : List (List ℕ)) → b ≡ a ++ (token ∷ more) → x ≡ token ∷ (more ++ y) → Fronts a b x y
  shorter : (token : List ℕ) (more : List (List ℕ)) → a ≡ b ++ (token ∷ more) → y ≡ token ∷ (more ++ x) → Fronts a b x y

fronts : (a b x y : List (List ℕ)) → a ++ x ≡ b ++ y → Fronts a b x y
fronts [] [] x y e = same_front refl e
fronts [] (t ∷ b) x y e = longer t b refl e
fronts (t ∷ a) [] x y e = shorter t a refl (sym e)
fronts (t ∷ a) (u ∷ b) x y e =
    let first : t ≡ u = cc in
    let rest : a ++ x ≡ b ++ y = cc in
    elim (fronts a b x y rest) [
      | same_front f r ↦ same_front (ap (λ h. h ∷ a) first ∙ ap (λ l. u ∷ l) f) r
      | longer token more f r ↦
          longer token more (ap (λ l. u ∷ l) f ∙ ap (λ h. h ∷ (a ++ (token ∷ more))) (sym first)) r
      | shorter token more f r ↦
          shorter token more (ap (λ l. t ∷ l) f ∙ ap (λ h. h ∷ (b ++ (token ∷ more))) first) r
    ]

-- a full line is not the front of a longer one
full_front : (a : List (List ℕ)) (lines : List (List (List ℕ))) (token : List ℕ) (more rest : List (List ℕ)) →
    AreLines lines → IsFull a lines → tokens_of lines ≡ token ∷ rest → length (line_text (a ++ (token ∷ more))) ≤ 79 → ⊥
full_front a [] token more rest laid full e short = absurd (cc)
full_front a ([] ∷ lines) token more rest laid full e short = elim full [ ]
full_front a ((first ∷ line) ∷ lines) token more rest laid full e short =
    let same : first ≡ token = cc in
    let front = line_text-front a token more in
    let full' = subst (λ t. 79 < length (line_text (a ++ (t ∷ [])))) same full in
    omega arith

pub lines_unique : (a b : List (List (List ℕ))) → AreLines a → AreLines b → tokens_of a ≡ tokens_of b → a ≡ b
lines_unique [] [] h k e = refl
lines_unique [] ([] ∷ b) h k e = absurd (k.0.filled refl)
lines_unique [] ((t ∷ line) ∷ b) h k e = absurd (cc)
lines_unique ([] ∷ a) [] h k e = absurd (h.0.filled refl)
lines_unique ((t ∷ line) ∷ a) [] h k e = absurd (cc)
lines_unique (x ∷ a) (y ∷ b) h k e = elim (fronts x y (tokens_of a) (tokens_of b) e) [
  | same_front first rest ↦
      ap (λ line. line ∷ a) first ∙ ap (λ lines. y ∷ lines) (lines_unique a b h.2 k.2 rest)
  | longer token more first rest ↦
      absurd (full_front x a token more (more ++ tokens_of b) h.2 h.1 rest
      (subst (λ line. length (line_text line) ≤ 79) first k.0.short))
  | shorter token more first rest ↦
      absurd (full_front y b token more (more ++ tokens_of a) k.2 k.1 rest
      (subst (λ line. length (line_text line) ≤ 79) first h.0.short))
]

-- a list of tokens has one movetext
pub IsMovetext-unique : (text other : List ℕ) (tokens : List (List ℕ)) → IsMovetext text tokens →
    IsMovetext other tokens → text ≡ other
IsMovetext-unique text other tokens h k =
    h.written ∙ (ap lines_text (lines_unique h.lines k.lines h.laid k.laid (h.same ∙ sym k.same)) ∙ sym k.written)

-- One more token in the last line.
extended : List (List (List ℕ)) → List ℕ → List (List (List ℕ))
extended [] token = []
extended (line ∷ []) token = (line ++ (token ∷ [])) ∷ []
extended (line ∷ next ∷ lines) token = line ∷ extended (next ∷ lines) token

extended-full : (line : List (List ℕ)) (next : List (List ℕ)) (lines : List (List (List ℕ))) (token : List ℕ) →
    IsFull line (next ∷ lines) → IsFull line (extended (next ∷ lines) token)
unfolding extended
extended-full line [] lines token full = elim full [ ]
extended-full line (first ∷ more) [] token full = full
extended-full line (first ∷ more) (other ∷ lines) token full = full

extended-laid : (lines : List (List (List ℕ))) (token : List ℕ) → AreLines lines →
    last_width lines + 1 + length token ≤ 79 → AreLines (extended lines token)
unfolding extended
extended-laid [] token laid fits = tt
extended-laid (line ∷ []) token laid fits = (
  record {
    filled = λ e. not_empty line token e;
    short = omega (arith, length-line_text-more line token laid.0.filled);
  },
  tt,
  tt,
)
  where
    not_empty : (line : List (List ℕ)) (token : List ℕ) → line ++ (token ∷ []) ≡ [] → ⊥
    not_empty [] token e = cc
    not_empty (first ∷ line) token e = cc
extended-laid (line ∷ next ∷ lines) token laid fits =
    (laid.0, extended-full line next lines token laid.1, extended-laid (next ∷ lines) token laid.2 fits)

extended-tokens : (line : List (List ℕ)) (lines : List (List (List ℕ))) (token : List ℕ) →
    tokens_of (extended (line ∷ lines) token) ≡ tokens_of (line ∷ lines) ++ (token ∷ [])
unfolding extended
extended-tokens line [] token = append-nil (line ++ (token ∷ [])) ∙ ap (λ l. l ++ (token ∷ [])) (sym (append-nil line))
extended-tokens line (next ∷ lines) token =
    ap (λ l. line ++ l) (extended-tokens next lines token) ∙ sym (append_assoc line (tokens_of (next ∷ lines)) (token ∷ []))

extended-text : (line : List (List ℕ)) (lines : List (List (List ℕ))) (token : List ℕ) → AreLines (line ∷ lines) →
    joined_lines (extended (line ∷ lines) token) ≡ joined_lines (line ∷ lines) ++ (32 ∷ token)
unfolding extended
extended-text line [] token laid = line_text-more line token laid.0.filled
extended-text line (next ∷ []) token laid =
    ap (λ t. line_text line ++ (10 ∷ t)) (extended-text next [] token laid.2)
    ∙ sym (append_assoc (line_text line) (10 ∷ joined_lines (next ∷ [])) (32 ∷ token))
extended-text line (next ∷ other ∷ lines) token laid =
    ap (λ t. line_text line ++ (10 ∷ t)) (extended-text next (other ∷ lines) token laid.2)
    ∙ sym (append_assoc (line_text line) (10 ∷ joined_lines (next ∷ other ∷ lines)) (32 ∷ token))

extended-width : (line : List (List ℕ)) (lines : List (List (List ℕ))) (token : List ℕ) → AreLines (line ∷ lines) →
    last_width (extended (line ∷ lines) token) ≡ last_width (line ∷ lines) + 1 + length token
unfolding extended
extended-width line [] token laid = length-line_text-more line token laid.0.filled
extended-width line (next ∷ []) token laid = extended-width next [] token laid.2
extended-width line (next ∷ other ∷ lines) token laid = extended-width next (other ∷ lines) token laid.2

-- One more token in a new line.
added : List (List (List ℕ)) → List ℕ → List (List (List ℕ))
added lines token = lines ++ ((token ∷ []) ∷ [])

added-laid : (lines : List (List (List ℕ))) (token : List ℕ) → AreLines lines → length token ≤ 79 →
    (lines ≢ [] → 79 < last_width lines + 1 + length token) → AreLines (added lines token)
unfolding added
added-laid [] token laid short full = (record { filled = λ e. cc; short = short }, tt, tt)
added-laid (line ∷ []) token laid short full = (
  laid.0,
  omega (arith, length-line_text-more line token laid.0.filled, full (λ e. cc)),
  (record { filled = λ e. cc; short = short }, tt, tt),
)
added-laid (line ∷ (first ∷ next) ∷ lines) token laid short full = (
  laid.0,
  laid.1,
  added-laid ((first ∷ next) ∷ lines) token laid.2 short (λ _. full (λ e. cc)),
)
added-laid (line ∷ [] ∷ lines) token laid short full = elim laid.1 [ ]

added-tokens : (lines : List (List (List ℕ))) (token : List ℕ) →
    tokens_of (added lines token) ≡ tokens_of lines ++ (token ∷ [])
unfolding added
added-tokens [] token = refl
added-tokens (line ∷ lines) token =
    ap (λ l. line ++ l) (added-tokens lines token) ∙ sym (append_assoc line (tokens_of lines) (token ∷ []))

added-text : (line : List (List ℕ)) (lines : List (List (List ℕ))) (token : List ℕ) →
    joined_lines (added (line ∷ lines) token) ≡ joined_lines (line ∷ lines) ++ (10 ∷ token)
unfolding added
added-text line [] token = refl
added-text line (next ∷ lines) token =
    ap (λ t. line_text line ++ (10 ∷ t)) (added-text next lines token)
    ∙ sym (append_assoc (line_text line) (10 ∷ joined_lines (next ∷ lines)) (10 ∷ token))

added-width : (lines : List (List (List ℕ))) (token : List ℕ) → last_width (added lines token) ≡ length token
unfolding added
added-width [] token = refl
added-width (line ∷ []) token = refl
added-width (line ∷ next ∷ lines) token = added-width (next ∷ lines) token

-- The three ways of a token.
pub first_token : (front : List ℕ) (tokens : List (List ℕ)) (text : List ℕ) (width : ℕ) (token : List ℕ) →
    IsUnderWay front tokens text width → width ≡ 0 → 0 < length token → length token ≤ 79 →
    IsUnderWay front (tokens ++ (token ∷ [])) (text ++ token) (length token)
first_token front tokens text width token h zero' filled short =
    let none : h.lines ≡ [] = h.none zero' in
    let old : tokens ≡ [] = sym h.same ∙ ap tokens_of none in
    record {
      lines = (token ∷ []) ∷ [];
      laid = (record { filled = λ e. cc; short = short }, tt, tt);
      same = ap (λ l. l ++ (token ∷ [])) (sym old);
      written = ap (λ t. t ++ token) (h.written ∙ (ap (λ l. front ++ joined_lines l) none ∙ append-nil front));
      last = refl;
      none = λ e. absurd (omega arith);
    }

pub same_line : (front : List ℕ) (tokens : List (List ℕ)) (text : List ℕ) (width : ℕ) (token : List ℕ) →
    IsUnderWay front tokens text width → width ≢ 0 → width + 1 + length token ≤ 79 →
    IsUnderWay front (tokens ++ (token ∷ [])) (text ++ (32 ∷ token)) (width + 1 + length token)
same_line front tokens text width token h some fits = go h.lines h.laid h.same h.written h.last
  where
    go : (lines : List (List (List ℕ))) → AreLines lines → tokens_of lines ≡ tokens →
        text ≡ front ++ joined_lines lines → width ≡ last_width lines →
        IsUnderWay front (tokens ++ (token ∷ [])) (text ++ (32 ∷ token)) (width + 1 + length token)
    go [] laid same written last = absurd (some last)
    go (line ∷ lines) laid same written last = record {
      lines = extended (line ∷ lines) token;
      laid = extended-laid (line ∷ lines) token laid (omega (arith, last));
      same = extended-tokens line lines token ∙ ap (λ l. l ++ (token ∷ [])) same;
      written = ap (λ t. t ++ (32 ∷ token)) written
          ∙ (append_assoc front (joined_lines (line ∷ lines)) (32 ∷ token)
          ∙ ap (λ t. front ++ t) (sym (extended-text line lines token laid)));
      last = ap (λ w. w + 1 + length token) last ∙ sym (extended-width line lines token laid);
      none = λ e. absurd (omega arith);
    }

pub next_line : (front : List ℕ) (tokens : List (List ℕ)) (text : List ℕ) (width : ℕ) (token : List ℕ) →
    IsUnderWay front tokens text width → width ≢ 0 → 79 < width + 1 + length token → 0 < length token →
    length token ≤ 79 →
    IsUnderWay front (tokens ++ (token ∷ [])) (text ++ (10 ∷ token)) (length token)
next_line front tokens text width token h some full filled short = go h.lines h.laid h.same h.written h.last
  where
    go : (lines : List (List (List ℕ))) → AreLines lines → tokens_of lines ≡ tokens →
        text ≡ front ++ joined_lines lines → width ≡ last_width lines →
        IsUnderWay front (tokens ++ (token ∷ [])) (text ++ (10 ∷ token)) (length token)
    go [] laid same written last = absurd (some last)
    go (line ∷ lines) laid same written last = record {
      lines = added (line ∷ lines) token;
      laid = added-laid (line ∷ lines) token laid short (λ _. omega (arith, last));
      same = added-tokens (line ∷ lines) token ∙ ap (λ l. l ++ (token ∷ [])) same;
      written = ap (λ t. t ++ (10 ∷ token)) written
          ∙ (append_assoc front (joined_lines (line ∷ lines)) (10 ∷ token)
          ∙ ap (λ t. front ++ t) (sym (added-text line lines token)));
      last = sym (added-width (line ∷ lines) token);
      none = λ e. absurd (omega arith);
    }

-- A line feed behind the last line ends the movetext.
lines_text-joined : (line : List (List ℕ)) (lines : List (List (List ℕ))) →
    lines_text (line ∷ lines) ≡ joined_lines (line ∷ lines) ++ (10 ∷ [])
lines_text-joined line [] = refl
lines_text-joined line (next ∷ lines) =
    ap (λ t. line_text line ++ (10 ∷ t)) (lines_text-joined next lines)
    ∙ sym (append_assoc (line_text line) (10 ∷ joined_lines (next ∷ lines)) (10 ∷ []))

pub record Ended (front : List ℕ) (tokens : List (List ℕ)) (text : List ℕ) : Type 0 where
  pub movetext : List ℕ
  pub is_movetext : IsMovetext movetext tokens
  pub written : text ++ (10 ∷ []) ≡ front ++ movetext

pub ended : (front : List ℕ) (tokens : List (List ℕ)) (text : List ℕ) (width : ℕ) → IsUnderWay front tokens text width →
    tokens ≢ [] → Ended front tokens text
ended front tokens text width h some = go h.lines h.laid h.same h.written
  where
    go : (lines : List (List (List ℕ))) → AreLines lines → tokens_of lines ≡ tokens →
        text ≡ front ++ joined_lines lines → Ended front tokens text
    go [] laid same written = absurd (some (sym same))
    go (line ∷ lines) laid same written = record {
      movetext = lines_text (line ∷ lines);
      is_movetext = record { lines = line ∷ lines; laid = laid; same = same; written = refl };
      written = ap (λ t. t ++ (10 ∷ [])) written
          ∙ (append_assoc front (joined_lines (line ∷ lines)) (10 ∷ [])
          ∙ ap (λ t. front ++ t) (sym (lines_text-joined line lines)));
    }

-- Before the first token there is no line.
pub not_begun : (front : List ℕ) → IsUnderWay front [] front 0
not_begun front =
    record { lines = []; laid = tt; same = refl; written = sym (append-nil front); last = refl; none = λ _. refl }

pub pushed_filled : (tokens : List (List ℕ)) (token : List ℕ) → tokens ++ (token ∷ []) ≢ []
pushed_filled [] token = λ e. cc
pushed_filled (first ∷ tokens) token = λ e. cc

-- tokens that pass the test
pub IsToken-from_test : (token : List ℕ) → is_token token ≡ true → IsToken token
IsToken-from_test token e = record { filled = grind (arith, nat_tests); short = grind (arith, nat_tests) }
