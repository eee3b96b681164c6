-- A text that was joined at a sign is cut there.
use Rattle.std.proofs.Common.{ℕ, zero, suc, ◌≡◌, ◌≢◌, ◌<◌, ◌+◌, ◌==◌, true, false, List, [], ◌∷◌, ◌++◌, length, take, drop, get_or, refl, sym, ap, ◌∙◌, arith, if◌then◌else◌}
use Rattle.std.specs.List.{list_any, before_first, after_first, position_or_len}
use Rattle.std.proofs.lemmas.Bool.{ne_eqb, or_from, or_parts}
use Rattle.std.proofs.lemmas.Bool.Decides.{Decides-eqb}
use Rattle.std.proofs.lemmas.List.{take_at, drop_all}
use Rattle.std.proofs.lemmas.List.Recursion.{is_position_or_len}
use Rattle.std.proofs.Math.Seq.{take-length}

-- a byte does not stand in a text
abbrev pub Lacks : ℕ → List ℕ → Type 0
Lacks c text = list_any (λ b. b == c) text ≡ false

pub lacks_more : (c d : ℕ) (text : List ℕ) → d ≢ c → Lacks c text → Lacks c (d ∷ text)
lacks_more c d text other h = or_from (d == c) (list_any (λ b. b == c) text) (ne_eqb d c other) h

pub lacks_each : (c : ℕ) (text : List ℕ) → ((i : ℕ) → i < length text → get_or text i 0 ≢ c) → Lacks c text
lacks_each c [] h = refl
lacks_each c (d ∷ text) h = lacks_more c d text (h zero (omega arith)) (lacks_each c text (λ i below. h (suc i) (omega arith)))

pub lacks_both : (c : ℕ) (one other : List ℕ) → Lacks c one → Lacks c other → Lacks c (one ++ other)
lacks_both c [] other h k = k
lacks_both c (d ∷ one) other h k =
    let parts = or_parts (d == c) (list_any (λ b. b == c) one) h in
    or_from (d == c) (list_any (λ b. b == c) (one ++ other)) parts.0 (lacks_both c one other parts.1 k)

-- where a byte stands first
abbrev spot : ℕ → List ℕ → ℕ
spot c [] = 0
spot c (x ∷ xs) = if x == c then 0 else 1 + spot c xs

spot_on : (c d : ℕ) (text : List ℕ) → (d == c) ≡ false → spot c (d ∷ text) ≡ 1 + spot c text
spot_on c d text e = rw e refl

spot_here : (c : ℕ) (rest : List ℕ) → spot c (c ∷ rest) ≡ 0
spot_here c rest = let same : (c == c) ≡ true = (Decides-eqb c c).1 refl in rw same refl

spot_at : (c : ℕ) (text rest : List ℕ) → Lacks c text → spot c (text ++ (c ∷ rest)) ≡ length text
spot_at c [] rest h = spot_here c rest
spot_at c (d ∷ text) rest h =
    let parts = or_parts (d == c) (list_any (λ b. b == c) text) h in
    let on = spot_on c d (text ++ (c ∷ rest)) parts.0 in
    let more = spot_at c text rest parts.1 in
    let next : 1 + spot c (text ++ (c ∷ rest)) ≡ length (d ∷ text) = omega (arith, more) in
    on ∙ next

spot_none : (c : ℕ) (text : List ℕ) → Lacks c text → spot c text ≡ length text
spot_none c [] h = refl
spot_none c (d ∷ text) h =
    let parts = or_parts (d == c) (list_any (λ b. b == c) text) h in
    let on = spot_on c d text parts.0 in
    let more = spot_none c text parts.1 in
    let next : 1 + spot c text ≡ length (d ∷ text) = omega (arith, more) in
    on ∙ next

place : (c : ℕ) (text : List ℕ) → spot c text ≡ position_or_len (λ b. b == c) text
place c text = is_position_or_len (spot c) (λ b. b == c) refl (λ x xs. refl) text

drop_past : (c : ℕ) (text rest : List ℕ) → drop (length text + 1) (text ++ (c ∷ rest)) ≡ rest
drop_past c [] rest = refl
drop_past c (d ∷ text) rest =
    let on : suc (length text) + 1 ≡ suc (length text + 1) = omega arith in
    ap (λ n. drop n (d ∷ (text ++ (c ∷ rest)))) on ∙ drop_past c text rest

-- the first sign of a text
pub before_at : (c : ℕ) (text rest : List ℕ) → Lacks c text → before_first (λ b. b == c) (text ++ (c ∷ rest)) ≡ text
before_at c text rest h =
    ap (λ n. take n (text ++ (c ∷ rest))) (sym (place c (text ++ (c ∷ rest))) ∙ spot_at c text rest h)
    ∙ take_at text (c ∷ rest) (length text) refl

pub after_at : (c : ℕ) (text rest : List ℕ) → Lacks c text → after_first (λ b. b == c) (text ++ (c ∷ rest)) ≡ rest
after_at c text rest h =
    ap (λ n. drop (n + 1) (text ++ (c ∷ rest))) (sym (place c (text ++ (c ∷ rest))) ∙ spot_at c text rest h) ∙ drop_past c text rest

-- a text without the sign
pub before_whole : (c : ℕ) (text : List ℕ) → Lacks c text → before_first (λ b. b == c) text ≡ text
before_whole c text h = ap (λ n. take n text) (sym (place c text) ∙ spot_none c text h) ∙ take-length text

pub after_none : (c : ℕ) (text : List ℕ) → Lacks c text → after_first (λ b. b == c) text ≡ []
after_none c text h =
    ap (λ n. drop (n + 1) text) (sym (place c text) ∙ spot_none c text h) ∙ drop_all (length text + 1) text (omega arith)
