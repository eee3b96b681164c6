-- Times that were written are read as they were.
use Rattle.std.proofs.Common.{ℕ, zero, suc, ◌≡◌, ◌<◌, ◌^◌, ◌&&◌, Bool, true, false, List, [], ◌∷◌, ◌++◌, Option, Some, None, IfSome, decimal, refl, sym, ap, ◌∙◌, arith, append_assoc, append-nil}
use Rattle.std.proofs.lemmas.Bool.{and_from}
use Rattle.std.specs.Prelude.{if◌then◌else◌}
use Rattle.std.specs.Str.{bytes_eq}
use Rattle.std.proofs.lemmas.Bool.Decides.{nat_tests}
use Rattle.std.proofs.lemmas.Slice.Eq.{bytes_eq-Decides}
use Rattle.text_parts.proofs.Cuts.{Lacks, lacks_more, lacks_both, before_at, after_at, before_whole, after_none}
use Rattle.text_parts.specs.Numbers.{number_below}
use Rattle.lobby_words.specs.Words.{u32_in, or_0, number_or_0}
use Rattle.night_rounds.specs.declared.times.Times.{Times}
use Rattle.night_rounds.specs.declared.times.Period.{Period}
use Rattle.night_rounds.specs.Times.{front_of, rest_of, span_text, times_text, times_in, likely_times, plain_times, long_times, are_taken, is_empty}
use Rattle.night_rounds.proofs.Spelled.{lacks_below, lacks_above, number_back}

no_number : (b : Bool) → or_0 (if b then Some 0 else None) ≡ 0
no_number true = refl
no_number false = refl

number_none : number_or_0 [] ≡ 0
unfolding u32_in number_below
number_none = no_number (bytes_eq (decimal 0) [])

-- seconds and the increment, behind and before the `+`
front_span : (i k : ℕ) → i < 2 ^ 32 → front_of 43 (span_text i k) ≡ decimal i
front_span i zero small = ap (front_of 43) (append-nil (decimal i)) ∙ before_whole 43 (decimal i) (lacks_below 43 i (omega arith) small)
front_span i (suc k) small = before_at 43 (decimal i) (decimal (suc k)) (lacks_below 43 i (omega arith) small)

rest_span : (i k : ℕ) → i < 2 ^ 32 → k < 2 ^ 32 → number_or_0 (rest_of 43 (span_text i k)) ≡ k
rest_span i zero small few =
    ap number_or_0 (ap (rest_of 43) (append-nil (decimal i)) ∙ after_none 43 (decimal i) (lacks_below 43 i (omega arith) small)) ∙ number_none
rest_span i (suc k) small few =
    ap number_or_0 (after_at 43 (decimal i) (decimal (suc k)) (lacks_below 43 i (omega arith) small)) ∙ number_back (suc k) few

-- neither `/` nor `:` stands there
lacks_slash : (i k : ℕ) → i < 2 ^ 32 → k < 2 ^ 32 → Lacks 47 (span_text i k)
lacks_slash i zero small few = lacks_both 47 (decimal i) [] (lacks_below 47 i (omega arith) small) refl
lacks_slash i (suc k) small few =
    lacks_both 47 (decimal i) (43 ∷ decimal (suc k)) (lacks_below 47 i (omega arith) small)
    (lacks_more 47 43 (decimal (suc k)) (λ e. omega (arith, e)) (lacks_below 47 (suc k) (omega arith) few))

lacks_colon : (i k : ℕ) → i < 2 ^ 32 → k < 2 ^ 32 → Lacks 58 (span_text i k)
lacks_colon i zero small few = lacks_both 58 (decimal i) [] (lacks_above 58 i (omega arith) small) refl
lacks_colon i (suc k) small few =
    lacks_both 58 (decimal i) (43 ∷ decimal (suc k)) (lacks_above 58 i (omega arith) small)
    (lacks_more 58 43 (decimal (suc k)) (λ e. omega (arith, e)) (lacks_above 58 (suc k) (omega arith) few))

abbrev plain : (i k : ℕ) → Times
plain i k = record { initial = i; increment = k; period = None }

abbrev long : (i k m s : ℕ) → Times
long i k m s = record { initial = i; increment = k; period = Some (record { moves = m; seconds = s }) }

times_by : (a b c d : ℕ) → a ≡ b → c ≡ d → plain a c ≡ plain b d
times_by a b c d e f = ap (λ x. plain x c) e ∙ ap (λ y. plain b y) f

long_by : (a b c d m n s t : ℕ) → a ≡ b → c ≡ d → m ≡ n → s ≡ t → long a c m s ≡ long b d n t
long_by a b c d m n s t e f g h =
    ap (λ x. long x c m s) e ∙ (ap (λ x. long b x m s) f ∙ (ap (λ x. long b d x s) g ∙ ap (λ x. long b d n x) h))

is_filled : (text rest : List ℕ) → is_empty (text ++ (58 ∷ rest)) ≡ false
is_filled [] rest = refl
is_filled (b ∷ text) rest = refl

plain_text : (i k : ℕ) → times_text (plain i k) ≡ span_text i k
unfolding times_text
plain_text i k = append-nil (span_text i k)

long_text : (i k m s : ℕ) → times_text (long i k m s) ≡ decimal m ++ (47 ∷ (span_text i k ++ (58 ∷ span_text s k)))
unfolding times_text
long_text i k m s = append_assoc (decimal m) (47 ∷ []) (span_text i k ++ (58 ∷ span_text s k))

likely_plain : (i k : ℕ) → i < 2 ^ 32 → k < 2 ^ 32 → likely_times (times_text (plain i k)) ≡ plain i k
unfolding likely_times
likely_plain i k small few =
    let text = span_text i k in
    ap likely_times (plain_text i k)
    ∙ (ap (λ (rest : List ℕ). if is_empty rest then plain_times text else long_times (front_of 47 text) (front_of 58 rest) (rest_of 58 rest))
    (after_none 47 text (lacks_slash i k small few))
    ∙ times_by (number_or_0 (front_of 43 text)) i (number_or_0 (rest_of 43 text)) k (ap number_or_0 (front_span i k small) ∙ number_back i small)
    (rest_span i k small few))

likely_long : (i k m s : ℕ) → i < 2 ^ 32 → k < 2 ^ 32 → m < 2 ^ 32 → s < 2 ^ 32 → likely_times (times_text (long i k m s)) ≡ long i k m s
unfolding likely_times
likely_long i k m s small few moves last =
    let first = span_text i k in
    let second = span_text s k in
    let behind = first ++ (58 ∷ second) in
    let text = decimal m ++ (47 ∷ behind) in
    let low = lacks_below 47 m (omega arith) moves in
    let colon = lacks_colon i k small few in
    ap likely_times (long_text i k m s)
    ∙ (ap (λ (rest : List ℕ). if is_empty rest then plain_times text else long_times (front_of 47 text) (front_of 58 rest) (rest_of 58 rest))
    (after_at 47 (decimal m) behind low)
    ∙ (ap (λ (b : Bool). if b then plain_times text else long_times (front_of 47 text) (front_of 58 behind) (rest_of 58 behind)) (is_filled first second)
    ∙ long_by (number_or_0 (front_of 43 (front_of 58 behind))) i (number_or_0 (rest_of 43 (front_of 58 behind))) k (number_or_0 (front_of 47 text)) m
    (number_or_0 (front_of 43 (rest_of 58 behind))) s
    (ap (λ (t : List ℕ). number_or_0 (front_of 43 t)) (before_at 58 first second colon) ∙ (ap number_or_0 (front_span i k small) ∙ number_back i small))
    (ap (λ (t : List ℕ). number_or_0 (rest_of 43 t)) (before_at 58 first second colon) ∙ rest_span i k small few)
    (ap number_or_0 (before_at 47 (decimal m) behind low) ∙ number_back m moves)
    (ap (λ (t : List ℕ). number_or_0 (front_of 43 t)) (after_at 58 first second colon) ∙ (ap number_or_0 (front_span s k last) ∙ number_back s last))))

likely_by : (t : Times) (p : Option Period) → t.period ≡ p → are_taken t ≡ true → likely_times (times_text t) ≡ t
likely_by t None e h =
    let small : t.initial < 2 ^ 32 = grind (arith, nat_tests) in
    let few : t.increment < 2 ^ 32 = grind (arith, nat_tests) in
    rw e (likely_plain t.initial t.increment small few)
likely_by t (Some p) e h =
    let small : t.initial < 2 ^ 32 = grind (arith, nat_tests) in
    let few : t.increment < 2 ^ 32 = grind (arith, nat_tests) in
    let moves : p.moves < 2 ^ 32 = grind (arith, nat_tests) in
    let last : p.seconds < 2 ^ 32 = grind (arith, nat_tests) in
    rw e (likely_long t.initial t.increment p.moves p.seconds small few moves last)

pub times_back : (t : Times) → are_taken t ≡ true → times_in (times_text t) ≡ Some t
unfolding times_in
times_back t h =
    ap (λ (u : Times). if are_taken u && bytes_eq (times_text u) (times_text t) then Some u else None) (likely_by t t.period refl h)
    ∙ ap (λ (b : Bool). if b then Some t else None)
    (and_from (are_taken t) (bytes_eq (times_text t) (times_text t)) h ((bytes_eq-Decides (times_text t) (times_text t)).1 refl))

-- what is read is spelled so, and taken
read_by : (text : List ℕ) (t : Times) (a b : Bool) → are_taken t ≡ a → bytes_eq (times_text t) text ≡ b →
    IfSome (if a && b then Some t else None) (λ u. (text ≡ times_text u) × (are_taken u ≡ true))
read_by text t true true taken same = (sym ((bytes_eq-Decides (times_text t) text).0 same), taken)
read_by text t true false taken same = tt
read_by text t false b taken same = tt

pub times_spelled : (text : List ℕ) → IfSome (times_in text) (λ t. (text ≡ times_text t) × (are_taken t ≡ true))
unfolding times_in
times_spelled text =
    read_by text (likely_times text) (are_taken (likely_times text)) (bytes_eq (times_text (likely_times text)) text) refl refl
