-- The letters that are read in front are those of the text that is in the frame there.
use Rattle.std.proofs.Common.{ℕ, zero, suc, ◌≡◌, ◌≤◌, ◌<◌, ◌+◌, ◌&&◌, eqb, Bool, true, false, List, [], ◌∷◌, ◌++◌, codes, length, take, refl, ap, sym, ◌∙◌, arith, bit_xor, inl, inr}
use Rattle.std.specs.Prelude.{nat_le}
use Rattle.std.proofs.Math.Nat.{min-le_left}
use Rattle.std.proofs.lemmas.Bool.{cases_Bool, and_right, eqb-false, le-leb, lt-leb, lt-ltb}
use Rattle.std.proofs.lemmas.Bool.Decides.{Decides-eqb}
use Rattle.std.proofs.lemmas.List.{length-append, length-take}
use lib.Bits.{xor_assoc, xor_self, xor_zero_r}
use Rattle.websocket.specs.Mask.{mask_from}
use Rattle.websocket.specs.FrameHeader.{encode_header}
use Rattle.websocket.proofs.MaskLemmas.{length-mask_from}
use Rattle.lobby_talk.specs.Front.{letters, is_short_text, asks_offers, is_hidden, is_whole, begins, text_frame}

-- what was masked is read under the same byte of the mask
pub unmasked : (x k : ℕ) → bit_xor (bit_xor x k) k ≡ x
unmasked x k = rw (xor_assoc, xor_self, xor_zero_r)

pub is_short : (n : ℕ) → n ≤ 125 → is_short_text 129 (128 + n) ≡ true
is_short n few = rw (le-leb 128 (128 + n) (omega arith), le-leb (128 + n) 253 (omega arith))

-- the bytes of a frame, one by one
abbrev pub laid : (n k0 k1 k2 k3 : ℕ) → List ℕ → List ℕ
laid n k0 k1 k2 k3 behind = 129 ∷ (128 + n) ∷ k0 ∷ k1 ∷ k2 ∷ k3 ∷ behind

pub frame_laid : (k0 k1 k2 k3 : ℕ) (text rest : List ℕ) → length text ≤ 125 →
    text_frame (k0 ∷ k1 ∷ k2 ∷ k3 ∷ []) text ++ rest
    ≡ laid (length text) k0 k1 k2 k3 (mask_from (k0 ∷ k1 ∷ k2 ∷ k3 ∷ []) 0 text ++ rest)
unfolding encode_header
frame_laid k0 k1 k2 k3 text rest few = rw (lt-ltb (length text) 126 (omega arith))

five : (n k0 k1 k2 k3 a b c d e : ℕ) (behind : List ℕ) → n ≤ 125 →
    letters (laid n k0 k1 k2 k3 (bit_xor a k0 ∷ bit_xor b k1 ∷ bit_xor c k2 ∷ bit_xor d k3 ∷ bit_xor e k0 ∷ behind))
    ≡ a ∷ b ∷ c ∷ d ∷ e ∷ []
unfolding letters
five n k0 k1 k2 k3 a b c d e behind few =
    let masked : List ℕ =
    bit_xor a k0 ∷ bit_xor b k1 ∷ bit_xor c k2 ∷ bit_xor d k3 ∷ bit_xor e k0 ∷ behind in
    rw (is_short n few, le-leb 11 (length (laid n k0 k1 k2 k3 masked)) (omega arith), unmasked a k0, unmasked b k1, unmasked c k2, unmasked d k3, unmasked e k0)

pub letters_are : (key text rest : List ℕ) → length key ≡ 4 → 5 ≤ length text → length text ≤ 125 →
    letters (text_frame key text ++ rest) ≡ take 5 text
unfolding mask_from
letters_are (k0 ∷ k1 ∷ k2 ∷ k3 ∷ []) (a ∷ b ∷ c ∷ d ∷ e ∷ more) rest is long few =
    let text : List ℕ = a ∷ b ∷ c ∷ d ∷ e ∷ more in
    ap letters (frame_laid k0 k1 k2 k3 text rest few)
    ∙ five (length text) k0 k1 k2 k3 a b c d e (mask_from (k0 ∷ k1 ∷ k2 ∷ k3 ∷ []) 5 more ++ rest) few
letters_are [] text rest is long few = absurd (omega arith)
letters_are (k0 ∷ []) text rest is long few = absurd (omega arith)
letters_are (k0 ∷ k1 ∷ []) text rest is long few = absurd (omega arith)
letters_are (k0 ∷ k1 ∷ k2 ∷ []) text rest is long few = absurd (omega arith)
letters_are (k0 ∷ k1 ∷ k2 ∷ k3 ∷ k4 ∷ key) text rest is long few = absurd (omega arith)
letters_are key [] rest is long few = absurd (omega arith)
letters_are key (a ∷ []) rest is long few = absurd (omega arith)
letters_are key (a ∷ b ∷ []) rest is long few = absurd (omega arith)
letters_are key (a ∷ b ∷ c ∷ []) rest is long few = absurd (omega arith)
letters_are key (a ∷ b ∷ c ∷ d ∷ []) rest is long few = absurd (omega arith)

-- ---- and so it is told of them whether they ask what is offered

and_no : (b : Bool) → b && false ≡ false
and_no true = refl
and_no false = refl

none_of_five : (a b c d e : Bool) → false ≡ a && (b && (c && (d && (e && false))))
none_of_five false b c d e = refl
none_of_five true false c d e = refl
none_of_five true true false d e = refl
none_of_five true true true false e = refl
none_of_five true true true true false = refl
none_of_five true true true true true = refl

and_true : (b : Bool) → b ≡ b && true
and_true true = refl
and_true false = refl

six : (a b c d e f g : Bool) → f ≡ g →
    (a && (b && (c && (d && (e && true))))) && f ≡ a && (b && (c && (d && (e && (g && true)))))
six false b c d e f g same = refl
six true false c d e f g same = refl
six true true false d e f g same = refl
six true true true false e f g same = refl
six true true true true false f g same = refl
six true true true true true f g same = same ∙ and_true g

turned : (a b : ℕ) → eqb a b ≡ eqb b a
turned a b = elim (cases_Bool (eqb a b)) [
  | inl same ↦ same ∙ sym ((Decides-eqb b a).1 (sym ((Decides-eqb a b).0 same)))
  | inr other ↦ elim (cases_Bool (eqb b a)) [
    | inl same ↦ absurd (eqb-false a b other (sym ((Decides-eqb b a).0 same)))
    | inr none ↦ other ∙ sym none
  ]
]

offers_five : (k0 k1 k2 k3 a b c d e : ℕ) (behind : List ℕ) →
    asks_offers (laid 5 k0 k1 k2 k3 behind) ≡ begins (a ∷ b ∷ c ∷ d ∷ e ∷ []) (codes "offers")
offers_five k0 k1 k2 k3 a b c d e behind =
    and_no (nat_le 12 (length (laid 5 k0 k1 k2 k3 behind)))
    ∙ none_of_five (eqb 111 a) (eqb 102 b) (eqb 102 c) (eqb 101 d) (eqb 114 e)

offers_more : (n k0 k1 k2 k3 a b c d e f : ℕ) (more behind : List ℕ) → 6 ≤ n → n ≤ 125 →
    asks_offers (laid n k0 k1 k2 k3 (bit_xor a k0 ∷ bit_xor b k1 ∷ bit_xor c k2 ∷ bit_xor d k3 ∷ bit_xor e k0
    ∷ bit_xor f k1 ∷ behind)) ≡ begins (a ∷ b ∷ c ∷ d ∷ e ∷ f ∷ more) (codes "offers")
offers_more n k0 k1 k2 k3 a b c d e f more behind long few =
    let masked : List ℕ =
    bit_xor a k0 ∷ bit_xor b k1 ∷ bit_xor c k2 ∷ bit_xor d k3 ∷ bit_xor e k0 ∷ bit_xor f k1 ∷ behind in
    rw (le-leb 12 (length (laid n k0 k1 k2 k3 masked)) (omega arith), le-leb 134 (128 + n) (omega arith), five n k0 k1 k2 k3 a b c d e (bit_xor f k1 ∷ behind) few, unmasked f k1)
    (six (eqb 111 a) (eqb 102 b) (eqb 102 c) (eqb 101 d) (eqb 114 e) (eqb f 115) (eqb 115 f) (turned f 115))

pub offers_are : (key text rest : List ℕ) → length key ≡ 4 → 5 ≤ length text → length text ≤ 125 →
    asks_offers (text_frame key text ++ rest) ≡ begins text (codes "offers")
unfolding mask_from
offers_are (k0 ∷ k1 ∷ k2 ∷ k3 ∷ []) (a ∷ b ∷ c ∷ d ∷ e ∷ []) rest is long few =
    let text : List ℕ = a ∷ b ∷ c ∷ d ∷ e ∷ [] in
    ap asks_offers (frame_laid k0 k1 k2 k3 text rest few)
    ∙ offers_five k0 k1 k2 k3 a b c d e (mask_from (k0 ∷ k1 ∷ k2 ∷ k3 ∷ []) 0 text ++ rest)
offers_are (k0 ∷ k1 ∷ k2 ∷ k3 ∷ []) (a ∷ b ∷ c ∷ d ∷ e ∷ f ∷ more) rest is long few =
    let text : List ℕ = a ∷ b ∷ c ∷ d ∷ e ∷ f ∷ more in
    ap asks_offers (frame_laid k0 k1 k2 k3 text rest few)
    ∙ offers_more (length text) k0 k1 k2 k3 a b c d e f more
    (mask_from (k0 ∷ k1 ∷ k2 ∷ k3 ∷ []) 6 more ++ rest) (omega arith) few
offers_are [] text rest is long few = absurd (omega arith)
offers_are (k0 ∷ []) text rest is long few = absurd (omega arith)
offers_are (k0 ∷ k1 ∷ []) text rest is long few = absurd (omega arith)
offers_are (k0 ∷ k1 ∷ k2 ∷ []) text rest is long few = absurd (omega arith)
offers_are (k0 ∷ k1 ∷ k2 ∷ k3 ∷ k4 ∷ key) text rest is long few = absurd (omega arith)
offers_are key [] rest is long few = absurd (omega arith)
offers_are key (a ∷ []) rest is long few = absurd (omega arith)
offers_are key (a ∷ b ∷ []) rest is long few = absurd (omega arith)
offers_are key (a ∷ b ∷ c ∷ []) rest is long few = absurd (omega arith)
offers_are key (a ∷ b ∷ c ∷ d ∷ []) rest is long few = absurd (omega arith)

-- ---- nor is it hidden

seen : (n : ℕ) (behind : List ℕ) → n ≤ 125 → is_hidden (129 ∷ (128 + n) ∷ behind) ≡ false
seen n behind few =
    rw (is_short n few, le-leb 2 (length (129 ∷ (128 + n) ∷ behind)) (omega arith))

pub is_seen : (key text rest : List ℕ) → length text ≤ 125 → is_hidden (text_frame key text ++ rest) ≡ false
unfolding encode_header
is_seen key text rest few =
    rw (lt-ltb (length text) 126 (omega arith)) (seen (length text) (key ++ mask_from key 0 text ++ rest) few)

-- ---- and it is whole where all of it is there, and no sooner

whole_laid : (n k0 k1 k2 k3 : ℕ) (behind : List ℕ) → n ≤ length behind → is_whole (laid n k0 k1 k2 k3 behind) ≡ true
whole_laid n k0 k1 k2 k3 behind long =
    rw (le-leb 2 (length (laid n k0 k1 k2 k3 behind)) (omega arith), le-leb (128 + n) (length (laid n k0 k1 k2 k3 behind) + 122) (omega (arith, long)))

masked_length : (key text rest : List ℕ) → length text ≤ length (mask_from key 0 text ++ rest)
masked_length key text rest =
    omega (arith, length-append (mask_from key 0 text) rest, length-mask_from key 0 text)

pub whole_are : (key text rest : List ℕ) → length key ≡ 4 → length text ≤ 125 →
    is_whole (text_frame key text ++ rest) ≡ true
whole_are (k0 ∷ k1 ∷ k2 ∷ k3 ∷ []) text rest is few =
    ap is_whole (frame_laid k0 k1 k2 k3 text rest few)
    ∙ whole_laid (length text) k0 k1 k2 k3 (mask_from (k0 ∷ k1 ∷ k2 ∷ k3 ∷ []) 0 text ++ rest)
    (masked_length (k0 ∷ k1 ∷ k2 ∷ k3 ∷ []) text rest)
whole_are [] text rest is few = absurd (omega arith)
whole_are (k0 ∷ []) text rest is few = absurd (omega arith)
whole_are (k0 ∷ k1 ∷ []) text rest is few = absurd (omega arith)
whole_are (k0 ∷ k1 ∷ k2 ∷ []) text rest is few = absurd (omega arith)
whole_are (k0 ∷ k1 ∷ k2 ∷ k3 ∷ k4 ∷ key) text rest is few = absurd (omega arith)

frame_alone : (k0 k1 k2 k3 : ℕ) (text : List ℕ) → length text ≤ 125 →
    text_frame (k0 ∷ k1 ∷ k2 ∷ k3 ∷ []) text
    ≡ laid (length text) k0 k1 k2 k3 (mask_from (k0 ∷ k1 ∷ k2 ∷ k3 ∷ []) 0 text)
unfolding encode_header
frame_alone k0 k1 k2 k3 text few = rw (lt-ltb (length text) 126 (omega arith))

cut_short : (n more : ℕ) (bytes : List ℕ) → suc (suc more) < 6 + n →
    length (129 ∷ (128 + n) ∷ take more bytes) + 122 < 128 + n
cut_short n more bytes less = omega (arith, less, length-take more bytes, min-le_left more (length bytes))

cut_laid : (n k0 k1 k2 k3 : ℕ) (behind : List ℕ) (count : ℕ) → count < 6 + n →
    is_whole (take count (laid n k0 k1 k2 k3 behind)) ≡ false
cut_laid n k0 k1 k2 k3 behind zero less = refl
cut_laid n k0 k1 k2 k3 behind (suc zero) less = refl
cut_laid n k0 k1 k2 k3 behind (suc (suc more)) less =
    let rest : List ℕ = k0 ∷ k1 ∷ k2 ∷ k3 ∷ behind in
    let bytes : List ℕ = 129 ∷ (128 + n) ∷ take more rest in
    and_right (nat_le 2 (length bytes)) (nat_le (128 + n) (length bytes + 122))
    (lt-leb (128 + n) (length bytes + 122) (cut_short n more rest less))

pub cut_are : (key text : List ℕ) (count : ℕ) → length key ≡ 4 → length text ≤ 125 →
    count < length (text_frame key text) → is_whole (take count (text_frame key text)) ≡ false
cut_are (k0 ∷ k1 ∷ k2 ∷ k3 ∷ []) text count is few less =
    let key : List ℕ = k0 ∷ k1 ∷ k2 ∷ k3 ∷ [] in
    let alone = frame_alone k0 k1 k2 k3 text few in
    ap (λ (bytes : List ℕ). is_whole (take count bytes)) alone
    ∙ cut_laid (length text) k0 k1 k2 k3 (mask_from key 0 text) count
    (omega (arith, less, ap (λ (bytes : List ℕ). length bytes) alone, length-mask_from key 0 text))
cut_are [] text count is few less = absurd (omega arith)
cut_are (k0 ∷ []) text count is few less = absurd (omega arith)
cut_are (k0 ∷ k1 ∷ []) text count is few less = absurd (omega arith)
cut_are (k0 ∷ k1 ∷ k2 ∷ []) text count is few less = absurd (omega arith)
cut_are (k0 ∷ k1 ∷ k2 ∷ k3 ∷ k4 ∷ key) text count is few less = absurd (omega arith)
