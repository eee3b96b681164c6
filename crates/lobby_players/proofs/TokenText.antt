-- The text of a token is one.
use Rattle.std.proofs.Common.{ℕ, suc, ◌≡◌, ◌<◌, Bool, true, false, ◌&&◌, List, [], ◌∷◌, length, refl, sym, ap, ◌∙◌, arith}
use Rattle.std.specs.Prelude.{◌==◌, ◌*◌, ◌/◌, ◌%◌, slice_index}
use Rattle.std.specs.List.{list_all}
use Rattle.std.proofs.lemmas.Bool.{false≢true, and_from}
use Rattle.std.proofs.lemmas.Bool.Decides.{Decides-eqb}
use Rattle.std.proofs.lemmas.List.Folds.{list_all_at}
use Rattle.hex.specs.Hex.{IsBytes, encode_lower, encode_with, lower_digits}
use Rattle.hex.proofs.HexLemmas.{length-encode_with}
use Rattle.lobby_words.specs.Players.{is_token, is_token_digit}

digit_by : (t : List ℕ) (n : ℕ) (b : Bool) → is_token_digit (slice_index t n) ≡ b → list_all is_token_digit t ≡ true → n < length t →
    b ≡ true
digit_by t n true is all below = refl
digit_by t n false is all below = absurd (false≢true (sym (list_all_at is_token_digit t n 0 below is) ∙ all))

digit_at : (n : ℕ) → n < 16 → is_token_digit (slice_index lower_digits n) ≡ true
digit_at n below = digit_by lower_digits n (is_token_digit (slice_index lower_digits n)) refl refl below

token_digits : (xs : List ℕ) → IsBytes xs → list_all is_token_digit (encode_lower xs) ≡ true
unfolding encode_with
token_digits [] h = refl
token_digits (b ∷ rest) h =
    let fits : b < 256 = h 0 in
    let high : b / 16 < 16 = omega arith in
    let low : b % 16 < 16 = omega arith in
    let first = is_token_digit (slice_index lower_digits (b / 16)) in
    let second = is_token_digit (slice_index lower_digits (b % 16)) in
    let others = list_all is_token_digit (encode_with lower_digits rest) in
    and_from first (second && others) (digit_at (b / 16) high)
    (and_from second others (digit_at (b % 16) low) (token_digits rest (λ k. h (suc k))))

-- 16 bytes as hex digits are a token
pub token_is : (xs : List ℕ) → length xs ≡ 16 → IsBytes xs → is_token (encode_lower xs) ≡ true
token_is xs len h =
    and_from (length (encode_lower xs) == 32) (list_all is_token_digit (encode_lower xs))
    ((Decides-eqb (length (encode_lower xs)) 32).1 (length-encode_with lower_digits xs ∙ ap (λ (n : ℕ). 2 * n) len)) (token_digits xs h)
