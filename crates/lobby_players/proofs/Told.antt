-- What a line tells.
use Rattle.std.proofs.Common.{ℕ, ◌≡◌, Bool, true, false, not, List, ◌∷◌, ◌++◌, refl, sym, ap, ◌∙◌, Option, Some, None, Result, Ok, Err, codes}
use Rattle.std.specs.Prelude.{IfNone, IfSome, IfOk, ◌==◌}
use Rattle.std.specs.List.{AllPass}
use Rattle.std.proofs.lemmas.Bool.{false≢true}
use Rattle.std.proofs.lemmas.List.Elements.{All-get_or}
use Rattle.std.proofs.lemmas.List.Sums.{AllPass-from_list_all}
use Rattle.hex.specs.Hex.{decode_sized, is_hex_digit}
use Rattle.hex.proofs.HexLemmas.{IsOk-decode_sized}
use Rattle.player_name.specs.Name.{IsName, is_name_byte}
use Rattle.lobby_players.specs.File.{Entry, IsWord, HasFields, TellsOf, IsLineOf, role_text}
use Rattle.lobby_players.proofs.Words.{first_word}

pub all_word : (p : ℕ → Bool) (text : List ℕ) → p 32 ≡ false → AllPass p text → IsWord text
all_word p text none all = λ i below e.
    let h = All-get_or (λ (b : ℕ). p b ≡ true) text i 0 below all in
    false≢true (sym none ∙ (ap p (sym e) ∙ h))

pub name_word : (name : List ℕ) → IsName name → IsWord name
name_word name is = all_word is_name_byte name refl (AllPass-from_list_all is_name_byte name is.bytes)

pub role_word : (is_arbiter : Bool) → IsWord (role_text is_arbiter)
role_word true = all_word (λ (b : ℕ). not (b == 32)) (codes "arbiter") refl (AllPass-from_list_all (λ (b : ℕ). not (b == 32)) (codes "arbiter") refl)
role_word false = all_word (λ (b : ℕ). not (b == 32)) (codes "player") refl (AllPass-from_list_all (λ (b : ℕ). not (b == 32)) (codes "player") refl)

pub digits_word : (digits sum : List ℕ) → decode_sized digits 32 ≡ Ok sum → IsWord digits
digits_word digits sum is =
    all_word is_hex_digit digits refl ((IsOk-decode_sized digits 32).0 (rw is refl)).1

pub fields_told : (line : List ℕ) (e : Entry) (h : IsLineOf line e) →
    HasFields line e.name (role_text e.is_arbiter) h.digits e.full_name
fields_told line e h = record {
  name_word = name_word e.name h.name;
  role_word = role_word e.is_arbiter;
  sum_word = digits_word h.digits e.sum h.sum;
  joined = h.spelled;
}

pub line_told : (line a b c d : List ℕ) (e : Entry) → HasFields line a b c d → TellsOf a b c d e → IsLineOf line e
line_told line a b c d e h t = record {
  name = t.is_name;
  digits = c;
  sum = t.sum;
  full_name = t.is_full_name;
  spelled = h.joined
      ∙ (ap (λ (n : List ℕ). n ++ (32 ∷ (b ++ (32 ∷ (c ++ (32 ∷ d)))))) t.name
      ∙ (ap (λ (r : List ℕ). e.name ++ (32 ∷ (r ++ (32 ∷ (c ++ (32 ∷ d)))))) t.role
      ∙ ap (λ (f : List ℕ). e.name ++ (32 ∷ (role_text e.is_arbiter ++ (32 ∷ (c ++ (32 ∷ f)))))) t.full_name));
}

pub line_tells : (line a b c d : List ℕ) (e : Entry) → HasFields line a b c d → IsLineOf line e → TellsOf a b c d e
line_tells line a b c d e h is =
    let told = fields_told line e is in
    let role = role_text e.is_arbiter in
    let one = first_word a e.name (b ++ (32 ∷ (c ++ (32 ∷ d)))) (role ++ (32 ∷ (is.digits ++ (32 ∷ e.full_name)))) h.name_word told.name_word
    (sym h.joined ∙ is.spelled) in
    let two = first_word b role (c ++ (32 ∷ d)) (is.digits ++ (32 ∷ e.full_name)) h.role_word told.role_word one.rest in
    let three = first_word c is.digits d e.full_name h.sum_word told.sum_word two.rest in
    record {
      is_name = is.name;
      name = one.front;
      role = two.front;
      sum = ap (λ (x : List ℕ). decode_sized x 32) three.front ∙ is.sum;
      is_full_name = is.full_name;
      full_name = three.rest;
    }

pub some_weaker : {A E : Type 0} (r : Result (Option A) E) (P Q : A → Type 0) → ((x : A) → P x → Q x) →
    IfOk r (λ found. IfSome found P) → IfOk r (λ found. IfSome found Q)
some_weaker (Ok (Some x)) P Q f h = f x h
some_weaker (Ok None) P Q f h = tt
some_weaker (Err e) P Q f h = tt

pub none_weaker : {A E : Type 0} (r : Result (Option A) E) (P Q : Type 0) → (P → Q) →
    IfOk r (λ found. IfNone found P) → IfOk r (λ found. IfNone found Q)
none_weaker (Ok (Some x)) P Q f h = tt
none_weaker (Ok None) P Q f h = f h
none_weaker (Err e) P Q f h = tt
