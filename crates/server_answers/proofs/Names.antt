-- Whether a text is a name.
use Rattle.std.proofs.Common.{ℕ, ◌≡◌, Bool, true, false, List, refl, arith}
use Rattle.std.proofs.lemmas.Bool.Decides.{nat_tests}
use Rattle.player_name.specs.Name.{IsName}
use Rattle.server_answers.specs.Values.{is_name}

pub name_is : (text : List ℕ) → IsName text → is_name text ≡ true
name_is text is = let some = is.some in let short = is.short in let bytes = is.bytes in grind (arith, nat_tests)

pub name_from : (text : List ℕ) → is_name text ≡ true → IsName text
name_from text is = record {
  some = grind (arith, nat_tests);
  short = grind (arith, nat_tests);
  bytes = grind (arith, nat_tests);
}

named_at : (text : List ℕ) (b : Bool) → is_name text ≡ b → (IsName text → ⊥) → is_name text ≡ false
named_at text true is none = absurd (none (name_from text is))
named_at text false is none = is

pub name_is_not : (text : List ℕ) → (IsName text → ⊥) → is_name text ≡ false
name_is_not text none = named_at text (is_name text) refl none
