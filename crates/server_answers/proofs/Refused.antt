-- What is refused is read as it was meant, and nothing else is read so.
use Rattle.std.proofs.Common.{ℕ, ◌≡◌, ◌<◌, ◌^◌, Bool, true, false, ◌&&◌, List, [], ◌∷◌, Option, Some, None, codes, decimal, refl, ap, subst, ◌∙◌}
use Rattle.std.specs.Prelude.{if◌then◌else◌}
use Rattle.std.specs.Str.{bytes_eq}
use Rattle.std.proofs.lemmas.Option.{none-some, same_Some}
use Rattle.std.proofs.lemmas.Slice.Eq.{bytes_eq-Decides}
use Rattle.server_answers.specs.declared.refusals.Refusal.{Refusal}
use Rattle.server_answers.specs.declared.refusals.Refusal.TheVariants as refusals
use Rattle.server_answers.specs.Fields.{first_fields, has_fields, line_of}
use Rattle.server_answers.specs.Values.{u32_in}
use Rattle.server_answers.specs.Refusals.{refusal_line, IsRefusal, fixed_in, wrong_ply, wrong_ply_by, refusal_in}
use Rattle.server_answers.proofs.Joined.{EachLacks, joined, has_joined, fields_joined}
use Rattle.server_answers.proofs.Spelled.{pick, u32_only, u32_read, u32_lacks}

if_has : {A : Type 0} (b : Bool) (o more : Option A) → b ≡ true → (if b then o else more) ≡ o
if_has b o more e = rw e refl

-- ---- what is spelled is read

wrong_ply_fields : (ply : ℕ) → ply < 2 ^ 32 → EachLacks (codes "no" ∷ codes "7" ∷ codes "WrongPly" ∷ decimal ply ∷ [])
wrong_ply_fields ply small = (refl, (refl, (refl, (u32_lacks ply small, tt))))

pub refusal_read : (r : Refusal) → IsRefusal r → refusal_in (refusal_line r) ≡ Some r
unfolding refusal_in
refusal_read (refusals.WrongPly ply) small =
    let line = refusal_line (refusals.WrongPly ply) in
    let lack = wrong_ply_fields ply small in
    let rest = codes "7" ∷ codes "WrongPly" ∷ decimal ply ∷ [] in
    if_has (has_fields 4 line) (wrong_ply_by (first_fields 4 line)) (fixed_in line) (has_joined (codes "no") rest lack)
    ∙ (ap wrong_ply_by (fields_joined (codes "no") rest lack) ∙ ap wrong_ply (u32_read ply small))
refusal_read refusals.BadLine is = refl
refusal_read refusals.NoName is = refl
refusal_read refusals.NoGame is = refl
refusal_read refusals.NotSeated is = refl
refusal_read refusals.NotStarted is = refl
refusal_read refusals.Over is = refl
refusal_read refusals.NotYourMove is = refl
refusal_read refusals.BadMove is = refl
refusal_read refusals.OfferStands is = refl
refusal_read refusals.NoOffer is = refl
refusal_read refusals.TooEarly is = refl
refusal_read refusals.AlreadyClaimed is = refl
refusal_read refusals.FlagUp is = refl
refusal_read refusals.Taken is = refl
refusal_read refusals.SamePlayer is = refl
refusal_read refusals.BadFen is = refl
refusal_read refusals.BadTime is = refl
refusal_read refusals.TooManyGames is = refl
refusal_read refusals.TooLong is = refl
refusal_read refusals.NotOver is = refl
refusal_read refusals.NoMemory is = refl
refusal_read refusals.BadMoment is = refl
refusal_read refusals.Finished is = refl

-- ---- nothing else is read

fixed_only : (line : List ℕ) (r : Refusal) → fixed_in line ≡ Some r → line ≡ refusal_line r
fixed_only line r e1 =
    pick refusal_line line refusals.BadLine r _ (λ e2.
    pick refusal_line line refusals.NoName r _ (λ e3.
    pick refusal_line line refusals.NoGame r _ (λ e4.
    pick refusal_line line refusals.NotSeated r _ (λ e5.
    pick refusal_line line refusals.NotStarted r _ (λ e6.
    pick refusal_line line refusals.Over r _ (λ e7.
    pick refusal_line line refusals.NotYourMove r _ (λ e8.
    pick refusal_line line refusals.BadMove r _ (λ e9.
    pick refusal_line line refusals.OfferStands r _ (λ e10.
    pick refusal_line line refusals.NoOffer r _ (λ e11.
    pick refusal_line line refusals.TooEarly r _ (λ e12.
    pick refusal_line line refusals.AlreadyClaimed r _ (λ e13.
    pick refusal_line line refusals.FlagUp r _ (λ e14.
    pick refusal_line line refusals.Taken r _ (λ e15.
    pick refusal_line line refusals.SamePlayer r _ (λ e16.
    pick refusal_line line refusals.BadFen r _ (λ e17.
    pick refusal_line line refusals.BadTime r _ (λ e18.
    pick refusal_line line refusals.TooManyGames r _ (λ e19.
    pick refusal_line line refusals.TooLong r _ (λ e20.
    pick refusal_line line refusals.NotOver r _ (λ e21.
    pick refusal_line line refusals.NoMemory r _ (λ e22.
    pick refusal_line line refusals.BadMoment r _ (λ e23.
    pick refusal_line line refusals.Finished r None (λ none. absurd (none-some r none)) e23) e22) e21) e20) e19) e18) e17) e16) e15) e14) e13) e12) e11) e10) e9) e8) e7) e6) e5) e4) e3) e2) e1

record Words (first number name : List ℕ) (o : Option Refusal) (r : Refusal) : Type 0 where
  no_is : first ≡ codes "no"
  number_is : number ≡ codes "7"
  name_is : name ≡ codes "WrongPly"
  rest : o ≡ Some r

words_at : (first number name : List ℕ) (o : Option Refusal) (r : Refusal) (a b c : Bool) → bytes_eq first (codes "no") ≡ a →
    bytes_eq number (codes "7") ≡ b → bytes_eq name (codes "WrongPly") ≡ c → (if a && b && c then o else None) ≡ Some r →
    Words first number name o r
words_at first number name o r true true true e f g h = record {
  no_is = (bytes_eq-Decides first (codes "no")).0 e;
  number_is = (bytes_eq-Decides number (codes "7")).0 f;
  name_is = (bytes_eq-Decides name (codes "WrongPly")).0 g;
  rest = h;
}
words_at first number name o r true true false e f g h = absurd (none-some r h)
words_at first number name o r true false c e f g h = absurd (none-some r h)
words_at first number name o r false b c e f g h = absurd (none-some r h)

pub record IsWrongPlyAs (fields : List (List ℕ)) (r : Refusal) : Type 0 where
  pub spelled : line_of fields ≡ refusal_line r
  pub sound : IsRefusal r

wrong_ply_at : (ply : List ℕ) (o : Option ℕ) (r : Refusal) → u32_in ply ≡ o → wrong_ply o ≡ Some r →
    IsWrongPlyAs (codes "no" ∷ codes "7" ∷ codes "WrongPly" ∷ ply ∷ []) r
wrong_ply_at ply None r e h = absurd (none-some r h)
wrong_ply_at ply (Some n) r e h =
    let spelled = u32_only ply n e in
    subst (IsWrongPlyAs (codes "no" ∷ codes "7" ∷ codes "WrongPly" ∷ ply ∷ [])) (same_Some (refusals.WrongPly n) r h)
    (record { spelled = ap (λ (p : List ℕ). line_of (codes "no" ∷ codes "7" ∷ codes "WrongPly" ∷ p ∷ [])) spelled.spelled; sound = spelled.small })

wrong_ply_only : (first number name ply : List ℕ) (r : Refusal) → wrong_ply_by (first ∷ number ∷ name ∷ ply ∷ []) ≡ Some r →
    IsWrongPlyAs (first ∷ number ∷ name ∷ ply ∷ []) r
wrong_ply_only first number name ply r h =
    let words = words_at first number name (wrong_ply (u32_in ply)) r (bytes_eq first (codes "no")) (bytes_eq number (codes "7")) (bytes_eq name (codes "WrongPly")) refl refl refl h in
    rw words.no_is (rw words.number_is (rw words.name_is (wrong_ply_at ply (u32_in ply) r refl words.rest)))

only_at : (line : List ℕ) (r : Refusal) (b : Bool) → has_fields 4 line ≡ b →
    (if b then wrong_ply_by (first_fields 4 line) else fixed_in line) ≡ Some r → line ≡ refusal_line r
only_at line r true has h = joined 3 line has ∙ (wrong_ply_only _ _ _ _ r h).spelled
only_at line r false has h = fixed_only line r h

pub refusal_only : (line : List ℕ) (r : Refusal) → refusal_in line ≡ Some r → line ≡ refusal_line r
unfolding refusal_in
refusal_only line r h = only_at line r (has_fields 4 line) refl h
