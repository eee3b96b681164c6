-- The numbers of a beat stand in its bytes.
use Rattle.std.proofs.Common.{◌≡◌, ℕ, List, [], ◌∷◌, ◌++◌, refl, sym, subst, ap, ◌∙◌, take, codes}
use Rattle.rec_codec.specs.Field.{AllStand}
use Rattle.rec_codec.proofs.FieldLemmas.{laid-stand}
use Rattle.sha2.proofs.Facts256.{length-sha256}
use Rattle.server_clock.specs.declared.slots.Beat.{Beat}
use Rattle.server_clock.specs.Slots.{number_fields, sum_field, unsummed, slot_bytes, IsSigned}

-- all fields do
all-stand : (beat : Beat) → AllStand (slot_bytes beat) (number_fields beat ++ sum_field beat ∷ [])
all-stand beat =
    laid-stand 512 (number_fields beat ++ sum_field beat ∷ [])
    (refl, (refl, (refl, (refl, (length-sha256 (unsummed beat), tt))))) refl

pub numbers-stand : (beat : Beat) (bytes : List ℕ) → bytes ≡ slot_bytes beat → AllStand bytes (number_fields beat)
numbers-stand beat bytes e =
    let all = all-stand beat in
    subst (λ xs. AllStand xs (number_fields beat)) (sym e)
    (all.0, (all.1.0, (all.1.1.0, (all.1.1.1.0, tt))))

-- bytes of a beat start as those of a slot
pub is-signed : (beat : Beat) (bytes : List ℕ) → bytes ≡ slot_bytes beat → IsSigned bytes
is-signed beat bytes e = (numbers-stand beat bytes e).0

pub same_beat : (beat : Beat) (number moment system : ℕ) → number ≡ beat.number → moment ≡ beat.moment
    → system ≡ beat.system
    → (let made : Beat = record { number = number; moment = moment; system = system } in made) ≡ beat
same_beat beat number moment system a b c =
    let make : ℕ → ℕ → ℕ → Beat = λ number moment system. record { number = number; moment = moment; system = system } in
    ap (λ x. make x moment system) a
    ∙ (ap (λ x. make beat.number x system) b ∙ ap (λ x. make beat.number beat.moment x) c)
