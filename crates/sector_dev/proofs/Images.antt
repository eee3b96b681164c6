-- How a call moves what a crash may leave.
use Rattle.std.proofs.Common.{◌≡◌, ◌⊎◌, ◌<◌, ◌≢◌, ◌↔◌, ℕ, List, [], ◌∷◌, ◌++◌, length, inl, inr, refl, sym, ◌∙◌, ap, subst, arith}
use Rattle.std.specs.Prelude.{slice_set}
use Rattle.std.proofs.lemmas.Bool.{cases_eq}
use Rattle.std.proofs.lemmas.List.{length-set, get_or-set_other, ext_get_or}
use Rattle.std.proofs.lemmas.Grind.{get_or-set_at}
use Rattle.sector_dev.specs.declared.device.Sector.{Sector}
use Rattle.sector_dev.specs.declared.device.Sector.TheVariants.{Bytes, Unreadable}
use Rattle.sector_dev.specs.Image.{Sectors, sector_at, Write, MayBecome, IsWritten, Image, applied}
use Rattle.sector_dev.specs.Device.{WithOrWithout}

earlier_write : (ws : List Write) (w : Write) (k : ℕ) (x : Sector) → IsWritten ws k x → IsWritten (ws ++ w ∷ []) k x
earlier_write [] w k x h = absurd h
earlier_write (u ∷ ws) w k x (inl here) = inl here
earlier_write (u ∷ ws) w k x (inr later) = inr (earlier_write ws w k x later)

last_write : (ws : List Write) (w : Write) (k : ℕ) (x : Sector) → w.sector ≡ k → MayBecome w.value x → IsWritten (ws ++ w ∷ []) k x
last_write [] w k x at value = inl (at, value)
last_write (u ∷ ws) w k x at value = inr (last_write ws w k x at value)

earlier_or_last : (ws : List Write) (w : Write) (k : ℕ) (x : Sector) → IsWritten (ws ++ w ∷ []) k x → IsWritten ws k x
    ⊎ ((w.sector ≡ k) × MayBecome w.value x)
earlier_or_last [] w k x (inl here) = inr here
earlier_or_last [] w k x (inr none) = absurd none
earlier_or_last (u ∷ ws) w k x (inl here) = inl (inl here)
earlier_or_last (u ∷ ws) w k x (inr later) =
    elim (earlier_or_last ws w k x later) [ inl e ↦ inl (inr e) | inr l ↦ inr l ]

-- a sector's value, with one write more or without
abbrev Holds : Sectors → List Write → ℕ → Sector → Type 0
Holds stable ws k x = (x ≡ sector_at stable k) ⊎ IsWritten ws k x

module _ (stable : Sectors) (ws : List Write) (w : Write) (within : w.sector < length stable) where
  more : (k : ℕ) (x : Sector) → Holds stable ws k x → Holds stable (ws ++ w ∷ []) k x
  more k x (inl s) = inl s
  more k x (inr p) = inr (earlier_write ws w k x p)

  elsewhere : (k : ℕ) (x : Sector) → k ≢ w.sector → Holds stable (ws ++ w ∷ []) k x → Holds stable ws k x
  elsewhere k x ne (inl s) = inl s
  elsewhere k x ne (inr p) = elim (earlier_or_last ws w k x p) [ inl e ↦ inr e | inr l ↦ absurd (ne (sym l.0)) ]

  lost : (c : Sectors) → Image stable ws c → Image stable (ws ++ w ∷ []) c
  lost c i = record { size = i.size; each = λ k lt. more k (sector_at c k) (i.each k lt) }

  changed_in : (d : Sectors) (x : Sector) → MayBecome w.value x → Image stable ws d
      → Image stable (ws ++ w ∷ []) (slice_set d w.sector x)
  changed_in d x become i = record {
    size = length-set d w.sector x ∙ i.size;
    each = λ k lt. elim (cases_eq k w.sector) [
      | inl eq ↦
          let here = get_or-set_at d w.sector k x Unreadable eq (omega (arith, within, i.size)) in
          inr (last_write ws w k (sector_at (slice_set d w.sector x) k) (sym eq) (subst (MayBecome w.value) (sym here) become))
      | inr ne ↦ subst (λ y. Holds stable (ws ++ w ∷ []) k y) (sym (get_or-set_other d w.sector k x Unreadable ne))
          (more k (sector_at d k) (i.each k lt))
    ];
  }

  without : (c : Sectors) → Image stable (ws ++ w ∷ []) c → Holds stable ws w.sector (sector_at c w.sector)
      → Image stable ws c
  without c i here = record {
    size = i.size;
    each = λ k lt. elim (cases_eq k w.sector) [
      | inl eq ↦ subst (λ (j : ℕ). Holds stable ws j (sector_at c j)) (sym eq) here
      | inr ne ↦ elsewhere k (sector_at c k) ne (i.each k lt)
    ];
  }

  -- the image with the sector's stable value in its place
  abbrev undone : Sectors → Sectors
  undone c = slice_set c w.sector (sector_at stable w.sector)

  undone_image : (c : Sectors) → Image stable (ws ++ w ∷ []) c → Image stable ws (undone c)
  undone_image c i = record {
    size = length-set c w.sector (sector_at stable w.sector) ∙ i.size;
    each = λ k lt. elim (cases_eq k w.sector) [
      | inl eq ↦ inl (get_or-set_at c w.sector k (sector_at stable w.sector) Unreadable eq (omega (arith, within, i.size))
          ∙ ap (λ (j : ℕ). sector_at stable j) (sym eq))
      | inr ne ↦ subst (λ x. Holds stable ws k x)
          (sym (get_or-set_other c w.sector k (sector_at stable w.sector) Unreadable ne))
          (elsewhere k (sector_at c k) ne (i.each k lt))
    ];
  }

  redone : (c : Sectors) (x : Sector) → w.sector < length c → sector_at c w.sector ≡ x → c ≡ slice_set (undone c) w.sector x
  redone c x lt is = ext_get_or Unreadable c (slice_set (undone c) w.sector x)
      (sym (length-set (undone c) w.sector x ∙ length-set c w.sector (sector_at stable w.sector)))
      (λ k l. elim (cases_eq k w.sector) [
        | inl eq ↦ ap (λ (j : ℕ). sector_at c j) eq
            ∙ (is ∙ sym (get_or-set_at (undone c) w.sector k x Unreadable eq
            (omega (arith, lt, length-set c w.sector (sector_at stable w.sector)))))
        | inr ne ↦ sym (get_or-set_other (undone c) w.sector k x Unreadable ne
            ∙ get_or-set_other c w.sector k (sector_at stable w.sector) Unreadable ne)
      ])

  split : (c : Sectors) → Image stable (ws ++ w ∷ []) c → WithOrWithout w.sector w.value (Image stable ws) c
  split c i =
      let lt : w.sector < length c = omega (arith, within, i.size) in
      elim (i.each w.sector within) [
        | inl s ↦ (c, without c i (inl s), inl refl)
        | inr p ↦ elim (earlier_or_last ws w w.sector (sector_at c w.sector) p) [
          | inl e ↦ (c, without c i (inr e), inl refl)
          | inr (at, inl written) ↦ (undone c, undone_image c i, inr (inl (redone c (Bytes w.value) lt written)))
          | inr (at, inr unreadable) ↦ (undone c, undone_image c i, inr (inr (redone c Unreadable lt unreadable)))
        ]
      ]

  joined : (c : Sectors) → WithOrWithout w.sector w.value (Image stable ws) c → Image stable (ws ++ w ∷ []) c
  joined c h = elim h.2 [
    | inl same ↦ subst (Image stable (ws ++ w ∷ [])) (sym same) (lost h.0 h.1)
    | inr (inl written) ↦
        subst (Image stable (ws ++ w ∷ [])) (sym written) (changed_in h.0 (Bytes w.value) (inl refl) h.1)
    | inr (inr unreadable) ↦
        subst (Image stable (ws ++ w ∷ [])) (sym unreadable) (changed_in h.0 Unreadable (inr refl) h.1)
  ]

  -- a pending write may be kept or lost, or make its sector unreadable
  pub pending_images : (c : Sectors)
      → Image stable (ws ++ w ∷ []) c ↔ WithOrWithout w.sector w.value (Image stable ws) c
  pending_images c = (split c, joined c)

pub applied-append : (stable : Sectors) (ws : List Write) (w : Write)
    → applied stable (ws ++ w ∷ []) ≡ slice_set (applied stable ws) w.sector (Bytes w.value)
applied-append stable [] w = refl
applied-append stable (u ∷ ws) w = applied-append (slice_set stable u.sector (Bytes u.value)) ws w

-- with nothing pending there is one image
pub stable_images : (stable c : Sectors) → Image stable [] c ↔ (c ≡ stable)
stable_images stable c = (
  λ i. ext_get_or Unreadable c stable i.size
      (λ k lt. elim (i.each k (omega (arith, lt, i.size))) [ inl e ↦ e | inr none ↦ absurd none ]),
  λ is. subst (λ (x : Sectors). Image stable [] x) (sym is) (record { size = refl; each = λ k lt. inl refl }),
)
