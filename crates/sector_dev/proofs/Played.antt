-- A crash that gives each pending write its fate leaves an image, and each image is left so.
use Rattle.std.proofs.Common.{◌≡◌, ◌⊎◌, ◌<◌, ℕ, List, [], ◌∷◌, length, inl, inr, refl, sym, ◌∙◌, ap, subst, arith}
use Rattle.std.specs.Prelude.{slice_set}
use Rattle.std.proofs.lemmas.Bool.{cases_eq, cases_lt}
use Rattle.std.proofs.lemmas.List.{length-set, get_or-set_other}
use Rattle.std.proofs.lemmas.Grind.{get_or-set_at}
use Rattle.sector_dev.specs.declared.device.Sector.{Sector}
use Rattle.sector_dev.specs.declared.device.Sector.TheVariants.{Bytes, Unreadable}
use Rattle.sector_dev.specs.declared.device.Fate.{Fate}
use Rattle.sector_dev.specs.declared.device.Fate.TheVariants.{Lost, Kept, Unreadable as Ruined}
use Rattle.sector_dev.specs.Image.{Sectors, sector_at, Write, MayBecome, IsWritten, Image}
use Rattle.sector_dev.specs.Crash.{left_by}
use Rattle.sector_dev.proofs.Images.{stable_images}

-- an image without the first pending write is one with it
lost_first : (stable : Sectors) (w : Write) (ws : List Write) (c : Sectors) → Image stable ws c
    → Image stable (w ∷ ws) c
lost_first stable w ws c i = record {
  size = i.size;
  each = λ k within. elim (i.each k within) [ inl same ↦ inl same | inr later ↦ inr (inr later) ];
}

-- an image after the first pending write is one of it and the others
changed_first : (stable : Sectors) (w : Write) (ws : List Write) (x : Sector) (c : Sectors) → MayBecome w.value x
    → Image (slice_set stable w.sector x) ws c → Image stable (w ∷ ws) c
changed_first stable w ws x c become i = record {
  size = i.size ∙ length-set stable w.sector x;
  each = λ k within. elim (i.each k (omega (arith, within, length-set stable w.sector x))) [
    | inr later ↦ inr (inr later)
    | inl same ↦ elim (cases_eq k w.sector) [
      | inl eq ↦
          let is : sector_at c k ≡ x =
          same ∙ get_or-set_at stable w.sector k x Unreadable eq (omega (arith, within, eq)) in
          inr (inl (sym eq, subst (MayBecome w.value) (sym is) become))
      | inr ne ↦ inl (same ∙ get_or-set_other stable w.sector k x Unreadable ne)
    ]
  ];
}

-- a crash that gives the pending writes some fates leaves an image
pub left_is_image : (stable : Sectors) (pending : List Write) (fates : List Fate)
    → Image stable pending (left_by stable pending fates)
left_is_image stable [] fates = (stable_images stable stable).1 refl
left_is_image stable (w ∷ ws) [] = record { size = refl; each = λ k within. inl refl }
left_is_image stable (w ∷ ws) (Lost ∷ fates) =
    lost_first stable w ws (left_by stable ws fates) (left_is_image stable ws fates)
left_is_image stable (w ∷ ws) (Kept ∷ fates) =
    let next = slice_set stable w.sector (Bytes w.value) in
    changed_first stable w ws (Bytes w.value) (left_by next ws fates) (inl refl) (left_is_image next ws fates)
left_is_image stable (w ∷ ws) (Ruined ∷ fates) =
    let next = slice_set stable w.sector Unreadable in
    changed_first stable w ws Unreadable (left_by next ws fates) (inr refl) (left_is_image next ws fates)

-- an image is one without the first pending write, if something else gives the value of that sector
without_first : (stable : Sectors) (w : Write) (ws : List Write) (c : Sectors) → Image stable (w ∷ ws) c
    → (w.sector < length stable
    → (sector_at c w.sector ≡ sector_at stable w.sector) ⊎ IsWritten ws w.sector (sector_at c w.sector))
    → Image stable ws c
without_first stable w ws c i here = record {
  size = i.size;
  each = λ k within. elim (i.each k within) [
    | inl same ↦ inl same
    | inr (inl first) ↦
        let lt : w.sector < length stable = omega (arith, first.0) in
        subst (λ (n : ℕ). (sector_at c n ≡ sector_at stable n) ⊎ IsWritten ws n (sector_at c n)) first.0 (here lt)
    | inr (inr later) ↦ inr later
  ];
}

-- an image with what the first pending write may leave is one after that write
after_first : (stable : Sectors) (w : Write) (ws : List Write) (x : Sector) (c : Sectors) → Image stable (w ∷ ws) c
    → w.sector < length stable → sector_at c w.sector ≡ x → Image (slice_set stable w.sector x) ws c
after_first stable w ws x c i lt is = record {
  size = i.size ∙ sym (length-set stable w.sector x);
  each = λ k within. elim (cases_eq k w.sector) [
    | inl eq ↦
        let there : sector_at c k ≡ sector_at c w.sector = ap (λ (n : ℕ). sector_at c n) eq in
        inl (there ∙ (is ∙ sym (get_or-set_at stable w.sector k x Unreadable eq lt)))
    | inr ne ↦ elim (i.each k (omega (arith, length-set stable w.sector x))) [
      | inl same ↦ inl (same ∙ sym (get_or-set_other stable w.sector k x Unreadable ne))
      | inr (inl first) ↦ absurd (ne (sym first.0))
      | inr (inr later) ↦ inr later
    ]
  ];
}

-- each image is left by some fates
pub image_is_left : (stable : Sectors) (pending : List Write) (c : Sectors) → Image stable pending c
    → (fates : List Fate) × (left_by stable pending fates ≡ c)
image_is_left stable [] c i = ([], sym ((stable_images stable c).0 i))
image_is_left stable (w ∷ ws) c i = elim (cases_lt w.sector (length stable)) [
  | inr past ↦
      let r = image_is_left stable ws c (without_first stable w ws c i (λ lt. absurd (omega arith))) in
      (Lost ∷ r.0, r.1)
  | inl lt ↦ elim (i.each w.sector lt) [
    | inl same ↦
        let r = image_is_left stable ws c (without_first stable w ws c i (λ lt. inl same)) in
        (Lost ∷ r.0, r.1)
    | inr (inl (at, inl written)) ↦
        let r = image_is_left (slice_set stable w.sector (Bytes w.value)) ws c
        (after_first stable w ws (Bytes w.value) c i lt written) in
        (Kept ∷ r.0, r.1)
    | inr (inl (at, inr unreadable)) ↦
        let r = image_is_left (slice_set stable w.sector Unreadable) ws c
        (after_first stable w ws Unreadable c i lt unreadable) in
        (Ruined ∷ r.0, r.1)
    | inr (inr later) ↦
        let r = image_is_left stable ws c (without_first stable w ws c i (λ lt. inr later)) in
        (Lost ∷ r.0, r.1)
  ]
]
