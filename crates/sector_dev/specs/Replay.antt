-- What a record of calls says of the device now and earlier, and the laws of it.
use Rattle.std.specs.Prelude.{◌≡◌, ◌⊎◌, ◌<◌, ◌≤◌, ℕ, List, [], ◌∷◌, ◌++◌, length, take, slice_set, refl, ⊤}
use Rattle.std.specs.List.{AllByRecursion as ByRecursion}
use Rattle.std.proofs.Common.{inl, inr, sym, ◌∙◌, subst, arith}
use Rattle.std.proofs.lemmas.Bool.{cases_eq, cases_lt}
use Rattle.std.proofs.lemmas.List.{take_all, length-set, get_or-set_other, get_or_past}
use Rattle.std.proofs.lemmas.List.Elements.{recursion_from_All}
use Rattle.std.proofs.lemmas.Grind.{get_or-set_at}
use Rattle.sector_dev.specs.declared.memory.Call.{Call}
use Rattle.sector_dev.specs.declared.memory.Call.TheVariants.{Written, Synced}
use Rattle.sector_dev.specs.Image.{Sectors, sector_at, Write, IsWritten, Image, applied}
use Rattle.sector_dev.specs.declared.device.Sector.{Sector}
use Rattle.sector_dev.specs.declared.device.Sector.TheVariants.{Bytes, Unreadable}
use Rattle.sector_dev.specs.Device.{State, IsCoherent}
use Rattle.sector_dev.specs.Whole.{IsWhole, AreWhole, AreWholeWrites}
use Rattle.sector_dev.specs.Memory.{Disk, shown, step, disk_after, at_rest, writes_of}

-- a crash of this disk may leave that
abbrev pub MayLeave : Disk → Sectors → Type 0
MayLeave d c = Image d.stable d.pending c

-- a crash at some moment from t on might have left that; a moment is a number of recorded calls, which reads and
-- refused calls are not
pub record MightLeaveSince (stable : Sectors) (calls : List Call) (t : ℕ) (c : Sectors) : Type 0 where
  pub moment : ℕ
  pub from : t ≤ moment
  pub to : moment ≤ length calls
  pub image : MayLeave (disk_after (at_rest stable) (take moment calls)) c

pub this_moment_counts : (stable : Sectors) (calls : List Call) (t : ℕ) (c : Sectors) → t ≤ length calls
    → MayLeave (disk_after (at_rest stable) calls) c → MightLeaveSince stable calls t c
this_moment_counts stable calls t c le now = record {
  moment = length calls;
  from = le;
  to = omega arith;
  image = subst (λ (cs : List Call). MayLeave (disk_after (at_rest stable) cs) c)
      (sym (take_all (length calls) calls (omega arith))) now;
}

pub no_other_moment : (stable : Sectors) (calls : List Call) (c : Sectors)
    → MightLeaveSince stable calls (length calls) c → MayLeave (disk_after (at_rest stable) calls) c
no_other_moment stable calls c m =
    subst (λ (cs : List Call). MayLeave (disk_after (at_rest stable) cs) c) (take_all m.moment calls m.from) m.image

pub length-applied : (stable : Sectors) (ws : List Write) → length (applied stable ws) ≡ length stable
length-applied stable [] = refl
length-applied stable (w ∷ ws) =
    length-applied (slice_set stable w.sector (Bytes w.value)) ws ∙ length-set stable w.sector (Bytes w.value)

pub length-disk_after : (d : Disk) (cs : List Call) → length (disk_after d cs).stable ≡ length d.stable
length-disk_after d [] = refl
length-disk_after d (Written at v ∷ cs) = length-disk_after (step d (Written at v)) cs
length-disk_after d (Synced ∷ cs) = length-disk_after (step d Synced) cs ∙ length-applied d.stable d.pending

each_applied : (stable : Sectors) (ws : List Write) (at : ℕ) → at < length stable
    → (sector_at (applied stable ws) at ≡ sector_at stable at)
    ⊎ IsWritten ws at (sector_at (applied stable ws) at)
each_applied stable [] at lt = inl refl
each_applied stable (w ∷ ws) at lt =
    elim (each_applied (slice_set stable w.sector (Bytes w.value)) ws at
    (omega (arith, lt, length-set stable w.sector (Bytes w.value)))) [
      | inr later ↦ inr (inr later)
      | inl same ↦ elim (cases_eq at w.sector) [
        | inl eq ↦ inr (inl (
          sym eq,
          inl (same ∙ get_or-set_at stable w.sector at (Bytes w.value) Unreadable eq
              (omega arith)),
        ))
        | inr ne ↦ inl (same ∙ get_or-set_other stable w.sector at (Bytes w.value) Unreadable ne)
      ]
    ]

-- what reads give is one of the images
pub shown_is_image : (d : Disk) → MayLeave d (shown d)
shown_is_image d =
    record { size = length-applied d.stable d.pending; each = λ at lt. each_applied d.stable d.pending at lt }

pub image_has_size : (stable : Sectors) (calls : List Call) (c : Sectors)
    → MayLeave (disk_after (at_rest stable) calls) c → length c ≡ length stable
image_has_size stable calls c i = i.size ∙ length-disk_after (at_rest stable) calls

-- a readable sector is of 512 bytes where each value that it may have is
set_whole : (sectors : Sectors) (k : ℕ) (value : List ℕ) → AreWhole sectors → IsWhole value
    → AreWhole (slice_set sectors k (Bytes value))
set_whole sectors k value whole written at bytes is = elim (cases_lt at (length sectors)) [
  | inr past ↦
      let none = get_or_past (slice_set sectors k (Bytes value)) at Unreadable
      (omega (arith, past, length-set sectors k (Bytes value))) in
      let contradiction : ⊥ = cc in absurd contradiction
  | inl lt ↦ elim (cases_eq at k) [
    | inl eq ↦
        let here = get_or-set_at sectors k at (Bytes value) Unreadable eq (omega (arith, lt, eq)) in
        let same : value ≡ bytes = cc in subst IsWhole same written
    | inr ne ↦ whole at bytes (sym (get_or-set_other sectors k at (Bytes value) Unreadable ne) ∙ is)
  ]
]

applied_whole : (stable : Sectors) (ws : List Write) → AreWhole stable → ByRecursion (λ w. IsWhole w.value) ws
    → AreWhole (applied stable ws)
applied_whole stable [] whole written = whole
applied_whole stable (w ∷ ws) whole written =
    applied_whole (slice_set stable w.sector (Bytes w.value)) ws
    (set_whole stable w.sector w.value whole written.0) written.1

push_whole : (ws : List Write) (w : Write) → ByRecursion (λ w. IsWhole w.value) ws → IsWhole w.value
    → ByRecursion (λ w. IsWhole w.value) (ws ++ w ∷ [])
push_whole [] w written last = (last, tt)
push_whole (u ∷ ws) w written last = (written.0, push_whole ws w written.1 last)

-- each readable stable sector is of 512 bytes, and each pending write
pub record IsWholeDisk (d : Disk) : Type 0 where
  pub stable : AreWhole d.stable
  pub pending : ByRecursion (λ w. IsWhole w.value) d.pending

after_whole : (d : Disk) (cs : List Call) → IsWholeDisk d → ByRecursion (λ w. IsWhole w.value) (writes_of cs)
    → IsWholeDisk (disk_after d cs)
after_whole d [] whole written = whole
after_whole d (Written at value ∷ cs) whole written =
    let w : Write = record { sector = at; value = value } in
    after_whole (step d (Written at value)) cs
    (record { stable = whole.stable; pending = push_whole d.pending w whole.pending written.0 }) written.1
after_whole d (Synced ∷ cs) whole written =
    after_whole (step d Synced) cs
    (record { stable = applied_whole d.stable d.pending whole.stable whole.pending; pending = tt }) written

written_whole : (ws : List Write) (at : ℕ) (sector : Sector) (bytes : List ℕ) → ByRecursion (λ w. IsWhole w.value) ws
    → IsWritten ws at sector → sector ≡ Bytes bytes → IsWhole bytes
written_whole [] at sector bytes written none is = absurd none
written_whole (w ∷ ws) at sector bytes written (inl (here, inl value)) is =
    let same : w.value ≡ bytes = cc in subst IsWhole same written.0
written_whole (w ∷ ws) at sector bytes written (inl (here, inr unreadable)) is =
    let contradiction : ⊥ = cc in absurd contradiction
written_whole (w ∷ ws) at sector bytes written (inr later) is =
    written_whole ws at sector bytes written.1 later is

-- what a crash may leave of such a disk has 512 bytes in each readable sector
pub image_is_whole : (d : Disk) (c : Sectors) → IsWholeDisk d → MayLeave d c → AreWhole c
image_is_whole d c whole i at bytes is = elim (cases_lt at (length d.stable)) [
  | inr past ↦
      let none = get_or_past c at Unreadable (omega (arith, past, i.size)) in
      let contradiction : ⊥ = cc in absurd contradiction
  | inl lt ↦ elim (i.each at lt) [
    | inl same ↦ whole.stable at bytes (sym same ∙ is)
    | inr written ↦ written_whole d.pending at (sector_at c at) bytes whole.pending written is
  ]
]

pub recorded_whole : (stable : Sectors) (calls : List Call) → AreWhole stable → AreWholeWrites (writes_of calls)
    → IsWholeDisk (disk_after (at_rest stable) calls)
recorded_whole stable calls whole written =
    after_whole (at_rest stable) calls (record { stable = whole; pending = tt })
    (recursion_from_All (λ w. IsWhole w.value) (writes_of calls) written)

-- what is known of a device in memory that has stopped so often, with this record of calls since
abbrev pub recorded_state : ℕ → Sectors → List Call → State
recorded_state stops stable calls = record {
  keeps_model = ⊤;
  reads = shown (disk_after (at_rest stable) calls);
  image = MayLeave (disk_after (at_rest stable) calls);
  stops = stops;
  moment = length calls;
  image_since = MightLeaveSince stable calls;
}

pub recorded_is_coherent : {stops : ℕ} (stable : Sectors) (calls : List Call) → AreWhole stable
    → AreWholeWrites (writes_of calls)
    → IsCoherent (length stable) (recorded_state stops stable calls)
recorded_is_coherent stable calls whole written =
    let d = disk_after (at_rest stable) calls in
    record {
      counts_now = λ t c model le now. this_moment_counts stable calls t c le now;
      only_now = λ c model since. no_other_moment stable calls c since;
      some_disk = λ model. (d.stable, d.pending, λ c. (λ i. i, λ i. i));
      reads_are_image = λ model. shown_is_image d;
      image_size = λ c model i. image_has_size stable calls c i;
      image_whole = λ c model i. image_is_whole d c (recorded_whole stable calls whole written) i;
    }
