-- Where a record of calls is settled, and what the calls after that place leave.
use Rattle.std.proofs.Common.{◌≡◌, ◌≤◌, ◌<◌, ◌+◌, ℕ, List, [], ◌∷◌, ◌++◌, length, take, drop, refl, sym, ◌∙◌, ap, subst, arith, length-append, suc, append-nil, get_or, length-take-le, zero}
use Rattle.std.specs.Prelude.{slice_set, slice_index_or}
use Rattle.std.proofs.lemmas.List.{take_all, take-append-le, drop-append-le, take_more}
use Rattle.std.proofs.Math.ListN.{drop_of_length-le}
use Rattle.sector_dev.specs.declared.memory.Call.{Call}
use Rattle.sector_dev.specs.declared.memory.Call.TheVariants.{Written, Synced}
use Rattle.sector_dev.specs.declared.device.Sector.TheVariants.{Bytes, Unreadable}
use Rattle.sector_dev.specs.declared.device.Fate.{Fate}
use Rattle.sector_dev.specs.declared.device.Fate.TheVariants.{Lost, Kept, Unreadable as Ruined}
use Rattle.sector_dev.specs.Image.{Sectors, Write, applied}
use Rattle.sector_dev.specs.Crash.{left_by}
use Rattle.sector_dev.specs.Memory.{Disk, shown, step, disk_after, at_rest, writes_of, IsUnsynced, IsSettledAt}
use Rattle.sector_dev.proofs.Images.{applied-append}
use Rattle.sector_dev.proofs.Moments.{disk_after-append}

pub writes_of-append : (xs ys : List Call) → writes_of (xs ++ ys) ≡ writes_of xs ++ writes_of ys
writes_of-append [] ys = refl
writes_of-append (Written at v ∷ xs) ys =
    ap (λ (ws : List Write). record { sector = at; value = v } ∷ ws) (writes_of-append xs ys)
writes_of-append (Synced ∷ xs) ys = writes_of-append xs ys

pub applied-append_all : (stable : Sectors) (ws us : List Write)
    → applied stable (ws ++ us) ≡ applied (applied stable ws) us
applied-append_all stable [] us = refl
applied-append_all stable (w ∷ ws) us = applied-append_all (slice_set stable w.sector (Bytes w.value)) ws us

-- what reads give is each write over the one before it, synced or not
shown_all : (d : Disk) (cs : List Call) → shown (disk_after d cs) ≡ applied (shown d) (writes_of cs)
shown_all d [] = refl
shown_all d (Written at v ∷ cs) =
    shown_all (step d (Written at v)) cs
    ∙ ap (λ (s : Sectors). applied s (writes_of cs))
    (applied-append d.stable d.pending (record { sector = at; value = v }))
shown_all d (Synced ∷ cs) = shown_all (step d Synced) cs

unsynced-append : (xs : List Call) (at : ℕ) (v : List ℕ) → IsUnsynced xs → IsUnsynced (xs ++ Written at v ∷ [])
unsynced-append [] at v u = tt
unsynced-append (Written a x ∷ xs) at v u = unsynced-append xs at v u
unsynced-append (Synced ∷ xs) at v u = absurd u

-- the disk of a record that is settled at a place
abbrev disk_at : Sectors → List Call → List Call → Disk
disk_at stable front back = record { stable = applied stable (writes_of front); pending = writes_of back }

pub settled_written : (xs : List Call) (n at : ℕ) (v : List ℕ) → IsSettledAt xs n
    → IsSettledAt (xs ++ Written at v ∷ []) n
settled_written xs n at v s =
    let front = take-append-le n xs (Written at v ∷ []) s.within in
    let back = drop-append-le n xs (Written at v ∷ []) s.within in
    record {
      within = omega (arith, s.within, length-append xs (Written at v ∷ []));
      unsynced = subst IsUnsynced (sym back) (unsynced-append (drop n xs) at v s.unsynced);
      disk = λ stable.
          disk_after-append (at_rest stable) xs (Written at v)
          ∙ (ap (λ (d : Disk). step d (Written at v)) (s.disk stable)
          ∙ (ap (λ (ws : List Write). record { stable = applied stable (writes_of (take n xs)); pending = ws })
          (sym (writes_of-append (drop n xs) (Written at v ∷ [])))
          ∙ (ap (λ (cs : List Call). disk_at stable cs (drop n xs ++ Written at v ∷ [])) (sym front)
          ∙ ap (λ (cs : List Call). disk_at stable (take n (xs ++ Written at v ∷ [])) cs) (sym back))));
    }

pub settled_synced : (xs : List Call) → IsSettledAt (xs ++ Synced ∷ []) (length xs + 1)
settled_synced xs =
    let whole : length (xs ++ Synced ∷ []) ≤ length xs + 1 = omega (arith, length-append xs (Synced ∷ [])) in
    let front = take_all (length xs + 1) (xs ++ Synced ∷ []) whole in
    let back = drop_of_length-le (xs ++ Synced ∷ []) whole in
    record {
      within = omega (arith, length-append xs (Synced ∷ []));
      unsynced = subst IsUnsynced (sym back) tt;
      disk = λ stable.
          disk_after-append (at_rest stable) xs Synced
          ∙ (ap at_rest (shown_all (at_rest stable) xs
          ∙ ap (applied stable) (sym (writes_of-append xs (Synced ∷ []) ∙ append-nil (writes_of xs))))
          ∙ (ap (λ (cs : List Call). disk_at stable cs []) (sym front)
          ∙ ap (λ (cs : List Call). disk_at stable (take (length xs + 1) (xs ++ Synced ∷ [])) cs) (sym back)));
    }

-- the fate of the write at this place
abbrev pub fate_at : List Fate → ℕ → Fate
fate_at fates place = slice_index_or fates place Lost

-- one write more meets the fate at its place
pub left_by-append : (stable : Sectors) (ws : List Write) (w : Write) (fates : List Fate)
    → left_by stable (ws ++ w ∷ []) fates
    ≡ left_by (left_by stable ws fates) (w ∷ []) (fate_at fates (length ws) ∷ [])
left_by-append stable [] w [] = refl
left_by-append stable [] w (Lost ∷ fates) = refl
left_by-append stable [] w (Kept ∷ fates) = refl
left_by-append stable [] w (Ruined ∷ fates) = refl
left_by-append stable (u ∷ ws) w [] = refl
left_by-append stable (u ∷ ws) w (Lost ∷ fates) = left_by-append stable ws w fates
left_by-append stable (u ∷ ws) w (Kept ∷ fates) = left_by-append (slice_set stable u.sector (Bytes u.value)) ws w fates
left_by-append stable (u ∷ ws) w (Ruined ∷ fates) = left_by-append (slice_set stable u.sector Unreadable) ws w fates

-- a kept write is made
pub left_by-kept : (stable : Sectors) (call : Call)
    → left_by stable (writes_of (call ∷ [])) (Kept ∷ []) ≡ applied stable (writes_of (call ∷ []))
left_by-kept stable (Written at v) = refl
left_by-kept stable Synced = refl

pub length-writes_of : (xs : List Call) → IsUnsynced xs → length (writes_of xs) ≡ length xs
length-writes_of [] u = refl
length-writes_of (Written at v ∷ xs) u = ap (λ (n : ℕ). suc n) (length-writes_of xs u)
length-writes_of (Synced ∷ xs) u = absurd u

-- one call more is settled or not
pub more_settled_written : (calls : List Call) (i n at : ℕ) (v : List ℕ) (d : Call) → i < length calls
    → get_or calls i d ≡ Written at v → IsSettledAt (take i calls) n → IsSettledAt (take (i + 1) calls) n
more_settled_written calls i n at v d lt is s =
    subst (λ (cs : List Call). IsSettledAt cs n)
    (sym (take_more calls i d lt ∙ ap (λ (x : Call). take i calls ++ x ∷ []) is))
    (settled_written (take i calls) n at v s)

pub more_settled_synced : (calls : List Call) (i : ℕ) (d : Call) → i < length calls → get_or calls i d ≡ Synced
    → IsSettledAt (take (i + 1) calls) (i + 1)
more_settled_synced calls i d lt is =
    subst (λ (n : ℕ). IsSettledAt (take (i + 1) calls) (n + 1)) (length-take-le i calls (omega (arith, lt)))
    (subst (λ (cs : List Call). IsSettledAt cs (length (take i calls) + 1))
    (sym (take_more calls i d lt ∙ ap (λ (x : Call). take i calls ++ x ∷ []) is)) (settled_synced (take i calls)))

-- one write more is made
pub more_redone : (base now next : Sectors) (calls : List Call) (i : ℕ) (d : Call) → i < length calls
    → now ≡ applied base (writes_of (take i calls))
    → next ≡ left_by now (writes_of (get_or calls i d ∷ [])) (Kept ∷ [])
    → next ≡ applied base (writes_of (take (i + 1) calls))
more_redone base now next calls i d lt was is =
    is ∙ (left_by-kept now (get_or calls i d)
    ∙ (ap (λ (s : Sectors). applied s (writes_of (get_or calls i d ∷ []))) was
    ∙ sym (ap (λ (cs : List Call). applied base (writes_of cs)) (take_more calls i d lt)
    ∙ (ap (applied base) (writes_of-append (take i calls) (get_or calls i d ∷ []))
    ∙ applied-append_all base (writes_of (take i calls)) (writes_of (get_or calls i d ∷ []))))))

unsynced-take : (xs : List Call) (i : ℕ) → IsUnsynced xs → IsUnsynced (take i xs)
unsynced-take xs zero u = tt
unsynced-take [] (suc i) u = tt
unsynced-take (Written at v ∷ xs) (suc i) u = unsynced-take xs i u
unsynced-take (Synced ∷ xs) (suc i) u = absurd u

-- each call is a write
unsynced_at : (xs : List Call) (i : ℕ) (d : Call) → IsUnsynced xs → i < length xs → (w : Write)
    × (writes_of (get_or xs i d ∷ []) ≡ w ∷ [])
unsynced_at [] i d u lt = absurd (omega arith)
unsynced_at (Written at v ∷ xs) zero d u lt = (record { sector = at; value = v }, refl)
unsynced_at (Written at v ∷ xs) (suc i) d u lt = unsynced_at xs i d u (omega arith)
unsynced_at (Synced ∷ xs) i d u lt = absurd u

module _ (base : Sectors) (calls : List Call) (fates : List Fate) (i : ℕ) (d : Call)
    (unsynced : IsUnsynced calls) (lt : i < length calls) where
  abbrev front : List Write
  front = writes_of (take i calls)

  abbrev here : (w : Write) × (writes_of (get_or calls i d ∷ []) ≡ w ∷ [])
  here = unsynced_at calls i d unsynced lt

  length-front : length front ≡ i
  length-front = length-writes_of (take i calls) (unsynced-take calls i unsynced)
      ∙ length-take-le i calls (omega (arith, lt))

  more_front : writes_of (take (i + 1) calls) ≡ front ++ here.0 ∷ []
  more_front = ap writes_of (take_more calls i d lt)
      ∙ (writes_of-append (take i calls) (get_or calls i d ∷ []) ∙ ap (λ (ws : List Write). front ++ ws) here.1)

  -- one write more meets its fate
  pub more_fated : (now next : Sectors) (fate : Fate) → fate ≡ fate_at fates i → now ≡ left_by base front fates
      → next ≡ left_by now (writes_of (get_or calls i d ∷ [])) (fate ∷ [])
      → next ≡ left_by base (writes_of (take (i + 1) calls)) fates
  more_fated now next fate place was is =
      is ∙ (ap (λ (s : Sectors). left_by s (writes_of (get_or calls i d ∷ [])) (fate ∷ [])) was
      ∙ (ap (λ (ws : List Write). left_by (left_by base front fates) ws (fate ∷ [])) here.1
      ∙ (ap (λ (f : Fate). left_by (left_by base front fates) (here.0 ∷ []) (f ∷ []))
      (place ∙ ap (λ (n : ℕ). fate_at fates n) (sym length-front))
      ∙ (sym (left_by-append base front here.0 fates)
      ∙ ap (λ (ws : List Write). left_by base ws fates) (sym more_front)))))

  -- one write more has no place, and is lost
  pub more_lost : (now : Sectors) → fate_at fates i ≡ Lost → now ≡ left_by base front fates
      → now ≡ left_by base (writes_of (take (i + 1) calls)) fates
  more_lost now place was =
      was ∙ (ap (λ (f : Fate). left_by (left_by base front fates) (here.0 ∷ []) (f ∷ []))
      (sym place ∙ ap (λ (n : ℕ). fate_at fates n) (sym length-front))
      ∙ (sym (left_by-append base front here.0 fates)
      ∙ ap (λ (ws : List Write). left_by base ws fates) (sym more_front)))

-- what is written back of a slice is the slice
pub written_back : (n : ℕ) (new old : Sectors) → length new ≡ length old → n ≡ length old
    → take n (new ++ drop (length new) old) ≡ new
written_back n new old same is = take-append-le n new (drop (length new) old) (omega (arith, same, is))
    ∙ take_all n new (omega (arith, same, is))
