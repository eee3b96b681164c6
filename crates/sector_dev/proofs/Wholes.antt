-- Readable sectors keep their 512 bytes.
use Rattle.std.proofs.Common.{◌≡◌, ◌<◌, ℕ, inl, inr, length, get_or, List, [], ◌∷◌, ◌++◌, sym, subst, arith}
use Rattle.std.specs.Prelude.{replicate, Result, Ok, Err, OnOk, OnErr}
use Rattle.std.proofs.lemmas.Bool.{cases_lt}
use Rattle.std.proofs.lemmas.List.{get_or_past, get_or-replicate, length-replicate}
use Rattle.std.proofs.lemmas.List.Elements.{All-nil, All-cons, All-append, All-replicate}
use Rattle.sector_dev.specs.declared.memory.Call.{Call}
use Rattle.sector_dev.specs.declared.memory.Call.TheVariants.{Written, Synced}
use Rattle.sector_dev.specs.declared.device.Sector.TheVariants.{Bytes, Unreadable}
use Rattle.sector_dev.specs.declared.device.Fate.{Fate}
use Rattle.sector_dev.specs.Image.{Sectors, Image}
use Rattle.sector_dev.specs.Crash.{left_by}
use Rattle.sector_dev.specs.InMemory.{zeros}
use Rattle.sector_dev.specs.Memory.{disk_after, at_rest, writes_of}
use Rattle.sector_dev.specs.Replay.{image_is_whole, recorded_whole}
use Rattle.sector_dev.specs.Whole.{IsWhole, AreWhole, AreWholeWrites}
use Rattle.sector_dev.proofs.Played.{left_is_image}
use Rattle.sector_dev.proofs.Moments.{any_default}
use Rattle.sector_dev.proofs.Settled.{writes_of-append}

pub bytes_whole : (bytes : List ℕ) → ((i : ℕ) → get_or bytes i 0 < 256) → length bytes ≡ 512 → IsWhole bytes
bytes_whole bytes fit count = record {
  count = count;
  range = λ i d lt. subst (λ (byte : ℕ). byte < 256) (any_default bytes i 0 d lt) (fit i);
}

zero_whole : IsWhole (replicate 512 0)
zero_whole = record {
  count = length-replicate {A = ℕ} 512 0;
  range = All-replicate (λ (byte : ℕ). byte < 256) 512 0 (omega arith);
}

filled_whole : (n : ℕ) (value : List ℕ) → IsWhole value → AreWhole (replicate n (Bytes value))
filled_whole n value whole at bytes is = elim (cases_lt at n) [
  | inr past ↦
      let none = get_or_past (replicate n (Bytes value)) at Unreadable
      (omega (arith, past, length-replicate n (Bytes value))) in
      let contradiction : ⊥ = cc in absurd contradiction
  | inl lt ↦
      let here = get_or-replicate n at (Bytes value) Unreadable lt in
      let same : value ≡ bytes = cc in subst IsWhole same whole
]

pub zeros_whole : (n : ℕ) (sectors : Sectors) → sectors ≡ zeros n → AreWhole sectors
zeros_whole n sectors same = subst AreWhole (sym same) (filled_whole n (replicate 512 0) zero_whole)

pub no_writes_whole : (calls : List Call) → calls ≡ [] → AreWholeWrites (writes_of calls)
no_writes_whole calls none =
    subst (λ (cs : List Call). AreWholeWrites (writes_of cs)) (sym none) (All-nil (λ w. IsWhole w.value))

more_whole : (calls next : List Call) (x : Call) → next ≡ calls ++ x ∷ [] → AreWholeWrites (writes_of calls)
    → AreWholeWrites (writes_of (x ∷ [])) → AreWholeWrites (writes_of next)
more_whole calls next x is whole last =
    subst (λ (cs : List Call). AreWholeWrites (writes_of cs)) (sym is)
    (subst AreWholeWrites (sym (writes_of-append calls (x ∷ [])))
    (All-append (λ w. IsWhole w.value) (writes_of calls) (writes_of (x ∷ [])) whole last))

same_whole : (calls next : List Call) → next ≡ calls → AreWholeWrites (writes_of calls)
    → AreWholeWrites (writes_of next)
same_whole calls next is whole = subst (λ (cs : List Call). AreWholeWrites (writes_of cs)) (sym is) whole

-- after a write that is recorded or fails
pub written_whole : {T E : Type 0} (r : Result T E) (calls next : List Call) (at : ℕ) (value : List ℕ)
    → OnOk r (next ≡ calls ++ Written at value ∷ []) → OnErr r (next ≡ calls) → AreWholeWrites (writes_of calls)
    → IsWhole value → AreWholeWrites (writes_of next)
written_whole (Ok x) calls next at value ok err whole last =
    more_whole calls next (Written at value) ok whole
    (All-cons (λ w. IsWhole w.value) (record { sector = at; value = value }) [] last (All-nil (λ w. IsWhole w.value)))
written_whole (Err e) calls next at value ok err whole last = same_whole calls next err whole

-- after a sync that is recorded or fails
pub synced_whole : {T E : Type 0} (r : Result T E) (calls next : List Call)
    → OnOk r (next ≡ calls ++ Synced ∷ []) → OnErr r (next ≡ calls) → AreWholeWrites (writes_of calls)
    → AreWholeWrites (writes_of next)
synced_whole (Ok x) calls next ok err whole = more_whole calls next Synced ok whole (All-nil (λ w. IsWhole w.value))
synced_whole (Err e) calls next ok err whole = same_whole calls next err whole

-- what a crash leaves
pub left_whole : (stable : Sectors) (calls : List Call) (fates : List Fate) (next : Sectors) → AreWhole stable
    → AreWholeWrites (writes_of calls)
    → next ≡ left_by (disk_after (at_rest stable) calls).stable (disk_after (at_rest stable) calls).pending fates
    → AreWhole next
left_whole stable calls fates next whole written is =
    let d = disk_after (at_rest stable) calls in
    image_is_whole d next (recorded_whole stable calls whole written)
    (subst (λ (c : Sectors). Image d.stable d.pending c) (sym is) (left_is_image d.stable d.pending fates))
