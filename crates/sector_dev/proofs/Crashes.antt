-- What a crash leaves of the device in memory.
use Rattle.std.proofs.Common.{◌≡◌, ℕ, List, [], sym, ◌∙◌, ap, subst}
use Rattle.sector_dev.specs.declared.memory.Call.{Call}
use Rattle.sector_dev.specs.declared.device.Fate.{Fate}
use Rattle.sector_dev.specs.Image.{Sectors, Image}
use Rattle.sector_dev.specs.Crash.{left_by}
use Rattle.sector_dev.specs.Device.{IsStable}
use Rattle.sector_dev.specs.Memory.{Disk, shown, disk_after, at_rest}
use Rattle.sector_dev.specs.Replay.{recorded_state}
use Rattle.sector_dev.proofs.Images.{stable_images}
use Rattle.sector_dev.proofs.Played.{left_is_image}

-- with nothing recorded since, what is left is stable
pub rest_is_stable : {stops : ℕ} (left next : Sectors) (calls : List Call) → calls ≡ [] → next ≡ left
    → IsStable left (recorded_state stops next calls)
rest_is_stable {stops = stops} left next calls cleared is =
    subst (λ (cs : List Call). IsStable left (recorded_state stops next cs)) (sym cleared)
    (record {
      reads = is;
      images = λ c. (λ i. (stable_images next c).0 i ∙ is, λ e. (stable_images next c).1 (e ∙ sym is));
    })

pub crash_is_image : (d : Disk) (fates : List Fate) (next : Sectors) (calls : List Call) → calls ≡ []
    → next ≡ left_by d.stable d.pending fates
    → Image d.stable d.pending (shown (disk_after (at_rest next) calls))
crash_is_image d fates next calls cleared is =
    subst (λ (cs : List Call). Image d.stable d.pending (shown (disk_after (at_rest next) cs))) (sym cleared)
    (subst (λ (x : Sectors). Image d.stable d.pending x) (sym is) (left_is_image d.stable d.pending fates))

-- with nothing recorded since, the disk is at rest
pub rest_is_disk : (left next : Sectors) (calls : List Call) → calls ≡ [] → next ≡ left
    → disk_after (at_rest next) calls ≡ at_rest left
rest_is_disk left next calls cleared is =
    ap (λ (cs : List Call). disk_after (at_rest next) cs) cleared ∙ ap at_rest is

-- what is played through slices of the sectors and of the calls
pub played_of : (sectors base : Sectors) (slice calls : List Call) (fates : List Fate) (next : Sectors)
    → sectors ≡ base → slice ≡ calls
    → next ≡ left_by (disk_after (at_rest sectors) slice).stable (disk_after (at_rest sectors) slice).pending fates
    → next ≡ left_by (disk_after (at_rest base) calls).stable (disk_after (at_rest base) calls).pending fates
played_of sectors base slice calls fates next same same_calls is =
    is ∙ (sym (ap (λ (s : Sectors). left_by (disk_after (at_rest s) slice).stable
    (disk_after (at_rest s) slice).pending fates) (sym same))
    ∙ ap (λ (cs : List Call). left_by (disk_after (at_rest base) cs).stable (disk_after (at_rest base) cs).pending fates)
    same_calls)
