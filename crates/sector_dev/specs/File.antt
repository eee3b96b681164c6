-- What a device on a file is when it is opened, and where its file still stands.
use Rattle.std.specs.Prelude.{◌≡◌, ◌≤◌, ◌-◌, ◌*◌, ◌/◌, ◌^◌, min, ℕ, refl}
use Rattle.std.proofs.Common.{◌∙◌}
use Rattle.sector_dev.specs.declared.positioned.Standing.{Standing}
use Rattle.sector_dev.specs.declared.positioned.Standing.TheVariants.{Named, Lost}
use Rattle.sector_dev.specs.Device.{State, IsCoherent}

-- at least this many sectors, and no failure so far
pub record IsOpened (least sectors failures : ℕ) : Type 0 where
  pub enough : least ≤ sectors
  pub none_failed : failures ≡ 0

-- the whole sectors of a file of so many bytes, as far as 32 bits count them
abbrev pub whole_sectors : ℕ → ℕ
whole_sectors bytes = min (bytes / 512) (2 ^ 32 - 1)

one_byte_short : whole_sectors 1023 ≡ 1
one_byte_short = refl

two_tebibytes : whole_sectors (2 ^ 41) ≡ 4294967295
two_tebibytes = refl

-- the file has its name still, and the bytes of so many sectors
abbrev pub IsInPlace : ℕ → Standing → Type 0
IsInPlace sectors (Named length) = 512 * sectors ≤ length
IsInPlace sectors Lost = ⊥

-- what holds of the state of a file with so many sectors holds of a device with as many
pub sized_is_coherent : (now : State) (whole sectors : ℕ) → IsCoherent whole now → (now.keeps_model → whole ≡ sectors)
    → IsCoherent sectors now
sized_is_coherent now whole sectors laws sized = record {
  counts_now = laws.counts_now;
  only_now = laws.only_now;
  some_disk = laws.some_disk;
  reads_are_image = laws.reads_are_image;
  image_size = λ c model i. laws.image_size c model i ∙ sized model;
  image_whole = laws.image_whole;
}
