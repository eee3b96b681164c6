-- The state of a device of which nothing can be shown.
use Rattle.std.specs.Prelude.{ℕ, []}
use Rattle.sector_dev.specs.Device.{State, IsCoherent}

-- it keeps no model, as far as is shown
abbrev pub unknown : State
unknown = record { keeps_model = ⊥; reads = []; image = λ c. ⊥; stops = 0; moment = 0; image_since = λ t c. ⊥ }

pub unknown_is_coherent : (sector_count : ℕ) → IsCoherent sector_count unknown
unknown_is_coherent sector_count = record {
  counts_now = λ t c model le now. absurd model;
  only_now = λ c model since. absurd model;
  some_disk = λ model. absurd model;
  reads_are_image = λ model. absurd model;
  image_size = λ c model now. absurd model;
  image_whole = λ c model now. absurd model;
}
