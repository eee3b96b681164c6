use Rattle.std.proofs.Common.{◌≡◌, ◌↔◌, false, map, take}
use Rattle.chess_store.specs.Devices.{HasGoneOn}
use Rattle.chess_store.specs.Kept.{IsStoreKept}
use Rattle.chess_store.proofs.ServingLemmas.{SoFar}
use Rattle.chess_store.proofs.serving.submit_all.Given as goal

abbrev pub invariant-loop-batch : goal.invariant-loop-batch
invariant-loop-batch g l =
    let state = g.D.Device.state in
    let failures = g.D.Device.failures in
    let sector_count = g.D.Device.sector_count in
    record {
      works : l.store.failed ≡ false;
      so_far : SoFar l.fn.store.table (map (λ b. b.items) (take l.batch-index l.batches)) l.store.table l.count l.refused;
      kept : IsStoreKept l.fn.store → IsStoreKept l.store;
      on : IsStoreKept l.fn.store → HasGoneOn (state l.fn.store.journal.device) (state l.store.journal.device);
      unfailed : failures l.store.journal.device ≡ failures l.fn.store.journal.device;
      model : (state l.store.journal.device).keeps_model ↔ (state l.fn.store.journal.device).keeps_model;
      sectors : sector_count l.store.journal.device ≡ sector_count l.fn.store.journal.device;
    }
