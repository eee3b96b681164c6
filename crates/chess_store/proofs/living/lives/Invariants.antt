use Rattle.std.proofs.Common.{◌≡◌, ◌≤◌, ◌↔◌, List, length, take}
use Rattle.std.specs.Vec.{vec_capacity}
use Rattle.rec_codec.specs.declared.limits.Limits.{Limits}
use Rattle.rec_codec.specs.declared.record.Entry.{Entry}
use Rattle.chess_store.specs.Devices.{AreLivedOn}
use Rattle.chess_store.specs.Lives.{IsBegun}
use Rattle.chess_store.proofs.LivesLemmas.{AreOver}
use Rattle.chess_store.proofs.living.lives.Given as goal

abbrev pub invariant-loop-life : goal.invariant-loop-life
invariant-loop-life g l =
    let state = g.D.Device.state in
    let failures = g.D.Device.failures in
    record {
      count : length l.reports.items ≡ l.life-index;
      room : length l.life-items ≤ vec_capacity l.reports;
      over : (limits : Limits) (k : List Entry) → IsBegun limits k (state l.fn.device)
          → AreOver limits k (failures l.fn.device) (take l.life-index l.life-items) l.reports.items (state l.left)
          (failures l.left);
      told : (state l.fn.device).keeps_model
          → AreLivedOn state failures g.D.Device.calls_left g.D.CrashDevice.stable g.D.CrashDevice.pending (take l.life-index l.life-items) l.reports.items
          l.fn.device l.left;
      within : l.life-index ≤ length l.life-items;
      counted : failures l.fn.device ≤ failures l.left;
      model : (state l.left).keeps_model ↔ (state l.fn.device).keeps_model;
      sectors : g.D.Device.sector_count l.left ≡ g.D.Device.sector_count l.fn.device;
    }
