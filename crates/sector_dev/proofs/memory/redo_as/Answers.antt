use Rattle.std.proofs.Common.{[], ◌∙◌, ◌≤◌, length, sym, ap, map, arith}
use Rattle.std.proofs.lemmas.List.{get_or_past, get_or-map, length-map}
use Rattle.sector_dev.specs.declared.device.Fate.TheVariants.{Lost}
use Rattle.sector_dev.specs.declared.memory.Call.TheVariants.{Written}
use Rattle.sector_dev.proofs.Settled.{more_fated, more_lost}
use Rattle.sector_dev.proofs.memory.redo_as.Goals as goal
use Rattle.sector_dev.proofs.memory.redo_as.Goals.{then-place-fates, else-place-fates}

pub loop-place-preserved : goal.loop-place-preserved
loop-place-preserved g c =
    let fate_of = g.F.TellsFate.fate_of in
    let places = c.args.fates.now in
    let i = c.loop-place.place in
    elim c.if-place-fates.branch [
      | then-place-fates w ↦
          let read = w.index-fates-place.result in
          w.sectors-is
          ∙ more_fated c.args.sectors.now c.args.calls.now (map fate_of places) i (Written 0 []) c.requires
          c.loop-place-test.true c.loop-place.sectors w.redo_one.new.sectors w.fate.result
          (w.fate.ensures ∙ (ap fate_of w.index-fates-place.is
          ∙ sym (get_or-map fate_of places i read Lost w.if-place-fates.true)))
          c.loop-place.invariant w.redo_one.ensures
      | else-place-fates w ↦
          let past : length (map fate_of places) ≤ i = omega (arith, w.if-place-fates.false, length-map places fate_of) in
          w.sectors-is
          ∙ more_lost c.args.sectors.now c.args.calls.now (map fate_of places) i (Written 0 []) c.requires
          c.loop-place-test.true c.loop-place.sectors (get_or_past (map fate_of places) i Lost past)
          c.loop-place.invariant
    ]
