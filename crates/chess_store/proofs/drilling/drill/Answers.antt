use Rattle.std.proofs.Common.{arith, subst, sym, List}
use Rattle.sector_dev.specs.declared.memory.MemoryDevice.{MemoryDevice}
use Rattle.chess_store.specs.declared.plan.Lived.{Lived}
use Rattle.chess_store.specs.Drill.{AreCases, IsTold}
use Rattle.chess_store.proofs.DrillLemmas.{AreCases-more, told_fault}
use Rattle.chess_store.proofs.drilling.drill.Goals as goal

pub loop-case-preserved : goal.loop-case-preserved
loop-case-preserved c =
    let inv = c.loop-case.invariant in
    let longer = c.push_reserved.ensures in
    let so_far = c.loop-case.cases.items in
    let case = c.in_ok-live.field-0 in
    record {
      within = omega (arith, c.loop-case-test.true);
      count = omega (arith, inv.count, longer.len);
      room = omega (arith, inv.room, longer.capacity);
      are_cases = subst (λ (cases : List (Lived MemoryDevice)). AreCases 0 cases) (sym longer.items)
          (AreCases-more 0 c.loop-case.case so_far case inv.are_cases (omega (arith, inv.count)) c.in_ok-live.ensures);
    }

pub returns-clause-fault : goal.returns-clause-fault
returns-clause-fault c =
    let cases = c.loop-case.cases.items in
    let told = c.tallied-tally.result in
    told_fault cases told c.loop-case.invariant.are_cases
    (subst (λ (cs : List (Lived MemoryDevice)). IsTold cs told) c.deref.ensures.value c.tallied-tally.ensures)
