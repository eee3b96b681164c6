use Rattle.std.proofs.Common.{◌∙◌, ap, sym, subst, []}
use Rattle.sector_dev.specs.declared.memory.MemoryDevice.{MemoryDevice}
use Rattle.sector_dev.specs.InMemory.{state_of, sector_count_of, zeros}
use Rattle.chess_store.specs.Lives.{IsBegun}
use Rattle.chess_store.proofs.InMemoryLemmas.{made_or_not, begun_empty, lived_out, not_begun}
use Rattle.chess_store.proofs.in_memory.lives_in_memory.Goals as goal

pub returns-in-Ok : goal.returns-in-Ok
returns-in-Ok c =
    let limits = c.args.limits in
    let device = c.in-Ok.store.journal.device in
    let zeroed = c.in_ok-device.ensures in
    let begun = subst (λ (d : MemoryDevice). IsBegun limits [] (state_of d)) (sym c.into_device.ensures)
    (begun_empty limits (state_of device) (c.in-Ok.ensures.model.1 zeroed.keeps_model)
    (c.in-Ok.ensures.means zeroed.keeps_model)) in
    lived_out limits c.args.plan.now.lives.items c.lives.result c.into_device.result.failures
    (ap (λ (d : MemoryDevice). d.failures) c.into_device.ensures ∙ c.in-Ok.ensures.cause ∙ zeroed.failures)
    (c.lives.ensures.reported limits [] begun) (c.lives.ensures.images limits [] begun)
    (c.lives.ensures.returned limits [] begun)
    (c.lives.ensures.sectors ∙ ap sector_count_of c.into_device.ensures ∙ c.in-Ok.ensures.sectors
    ∙ zeroed.sector_count ∙ c.need.ensures)

pub returns-in-Err : goal.returns-in-Err
returns-in-Err c =
    let limits = c.args.limits in
    let device = c.in_ok-device.device in
    let zeroed = c.in_ok-device.ensures in
    let refused = c.in-Err.ensures in
    not_begun limits c.args.plan.now.lives.items c.in-Err.refused.dev c.in-Err.refused.fault
    (made_or_not (state_of device).reads (sector_count_of device) limits c.in-Err.refused.fault device.failures
    c.in-Err.refused.dev.failures (zeroed.stable.reads ∙ ap zeros (sym zeroed.sector_count))
    (zeroed.sector_count ∙ c.need.ensures) zeroed.failures refused.fault (refused.refused zeroed.keeps_model)
    refused.cause_refused)
    (refused.sectors_refused ∙ zeroed.sector_count ∙ c.need.ensures)
