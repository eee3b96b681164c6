use Rattle.sector_journal.specs.Calls.{OnlyReads}
use Rattle.chess_store.proofs.OpenLemmas.{empty_means, leaves_created, created_kept, refusal_of, unless_of}
use Rattle.chess_store.proofs.store.Store.create.Goals as goal

pub returns-in-Ok-clause-kept : goal.returns-in-Ok-clause-kept
returns-in-Ok-clause-kept g c = λ model.
    created_kept c.args.limits c.requires c.in-Ok.ensures.header c.new.ensures (c.in-Ok.ensures.keeps model)
    c.in-Ok.ensures.idle

pub returns-in-Ok-clause-means : goal.returns-in-Ok-clause-means
returns-in-Ok-clause-means g c = λ model image is.
    empty_means c.args.limits c.requires image (c.in-Ok.ensures.formatted model image is)

pub returns-in-Ok-clause-any_moment : goal.returns-in-Ok-clause-any_moment
returns-in-Ok-clause-any_moment g c = λ rest.
    leaves_created (g.D.Device.state c.args.device) (g.D.Device.state c.in-Ok.journal.device) c.args.limits c.requires
    (c.in-Ok.ensures.any_moment rest)

pub returns-in-Err-clause-any_moment_refused : goal.returns-in-Err-clause-any_moment_refused
returns-in-Err-clause-any_moment_refused g c = λ rest.
    leaves_created (g.D.Device.state c.args.device) (g.D.Device.state c.in-Err.refused.dev) c.args.limits c.requires
    (c.in-Err.ensures.any_moment_refused rest)

pub returns-in-Err-clause-refused : goal.returns-in-Err-clause-refused
returns-in-Err-clause-refused g c = λ model.
    refusal_of (g.D.Device.state c.args.device).reads (g.D.Device.sector_count c.args.device) c.args.limits
    c.in-Err.refused.fault c.from.result c.from.ensures c.in-Err.ensures.fault (c.in-Err.ensures.refused model)

pub returns-in-Err-clause-unchanged : goal.returns-in-Err-clause-unchanged
returns-in-Err-clause-unchanged g c =
    unless_of c.in-Err.refused.fault c.from.result
    (OnlyReads {D = g.row.D.Denot} g.D.Device.state g.D.Device.sector_count c.args.device c.in-Err.refused.dev)
    c.from.ensures c.in-Err.ensures.unchanged
