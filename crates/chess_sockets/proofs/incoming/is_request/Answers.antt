-- The version stands here, or behind.
use Rattle.std.proofs.Common.{◌∙◌, refl, sym}
use Rattle.chess_sockets.proofs.ProtocolLemmas.{request_here, request_on, request_none}
use Rattle.chess_sockets.proofs.incoming.is_request.Goals as goal

pub loop-after-init : goal.loop-after-init
loop-after-init c = (λ is. is, λ is. is)

pub returns-then-starts_with : goal.returns-then-starts_with
returns-then-starts_with c =
    let here = c.loop-after.invariant.1
    (request_here c.loop-after.rest.now (sym c.starts_with.ensures.value ∙ c.if-starts_with.true)) in
    (λ is. here, λ has. refl)

pub loop-after-preserved : goal.loop-after-preserved
loop-after-preserved c =
    request_on c.args.line.now c.loop-after.rest.now _ c.in-Some.after.now c.in-Some.ensures.cases.0
    (sym c.starts_with.ensures.value ∙ c.if-starts_with.false) c.loop-after.invariant

pub returns : goal.returns
returns c =
    request_none c.args.line.now c.loop-after.rest.now c.in_default.ensures.cases c.loop-after.invariant
