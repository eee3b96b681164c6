-- By the first byte, and by the first line.
use Rattle.std.proofs.Common.{◌∙◌, refl, sym, arith}
use Rattle.chess_sockets.proofs.ProtocolLemmas.{begin_tls, begin_line, begin_long, begin_none}
use Rattle.chess_sockets.proofs.incoming.are_of_another_protocol.Goals as goal

pub returns-then-starts_with : goal.returns-then-starts_with
returns-then-starts_with c =
    let other = begin_tls c.args.bytes.now (sym c.starts_with.ensures.value ∙ c.if-starts_with.true) in
    (λ is. other, λ has. refl)

pub returns-in-Some : goal.returns-in-Some
returns-in-Some c =
    begin_long c.args.bytes.now c.in-Some.at (sym c.starts_with.ensures.value ∙ c.if-starts_with.false)
    c.in-Some.ensures.found.0 (omega arith) c.in-Some.ensures.found.1 c.in-Some.ensures.first

pub returns-in-Some-2 : goal.returns-in-Some-2
returns-in-Some-2 c =
    begin_line c.args.bytes.now c.in-Some.at c.is_request.result (sym c.starts_with.ensures.value ∙ c.if-starts_with.false)
    c.in-Some.ensures.found.0 (omega arith) c.in-Some.ensures.found.1 c.in-Some.ensures.first c.is_request.ensures

pub returns-in-None : goal.returns-in-None
returns-in-None c =
    begin_none c.args.bytes.now (sym c.starts_with.ensures.value ∙ c.if-starts_with.false) c.in-None.ensures.none
