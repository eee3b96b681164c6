use Rattle.std.proofs.Common.{◌≡◌, ◌<◌, length, drop, sym, subst, ◌∙◌, List, ℕ}
use Rattle.lobby_web.proofs.TakeLemmas.{whole, takes}
use Rattle.lobby_web.proofs.socket.Socket.take_frame.Goals as goal

pub returns-clause-takes : goal.returns-clause-takes
returns-clause-takes c =
    let old = c.args.self.now in
    let read = c.read_frame.new.self in
    let new = c.take_off.new.self in
    let arm = c.in-Ok-Complete in
    let returns = rw arm.field-0-is at arm.ensures.returns in
    let keeps = rw arm.field-0-is at arm.ensures.keeps_rest in
    let w = whole old.context read.context old.input.items read.input.items old.output.items read.output.items arm.step c.take_off.result old.server returns arm.ensures.leaves keeps c.take_off.ensures.told in
    let rest : new.input.items ≡ drop w.taken.0 old.input.items = c.take_off.ensures.rest ∙ w.rest in
    takes old.context old.input.items old.output.items new c.take_off.result
    (record {
      taken = w.taken;
      read = w.read;
      state = c.take_off.ensures.kept.0 ∙ w.state;
      rest = rest;
      reply = c.take_off.ensures.kept.1 ∙ w.output;
      shorter = subst (λ (l : List ℕ). length l < length old.input.items) (sym rest) w.shorter;
      is = w.is;
    })
