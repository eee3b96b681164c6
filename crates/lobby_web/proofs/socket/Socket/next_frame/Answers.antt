use Rattle.std.proofs.Common.{ℕ, List, sym, subst, ◌∙◌}
use Rattle.websocket.specs.Connection.{Connection}
use Rattle.lobby_web.specs.declared.socket.Frame.TheVariants as Is
use Rattle.lobby_web.specs.Frames.{Runs}
use Rattle.lobby_web.specs.Talking.{TakesWhole}
use Rattle.lobby_web.proofs.GivesLemmas.{one-more-told}
use Rattle.lobby_web.proofs.socket.Socket.next_frame.Goals as goal

pub loop-self-preserved : goal.loop-self-preserved
loop-self-preserved c =
    let old = c.args.self.now in
    let now = c.loop-self.self in
    let new = c.take_frame.new.self in
    let inv = c.loop-self.invariant in
    let last = subst (λ (o : List ℕ). TakesWhole now.context now.input.items o new Is.Quiet) inv.3 c.in-Quiet.ensures.takes in
    let one = one-more-told old new Is.Quiet inv.0 now.context now.input.items inv.1 inv.2 last (λ e. cc e) in
    let runs = subst (λ (k : Connection). Runs old.context old.input.items one.frames k one.rest) (sym one.state) one.runs in
    let whole = subst (λ (i : List ℕ). Runs old.context old.input.items one.frames new.context i) (sym one.input) runs in
    (one.frames, whole, one.found, one.output, c.take_frame.ensures.over ∙ inv.4)
