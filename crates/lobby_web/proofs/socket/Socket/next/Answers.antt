use Rattle.std.proofs.Common.{ℕ, List, inl, refl, subst, ◌∙◌}
use Rattle.websocket.specs.declared.protocol.frame.coding.CloseCode.TheVariants as Code
use Rattle.lobby_web.specs.declared.socket.Frame.TheVariants as Is
use Rattle.lobby_web.proofs.GivesLemmas.{Read, one-more, one-more-told, read-none, lost, gives-text, gives-waits, gives-over, gives-lost, gives-failed, gives-nothing}
use Rattle.lobby_web.proofs.socket.Socket.next.Goals as goal

pub returns-then-self : goal.returns-then-self
returns-then-self c = gives-nothing c.args.self.now c.args.self.now c.if-self.true (refl, refl, refl, refl)

pub returns-in-Text : goal.returns-in-Text
returns-in-Text c =
    let r = c.in-Text.ensures.reaches in
    gives-text c.args.self.now c.next_frame.new.self _ c.if-self.false (c.next_frame.ensures.over ∙ c.if-self.false)
    (one-more-told c.args.self.now c.next_frame.new.self (Is.Text c.in-Text.text) r.frames r.conn r.rest r.runs r.quiet r.last (λ e. cc e))

pub returns-in-Waits : goal.returns-in-Waits
returns-in-Waits c =
    let r = c.in-Waits.ensures.reaches in
    gives-waits c.args.self.now c.next_frame.new.self r.last.0.0 r.frames r.conn r.rest c.if-self.false (c.next_frame.ensures.over ∙ c.if-self.false)
    r.runs r.quiet r.last.1 r.last.0.1

pub returns-in-Quiet : goal.returns-in-Quiet
returns-in-Quiet c = absurd (c.in-Quiet.ensures.heard refl)

pub returns-in-Binary : goal.returns-in-Binary
returns-in-Binary c =
    let r = c.in-Binary.ensures.reaches in
    gives-over c.args.self.now c.next_frame.new.self c.fail.new.self Code.Unsupported c.if-self.false c.fail.ensures.over
    (one-more-told c.args.self.now c.next_frame.new.self Is.Binary r.frames r.conn r.rest r.runs r.quiet r.last (λ e. cc e)) c.fail.ensures.ends.1

pub returns-in-Close : goal.returns-in-Close
returns-in-Close c =
    let r = c.in-Close.ensures.reaches in
    gives-over c.args.self.now c.next_frame.new.self _ Code.Normal c.if-self.false refl
    (one-more-told c.args.self.now c.next_frame.new.self Is.Close r.frames r.conn r.rest r.runs r.quiet r.last (λ e. cc e)) (inl refl)

pub returns-in-Lost : goal.returns-in-Lost
returns-in-Lost c =
    let r = c.in-Lost.ensures.reaches in
    let one = one-more c.args.self.now c.next_frame.new.self Is.Lost r.frames r.conn r.rest r.runs r.quiet r.last in
    let bytes = lost r.last.taken.1.message r.last.is in
    gives-lost c.args.self.now c.next_frame.new.self _ Code.Normal bytes.0 c.if-self.false refl (subst (λ (l : List (List ℕ)). Read c.args.self.now c.next_frame.new.self l) bytes.1 one) refl

pub returns-in-Slow : goal.returns-in-Slow
returns-in-Slow c =
    let r = c.in-Slow.ensures.reaches in
    gives-over c.args.self.now c.next_frame.new.self _ Code.Normal c.if-self.false refl
    (read-none c.args.self.now c.next_frame.new.self r.frames r.conn r.rest r.runs r.quiet r.last) (inl refl)

pub returns-in-Bad : goal.returns-in-Bad
returns-in-Bad c =
    let r = c.in-Bad.ensures.reaches in
    gives-failed c.args.self.now c.next_frame.new.self c.fail-in-Bad.new.self c.code_of.result r.frames r.conn r.rest c.if-self.false c.fail-in-Bad.ensures.over
    r.runs r.quiet r.last.2 c.fail-in-Bad.ensures.ends.1
