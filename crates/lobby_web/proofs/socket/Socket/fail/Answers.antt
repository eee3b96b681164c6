use Rattle.std.proofs.Common.{[], Some, refl, ◌∙◌}
use Rattle.lobby_web.proofs.SendLemmas.{close-role, closes}
use Rattle.lobby_web.proofs.socket.Socket.fail.Goals as goal

pub invariant_of-self : goal.invariant_of-self
invariant_of-self c =
    record { server = close-role c.close.result c.args.self.now.context c.close.new.self (Some (c.args.code, [])) c.args.self.now.output.items c.close.new.output.items c.close.ensures.ok c.close.ensures.err_state ∙ c.args.self.now.server }

pub returns-clause-ends : goal.returns-clause-ends
returns-clause-ends c =
    let role = close-role c.close.result c.args.self.now.context c.close.new.self (Some (c.args.code, [])) c.args.self.now.output.items c.close.new.output.items c.close.ensures.ok c.close.ensures.err_state ∙ c.args.self.now.server in
    (refl, closes c.close.result c.args.self.now.context c.close.new.self c.args.code c.args.self.now.output.items c.close.new.output.items role c.close.ensures.ok c.close.ensures.err_output)
