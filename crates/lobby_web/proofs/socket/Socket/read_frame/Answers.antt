use Rattle.std.proofs.Common.{◌∙◌}
use Rattle.lobby_web.proofs.SendLemmas.{read-role}
use Rattle.lobby_web.proofs.socket.Socket.read_frame.Goals as goal

pub invariant_of-self : goal.invariant_of-self
invariant_of-self c =
    record { server = read-role c.read.result c.args.self.now.context c.read.new.self _ c.args.self.now.output.items c.read.new.output.items c.read.ensures.leaves c.read.ensures.err_state ∙ c.args.self.now.server }
