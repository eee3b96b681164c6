use Rattle.chess_san.proofs.Counters.{threatens-after}
use Rattle.chess_san.proofs.threat.threat_of.Goals as goal

pub returns : goal.returns
returns c =
    threatens-after c.args.board.now c.args.mv c.after.result c.threat_on.result c.after.ensures c.threat_on.ensures
