use Rattle.std.proofs.Common.{◌∙◌, List, length, ap, subst}
use Rattle.chess_hub.specs.declared.turn.TurnLine.{TurnLine}
use Rattle.chess_hub.specs.Answers.{name_at, commands_of}
use Rattle.chess_hub.specs.Delivery.{HaveRoom}
use Rattle.chess_hub.proofs.hub.gather.Goals as goal

pub returns-clause-commands : goal.returns-clause-commands
returns-clause-commands c =
    c.in_ok-commands.ensures.commands
    ∙ ap (λ (ts : List TurnLine). commands_of c.args.at (name_at c.args.sessions.now) ts) c.deref.ensures.value

pub returns-clause-room : goal.returns-clause-room
returns-clause-room c =
    subst (λ (ts : List TurnLine). HaveRoom (length ts) c.reserve.new.self.slab ts) c.deref-2.ensures.value
    c.in_ok-reserve.ensures.room
