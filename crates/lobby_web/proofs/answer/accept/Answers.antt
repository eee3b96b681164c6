use Rattle.lobby_web.proofs.GrantLemmas.{accepted, refused}
use Rattle.lobby_web.proofs.answer.accept.Goals as goal

pub returns-in-Ok : goal.returns-in-Ok
returns-in-Ok c = accepted c.switch.result c.args.key.now c.in-Ok.accepted c.switch.new.response c.in-Ok.ensures c.switch.ensures

pub returns-in-Err : goal.returns-in-Err
returns-in-Err c = refused c.tell.result c.args.key.now c.in-Err.field-0 c.tell.new.response c.in-Err.ensures c.tell.ensures
