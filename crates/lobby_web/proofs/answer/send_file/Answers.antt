use Rattle.lobby_web.proofs.answer.send_file.Goals as goal

pub returns-in-Some : goal.returns-in-Some
returns-in-Some c = rw c.in-Some.is c.answer_file.ensures

pub returns-in-None : goal.returns-in-None
returns-in-None c = rw c.in-None.is c.tell.ensures
