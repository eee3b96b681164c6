use Rattle.lobby_talk.proofs.Saying.{said_says}
use Rattle.lobby_talk.proofs.said.say_decided.Goals as goal

pub returns-in_ok-decided-clause-says : goal.returns-in_ok-decided-clause-says
returns-in_ok-decided-clause-says c =
    said_says c.args.shown.now c.args.number c.args.at c.args.talk.now c.decided.new.self c.in_ok-decided.ensures.moves

pub returns-in_ok-said-clause-says : goal.returns-in_ok-said-clause-says
returns-in_ok-said-clause-says c =
    said_says c.args.shown.now c.args.number c.args.at c.args.talk.now c.said.new.self c.in_ok-said.ensures.moves
