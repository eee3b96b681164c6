use Rattle.lobby_talk.proofs.Fronts.{begins_as_act, begins_as_none, begins_not_brief}
use Rattle.lobby_talk.proofs.Known.{begins_brief, is_known}
use Rattle.lobby_talk.proofs.front.law_of_fronts.Goals as goal

pub returns-clause-hasty : goal.returns-clause-hasty
returns-clause-hasty c = λ text word long. begins_as_act text word long

pub returns-clause-others : goal.returns-clause-others
returns-clause-others c = λ text rest word. begins_as_none text rest word

pub returns-clause-long : goal.returns-clause-long
returns-clause-long c = λ text rest word. begins_not_brief text rest word

pub returns-clause-brief : goal.returns-clause-brief
returns-clause-brief c = λ text word long. begins_brief text word long

pub returns-clause-known : goal.returns-clause-known
returns-clause-known c = λ text asks name. is_known text asks name
