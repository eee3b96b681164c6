use Rattle.std.proofs.Common.{refl}
use Rattle.lobby_web.proofs.browser.Browser.say.Goals as goal

pub returns-in-Socket-clause-said : goal.returns-in-Socket-clause-said
returns-in-Socket-clause-said c = λ kept. rw c.in-Socket.is (c.say.new.self, refl, c.say.ensures.said kept)
