use Rattle.std.proofs.Common.{refl}
use Rattle.lobby_web.proofs.browser.Browser.ping.Goals as goal

pub returns-in-Socket : goal.returns-in-Socket
returns-in-Socket c = rw c.in-Socket.is (c.ping.new.self, refl, c.ping.ensures)
