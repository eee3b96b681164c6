use Rattle.std.proofs.Common.{refl}
use Rattle.lobby_web.proofs.browser.taken.Goals as goal

pub returns-in-Socket : goal.returns-in-Socket
returns-in-Socket c =
    rw c.in-Socket.is (record { takes = (c.take.new.self, refl, c.take.ensures); told = refl; headed = refl })
