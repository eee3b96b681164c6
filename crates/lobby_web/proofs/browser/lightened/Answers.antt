use Rattle.std.proofs.Common.{refl}
use Rattle.lobby_web.proofs.browser.lightened.Goals as goal

pub returns-in-Socket : goal.returns-in-Socket
returns-in-Socket c =
    rw c.in-Socket.is (record {
      writes = (c.written.new.self, refl, c.written.ensures.output, c.written.ensures.keeps);
      told = refl;
    })
