-- One browser more.
use Rattle.std.proofs.Common.{ap, ◌∙◌, arith, refl}
use Rattle.lobby_guests.specs.declared.guest.Guest.{Guest}
use Rattle.lobby_guests.specs.Guests.{earlier, due_at}
use Rattle.lobby_guests.proofs.Due.{due_further, due_all}
use Rattle.lobby_guests.proofs.guests.first_due.Goals as goal

pub loop-guest-preserved : goal.loop-guest-preserved
loop-guest-preserved g c =
    due_further c.args.at c.args.connections.now c.loop-guest.guest-index c.guest-item.result c.loop-guest.first
    c.earlier-first.result c.loop-guest-test.true c.loop-guest.invariant
    (c.earlier-first.ensures
    ∙ ap (λ o. earlier c.loop-guest.first o) (c.due_at.ensures
    ∙ ap (λ (one : Guest g.row.S.Denot). due_at c.args.at one) c.guest-item.is))

pub returns : goal.returns
returns g c =
    due_all c.args.at c.args.connections.now c.loop-guest.guest-index c.loop-guest.first (omega (arith, c.loop-guest-test.false))
    c.loop-guest.invariant
