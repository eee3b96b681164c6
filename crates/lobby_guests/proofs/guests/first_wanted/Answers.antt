-- One browser more.
use Rattle.std.proofs.Common.{ap, ◌∙◌, arith}
use Rattle.std.specs.Option.{option_map}
use Rattle.lobby_guests.specs.declared.guest.Guest.{Guest}
use Rattle.lobby_guests.specs.Waiting.{wanted, first_of}
use Rattle.lobby_guests.proofs.Wanted.{wanted_further, wanted_all}
use Rattle.lobby_guests.proofs.guests.first_wanted.Goals as goal

pub loop-guest-preserved : goal.loop-guest-preserved
loop-guest-preserved g c =
    wanted_further c.args.guests.now c.loop-guest.guest-index c.guest-item.result
    (option_map (λ one. one.now) c.loop-guest.first) (option_map (λ one. one.now) c.first_of-first.result)
    c.loop-guest-test.true c.loop-guest.invariant
    (c.first_of-first.ensures
    ∙ ap (λ o. first_of (option_map (λ one. one.now) c.loop-guest.first) o) (c.wanted.ensures
    ∙ ap (λ (one : Guest g.row.S.Denot). wanted one.waits.items) c.guest-item.is))

pub returns : goal.returns
returns g c =
    wanted_all c.args.guests.now c.loop-guest.guest-index (option_map (λ one. one.now) c.loop-guest.first)
    (omega (arith, c.loop-guest-test.false)) c.loop-guest.invariant
