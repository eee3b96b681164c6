-- One is awake.
use Rattle.std.proofs.Common.{refl, subst}
use Rattle.std.proofs.lemmas.List.{get_or_default}
use Rattle.lobby_guests.specs.declared.guest.Guest.{Guest}
use Rattle.lobby_guests.specs.Waking.{IsAwake}
use Rattle.lobby_guests.proofs.guests.wake_at.Goals as goal

pub returns : goal.returns
returns g c =
    let guests = c.args.guests.now.items in
    let here = c.index_mut-guest.result.now in
    let after = c.wake.new.self in (
      after,
      subst (λ (one : Guest g.row.S.Denot). IsAwake one after) (get_or_default guests c.args.place here after c.requires)
          (subst (λ (one : Guest g.row.S.Denot). IsAwake one after) c.index_mut-guest.ensures.value c.wake.ensures),
      refl,
      c.number.ensures,
    )
