-- One browser more.
use Rattle.std.proofs.Common.{◌<◌, ◌∙◌, List, length, get_or, sym, subst, arith}
use Rattle.std.proofs.lemmas.List.{with_items_is}
use Rattle.lobby_guests.specs.declared.guest.Guest.{Guest}
use Rattle.lobby_guests.specs.declared.place.Place.{Place}
use Rattle.lobby_guests.specs.Place.{Yields}
use Rattle.lobby_loop.specs.Seating.{AreYielding}
use Rattle.lobby_loop.proofs.Seats.{yielding_none, yielding_further, yielding_all}
use Rattle.lobby_loop.proofs.seating.yield_all.Goals as goal

pub loop-i-init : goal.loop-i-init
loop-i-init g c =
    yielding_none c.args.places.now c.args.guests.now.items c.deref_mut-guest-items.result.now c.deref_mut-guest-items.ensures.value

pub bounds-places-i : goal.bounds-places-i
bounds-places-i g c =
    omega (arith, c.loop-i-test.true, c.loop-i.auto.guest-items, c.loop-i.invariant.whole, c.requires)

pub loop-i-preserved : goal.loop-i-preserved
loop-i-preserved g c =
    let items = c.loop-i.guest-items in
    let lt : c.loop-i.i < length items = omega (arith, c.loop-i-test.true, c.loop-i.auto.guest-items) in
    let place = c.index-places-i.result in
    let guest = get_or c.loop-i.guest-items c.loop-i.i c.guest-item.result in
    yielding_further c.args.places.now c.args.guests.now.items items c.loop-i.i c.guest-item.result c.yield_to.new.self place lt
    c.requires c.loop-i.invariant
    (subst (λ (p : Place). Yields p guest c.yield_to.new.self) c.index-places-i.is c.yield_to.ensures)

pub returns : goal.returns
returns g c =
    let guests = c.args.guests.now in
    let items = c.loop-i.guest-items in
    let so_far = c.loop-i.invariant in
    let same = with_items_is guests items (so_far.whole ∙ sym guests.ok.0) in
    subst (λ (l : List (Guest g.row.S.Denot)). AreYielding c.args.places.now guests.items l) (sym same)
    (yielding_all c.loop-i.i c.args.places.now guests.items items
    (omega (arith, c.loop-i-test.false, c.loop-i.auto.guest-items)) c.requires so_far)
