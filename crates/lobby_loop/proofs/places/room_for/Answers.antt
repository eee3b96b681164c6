-- Where no more are told, no room is made; else so many are left as may be, and are told.
use Rattle.std.proofs.Common.{List, sym, subst, arith}
use Rattle.std.proofs.lemmas.Bool.Decides.{nat_tests}
use Rattle.std.proofs.lemmas.Result.{on_ok_weaker}
use Rattle.lobby_guests.specs.declared.place.Place.{Place}
use Rattle.lobby_loop.specs.Places.{IsTallied}
use Rattle.lobby_loop.proofs.Tally.{stays_few, tallied_after}
use Rattle.lobby_loop.proofs.places.room_for.Goals as goal

pub returns-in-Some-2-clause-room : goal.returns-in-Some-2-clause-room
returns-in-Some-2-clause-room c =
    sym (stays_few c.args.tally.now c.in-Some-2.address c.args.place.now c.args.places.now c.requires
    c.in-Some-2.is (grind (arith, nat_tests, c.if-told_at.true, c.told_at.ensures)))

pub returns-in-Some-3-clause-tallied : goal.returns-in-Some-3-clause-tallied
returns-in-Some-3-clause-tallied c =
    on_ok_weaker c.tell_at.result
    (λ is. subst (λ (ps : List Place). IsTallied c.tell_at.new.tally ps) (sym c.make_room.ensures)
    (tallied_after c.args.tally.now c.tell_at.new.tally c.in-Some-3.address c.from-in-Some-3.result c.args.places.now
    c.from-in-Some-3.ensures c.requires is)) c.tell_at.ensures
