-- Where no more are told than may be nobody makes room.
use Rattle.std.proofs.Common.{◌≡◌, ◌≤◌, List, Option, ℕ, sym, subst, arith}
use Rattle.std.specs.BTreeMap.{get}
use Rattle.std.specs.Map.{count_at}
use Rattle.std.specs.Ordering.{nat_cmp}
use Rattle.std.proofs.lemmas.Bool.Decides.{nat_tests}
use Rattle.lobby_guests.specs.declared.place.Place.{Place}
use Rattle.lobby_loop.specs.Places.{own_room, number_of, IsTalliedByName}
use Rattle.lobby_loop.proofs.Tally.{owns_few, owns_tallied}
use Rattle.lobby_loop.proofs.places.own_room_for.Goals as goal

pub returns-in-Some-clause-room : goal.returns-in-Some-clause-room
returns-in-Some-clause-room c =
    let few : count_at (get nat_cmp c.args.tally.now) (number_of c.in-Some.name) ≤ 16 =
    grind (arith, nat_tests, c.if-told_at.true, c.told_at.ensures, c.number_of.ensures) in
    sym (subst (λ (player : Option (List ℕ)). own_room player c.args.places.now ≡ c.args.places.now) (sym c.in-Some.is)
    (owns_few c.args.tally.now c.in-Some.name c.args.places.now c.requires few))

pub returns-in-Some-2-clause-tallied : goal.returns-in-Some-2-clause-tallied
returns-in-Some-2-clause-tallied c =
    subst (λ (ps : List Place). IsTalliedByName c.args.tally.now ps) (sym c.own_room.ensures)
    (owns_tallied c.args.tally.now c.args.place.now.player c.args.places.now c.requires)
