-- What is promised of it holds of what it is.
use Rattle.std.proofs.Common.{◌≡◌, List, sym, subst}
use Rattle.std.proofs.lemmas.Result.{IfOk-weaker}
use Rattle.lobby_guests.specs.declared.place.Place.{Place}
use Rattle.lobby_loop.specs.Places.{each_own, IsOwned}
use Rattle.lobby_loop.proofs.Room.{owned}
use Rattle.lobby_loop.proofs.places.own.Goals as goal

pub returns-clause-few : goal.returns-clause-few
returns-clause-few c =
    let all = c.args.all.now in
    IfOk-weaker c.own_all.result (λ places. places.items ≡ each_own all all) (λ places. IsOwned all places.items)
    (λ places is. subst (λ (new : List Place). IsOwned all new) (sym is) (owned all)) c.own_all.ensures
