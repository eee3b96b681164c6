-- What is promised of it holds of what it is.
use Rattle.std.proofs.Common.{List, sym, subst}
use Rattle.std.proofs.lemmas.Result.{on_ok_weaker}
use Rattle.lobby_guests.specs.declared.place.Place.{Place}
use Rattle.lobby_loop.specs.Places.{IsFair}
use Rattle.lobby_loop.proofs.Room.{fair}
use Rattle.lobby_loop.proofs.places.judge.Goals as goal

pub returns-clause-fair : goal.returns-clause-fair
returns-clause-fair c =
    on_ok_weaker c.judge_all.result
    (λ is. subst (λ (new : List Place). IsFair c.args.at c.args.from c.args.places.now new) (sym is)
    (fair c.args.at c.args.from c.args.places.now)) c.judge_all.ensures.judged
