-- All are judged, and those yield who are to.
use Rattle.std.proofs.Common.{List, sym, subst, ◌∙◌}
use Rattle.lobby_guests.specs.declared.place.Place.{Place}
use Rattle.lobby_loop.specs.Places.{IsFair}
use Rattle.lobby_loop.specs.Seating.{AreYielding}
use Rattle.lobby_loop.proofs.Seats.{fair_length}
use Rattle.lobby_loop.proofs.seating.seat_at.Goals as goal

pub yield_all-requires : goal.yield_all-requires
yield_all-requires g c =
    c.requires ∙ sym (fair_length c.args.at c.args.from c.args.places.now c.judge.new.places c.in_ok-count.ensures.fair)

pub returns : goal.returns
returns g c = record {
  yields = subst (λ (l : List Place). AreYielding l c.args.guests.now.items c.yield_all.new.guests.items) c.in_ok-count.ensures.judged
      c.yield_all.ensures;
  fair = subst (λ (l : List Place). IsFair c.args.at c.args.from c.args.places.now l) c.in_ok-count.ensures.judged c.in_ok-count.ensures.fair;
}
