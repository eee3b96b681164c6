-- A browser comes to a hall that is as before, or is turned away.
use Rattle.lobby_loop.specs.Turning.{Comer}
use Rattle.lobby_loop.proofs.Waking.{received, turned_away, name_grows, name_stays}
use Rattle.lobby_loop.proofs.listener.take_in.Goals as goal

pub returns-then-watch : goal.returns-then-watch
returns-then-watch g c =
    let comer : Comer _ = record { stream = c.watch.new.stream; peer = c.args.peer } in
    let old = c.args.hall.now in
    let named = c.next_key.new.self in (
      comer,
      c.watch.ensures c.args.peer c.requires,
      received c.args.at c.in-Some.key comer old named c.admit.new.self c.next_key.ensures.before c.in-Some.ensures.names
          c.next_key.ensures.away c.admit.ensures.admits c.admit.ensures.comes c.admit.ensures.names,
    )

pub returns-else-watch : goal.returns-else-watch
returns-else-watch g c =
    let comer : Comer _ = record { stream = c.watch.new.stream; peer = c.args.peer } in
    let old = c.args.hall.now in
    let named = c.next_key.new.self in
    let away = c.turn_away in (
      comer,
      c.watch.ensures c.args.peer c.requires,
      turned_away c.args.at comer old named away.new.self c.next_key.ensures.before
          (name_grows old.next_key named.next_key c.in-Some.key c.in-Some.ensures.names.1 c.in-Some.ensures.names.2)
          c.next_key.ensures.away away.ensures.before away.ensures.names away.ensures.counted,
    )

pub returns-in-None : goal.returns-in-None
returns-in-None g c =
    let comer : Comer _ = record { stream = c.args.stream; peer = c.args.peer } in
    let old = c.args.hall.now in
    let named = c.next_key.new.self in
    let away = c.turn_away-in-None in (
      comer,
      c.requires,
      turned_away c.args.at comer old named away.new.self c.next_key.ensures.before
          (name_stays old.next_key named.next_key c.in-None.ensures.names.1)
          c.next_key.ensures.away away.ensures.before away.ensures.names away.ensures.counted,
    )
