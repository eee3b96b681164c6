-- Those so far have left, and what is known behind all is what is known behind the others.
use Rattle.std.proofs.Common.{ℕ, ◌≡◌}
use Rattle.std.specs.BTreeMap.{keys}
use Rattle.lobby_words.specs.Players.{renewed}
use Rattle.lobby_table.specs.Rooms.{left_by_each}
use Rattle.lobby_table.specs.Visitors.{who_in}
use Rattle.lobby_table.proofs.renewing.note_renewed.Given as goal

abbrev pub invariant-loop-connection : goal.invariant-loop-connection
invariant-loop-connection l =
    let who = who_in l.visitors in
    let after = λ (c : ℕ). renewed l.before l.later (who c) in
    left_by_each who after l.connection-iterator l.all ≡ left_by_each who after (keys l.visitors) l.fn.all
