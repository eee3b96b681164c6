-- One connection more that watches.
use Rattle.std.proofs.Common.{ℕ, List, [], ◌∷◌, ◌++◌, get_or, take, ap, sym, ◌∙◌}
use Rattle.std.proofs.lemmas.List.{take_more, take_all, map-append}
use Rattle.lobby_table.specs.declared.watching.Watch.{Watch}
use Rattle.lobby_table.specs.Watching.{games_of}
use Rattle.lobby_table.proofs.watching.games_of.Goals as goal

pub loop-watch-preserved : goal.loop-watch-preserved
loop-watch-preserved c =
    let ws = c.args.watches.now in
    let i = c.loop-watch.watch-index in
    let none : Watch = record { by = 0; game = 0 } in
    let w : Watch = get_or ws i none in
    c.in_ok-push.ensures.items
    ∙ (ap (λ (games : List ℕ). games ++ w.game ∷ []) c.loop-watch.invariant
    ∙ sym (ap games_of (take_more ws i none c.loop-watch-test.true) ∙ map-append (λ (w : Watch). w.game) (take i ws) (w ∷ [])))

pub returns : goal.returns
returns c = c.loop-watch.invariant ∙ ap games_of (take_all c.loop-watch.watch-index c.args.watches.now c.loop-watch-test.false)
