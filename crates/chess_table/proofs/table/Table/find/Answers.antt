use Rattle.std.proofs.Common.{ap, Some, ◌∙◌}
use Rattle.chess_entry.specs.State.{GameState, TableState, find_game}
use Rattle.chess_table.proofs.Numbered.{get-find}
use Rattle.chess_table.proofs.table.Table.find.Goals as goal

pub returns-in-Some-clause-game : goal.returns-in-Some-clause-game
returns-in-Some-clause-game c =
    ap (λ (g : GameState). Some g) c.game.ensures ∙ c.in-Some.ensures.value
    ∙ get-find c.args.number c.self.inside.games.entries c.self.invariant.numbered
    ∙ ap (λ (t : TableState). find_game c.args.number t.games) c.self.view_is

pub returns-in-None-clause-game : goal.returns-in-None-clause-game
returns-in-None-clause-game c =
    c.in-None.ensures.value ∙ get-find c.args.number c.self.inside.games.entries c.self.invariant.numbered
    ∙ ap (λ (t : TableState). find_game c.args.number t.games) c.self.view_is
