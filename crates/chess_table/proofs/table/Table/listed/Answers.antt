use Rattle.std.proofs.Common.{ℕ, ◌≡◌, ◌+◌, ◌<◌, ◌++◌, ◌∷◌, [], List, take, length, get_or, sym, ap, ◌∙◌}
use Rattle.std.proofs.lemmas.List.{take_more}
use Rattle.chess_entry.specs.State.{GameState, TableState}
use Rattle.chess_entry.proofs.OneMore.{flat_map-more}
use Rattle.chess_answer.specs.Reads.{list_row, list_text}
use Rattle.chess_table.proofs.Numbered.{read_at, is_boxed}
use Rattle.chess_table.proofs.table.Table.listed.Goals as goal

-- the rows of one game more
row_more : (games : List GameState) (i : ℕ) (game : GameState) → i < length games → game ≡ get_or games i game
    → list_text (take i games) ++ list_row game ≡ list_text (take (i + 1) games)
row_more games i game below here =
    sym (flat_map-more list_row (take i games) game)
    ∙ ap (λ (g : GameState). list_text (take i games ++ g ∷ [])) here
    ∙ ap list_text (sym (take_more games i game below))

pub loop-place-preserved : goal.loop-place-preserved
loop-place-preserved c =
    let games = c.args.self.now.games in
    let place = c.loop-place.place in
    let game = c.game.result.now in
    let read = read_at c.self.inside.games.entries games c.len-place-end.result place game
    (ap (λ (t : TableState). t.games) c.self.view_is) c.len-place-end.ensures.len c.loop-place-test.true
    (is_boxed c.index.ensures c.game.ensures) in
    c.in_ok-write_row.ensures.written ∙ ap (λ (t : List ℕ). t ++ list_row game) c.loop-place.invariant
    ∙ row_more games place game read.within read.here
