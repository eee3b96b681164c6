use Rattle.std.proofs.Common.{ℕ, ◌≡◌, sym, ap, ◌∙◌}
use Rattle.chess_entry.specs.State.{find_game}
use Rattle.chess_table.proofs.Answering.{game-comes, game-answered, opening-answered}
use Rattle.chess_table.proofs.answers.entry_line.Goals as goal

pub game_line-requires : goal.game_line-requires
game_line-requires c =
    let games = c.args.table.now.games in
    let number : c.get.result ≡ c.args.entry.now.game = c.get.ensures.number in
    game-comes c.args.table.now c.args.entry.now c.in-Some.game.now c.limits-limits.ensures.table c.requires
    (ap (λ (n : ℕ). find_game n games) (sym number) ∙ sym c.in-Some.ensures.game)

pub returns-in-Some : goal.returns-in-Some
returns-in-Some c =
    let games = c.args.table.now.games in
    let number : c.get.result ≡ c.args.entry.now.game = c.get.ensures.number in
    game-answered c.args.table.now c.args.entry.now c.in-Some.game.now c.game_line.result.bytes
    (ap (λ (n : ℕ). find_game n games) (sym number) ∙ sym c.in-Some.ensures.game) c.game_line.ensures

pub returns-in-None : goal.returns-in-None
returns-in-None c =
    let games = c.args.table.now.games in
    let number : c.get.result ≡ c.args.entry.now.game = c.get.ensures.number in
    opening-answered c.args.table.now c.args.entry.now c.opened_line.result.bytes c.limits-limits.ensures.table c.requires
    (ap (λ (n : ℕ). find_game n games) (sym number) ∙ sym c.in-None.ensures.game) c.opened_line.ensures
