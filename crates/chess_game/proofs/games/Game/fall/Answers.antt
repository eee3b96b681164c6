use Rattle.std.proofs.Common.{ap, ◌∙◌}
use Rattle.chess_end.specs.declared.ending.Ending.{Ending}
use Rattle.chess_entry.specs.State.{position_of}
use Rattle.chess_entry.specs.Follow.{ended}
use Rattle.chess_game.specs.Scoresheet.{last_of}
use Rattle.chess_game.proofs.EndingLemmas.{flag_ending-answered}
use Rattle.chess_game.proofs.Shown.{Shows-kept}
use Rattle.chess_game.proofs.games.Game.fall.Goals as goal

pub returns : goal.returns
returns c =
    let game = c.args.self.now in
    let shows = Shows-kept c.self.inside game c.self.view_is c.self.invariant in
    let stands = c.board-board.ensures ∙ ap last_of shows.line in
    c.end.ensures ∙ ap (λ (e : Ending). ended game c.args.at e)
    (flag_ending-answered (position_of game) c.board-board.result.now c.side.result c.flag_result-ending.result
    stands c.side.ensures c.flag_result-ending.ensures.result c.flag_result-ending.ensures.article)
