use Rattle.std.proofs.Common.{sym, subst, ◌∙◌, ap}
use Rattle.std.specs.Prelude.{[], ◌∷◌, ◌++◌}
use Rattle.chess_entry.specs.Outcome.{ending_after}
use Rattle.chess_board.specs.Legal.{IsLegal}
use Rattle.chess_game.specs.Scoresheet.{ScoresheetState, last_of}
use Rattle.chess_game.proofs.Shown.{Shows-kept, IsGame-kept}
use Rattle.chess_game.proofs.Acts.{HasRoom-playable}
use Rattle.chess_game.proofs.games.Game.ending_with.Goals as goal

pub ending_with-requires-clause-legal : goal.ending_with-requires-clause-legal
ending_with-requires-clause-legal c =
    let shows = Shows-kept c.self.inside c.args.self.now c.self.view_is c.self.invariant in
    let P : ScoresheetState → Type 0 = λ line. IsLegal (last_of line) c.args.mv.now in
    subst P (sym shows.line) c.requires.legal

pub ending_with-requires-clause-room : goal.ending_with-requires-clause-room
ending_with-requires-clause-room c =
    let game = c.args.self.now in
    HasRoom-playable c.self.inside game (Shows-kept c.self.inside game c.self.view_is c.self.invariant)
    (IsGame-kept c.self.inside game c.self.view_is c.self.invariant) c.requires.room

pub returns : goal.returns
returns c =
    let shows = Shows-kept c.self.inside c.args.self.now c.self.view_is c.self.invariant in
    c.ending_with.ensures
    ∙ ap (λ (line : ScoresheetState). ending_after line.start (line.moves ++ c.args.mv.now ∷ [])) shows.line
