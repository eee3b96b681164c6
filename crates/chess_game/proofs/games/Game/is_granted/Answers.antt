use Rattle.std.proofs.Common.{sym, subst}
use Rattle.chess_board.specs.Legal.{IsLegal}
use Rattle.chess_game.specs.Scoresheet.{ScoresheetState, last_of}
use Rattle.chess_game.proofs.Shown.{Shows-kept, IsGame-kept}
use Rattle.chess_game.proofs.Acts.{HasRoom-playable}
use Rattle.chess_game.proofs.games.Game.is_granted.Goals as goal

pub is_granted_with-requires-clause-legal : goal.is_granted_with-requires-clause-legal
is_granted_with-requires-clause-legal c =
    let shows = Shows-kept c.self.inside c.args.self.now c.self.view_is c.self.invariant in
    let P : ScoresheetState → Type 0 = λ line. IsLegal (last_of line) c.in-Some.mv in
    subst P (sym shows.line) (c.requires c.in-Some.mv c.in-Some.is).legal

pub is_granted_with-requires-clause-room : goal.is_granted_with-requires-clause-room
is_granted_with-requires-clause-room c =
    let game = c.args.self.now in
    HasRoom-playable c.self.inside game (Shows-kept c.self.inside game c.self.view_is c.self.invariant)
    (IsGame-kept c.self.inside game c.self.view_is c.self.invariant) (c.requires c.in-Some.mv c.in-Some.is).room
