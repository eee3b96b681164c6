-- The counters have room before each move of a game.
use Rattle.std.proofs.Common.{◌+◌, ◌≤◌, List, [], ◌∷◌, length, arith}
use Rattle.chess_board.specs.declared.moves.Move.{Move}
use Rattle.chess_board.specs.Position.{Position}
use Rattle.chess_board.specs.Next.{next}
use Rattle.chess_text.specs.Game.{HasRoom}
use Rattle.chess_entry.specs.State.{GameState}
use Rattle.chess_entry.specs.Bounds.{IsGame}
use Rattle.chess_game.proofs.LineLemmas.{halfmove-at_most, fullmove-at_most}
use Rattle.chess_game.proofs.ReplayLemmas.{low_halfmove}

HasRoom-few : (p : Position) (moves : List Move) → p.halfmove + length moves ≤ 65535
    → p.fullmove + length moves ≤ 65535 → HasRoom p moves
HasRoom-few p [] halfmove fullmove = tt
HasRoom-few p (m ∷ moves) halfmove fullmove =
    let half = halfmove-at_most p (m ∷ []) in
    let full = fullmove-at_most p (m ∷ []) in
    (omega arith, omega arith, HasRoom-few (next p m) moves (omega arith) (omega arith))

pub HasRoom-game : (game : GameState) → IsGame 20000 game → HasRoom game.start game.moves
HasRoom-game game is =
    let low = low_halfmove game.start is.opened.start.goes_on in
    let number = is.opened.start.number in
    let short = is.short in
    HasRoom-few game.start game.moves (omega arith) (omega arith)
