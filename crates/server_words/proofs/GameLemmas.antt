-- What is written, game by game.
use Rattle.std.proofs.Common.{◌≡◌, ◌+◌, ◌++◌, ℕ, suc, List, Some, refl, subst, arith}
use Rattle.std.specs.Prelude.{Option, slice_get}
use Rattle.std.proofs.KnownBytes.{Appends-trans}
use Rattle.chess_entry.specs.State.{GameState}
use Rattle.server_words.specs.Games.{WritesGame, WritesGames}

-- and one more
pub games_on : (old mid new : Option (List ℕ)) (games : List GameState) (n : ℕ) (game : GameState)
    → WritesGames old mid games n → slice_get games n ≡ Some game → WritesGame mid new game
    → WritesGames old new games (n + 1)
games_on old mid new games n game before at written =
    let next : suc n ≡ n + 1 = omega arith in
    subst (λ (m : ℕ). WritesGames old new games m) next (record {
      text = before.text ++ written.text;
      are_games = record {
        front = before.text;
        first = before.are_games;
        game = game;
        place = at;
        last = written.text;
        next = written.is_game;
        whole = refl;
      };
      written = Appends-trans old mid new before.text written.text before.written written.written;
    })
