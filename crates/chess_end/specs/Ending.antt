use Rattle.std.specs.Prelude.{ℕ, ◌≡◌, ◌≤◌, ◌⊎◌}
use Rattle.chess_bits.specs.declared.men.Colour.{Colour}
use Rattle.chess_bits.specs.declared.men.Colour.TheVariants as side
use Rattle.chess_bits.specs.Man.{other}
use Rattle.chess_bits.specs.Placement.{Placement}
use Rattle.chess_board.specs.Position.{Position, IsInCheck}
use Rattle.chess_moves.specs.Moves.{HasLegal}
use Rattle.chess_end.specs.declared.ending.GameResult.{GameResult}
use Rattle.chess_end.specs.declared.ending.GameResult.TheVariants.{White, Black, Draw}
use Rattle.chess_end.specs.declared.ending.Article.{Article}
use Rattle.chess_end.specs.declared.ending.Article.TheVariants.{A511, A512, A521, A522, A523, A69, A92, A93, A961, A962}
use Rattle.chess_end.specs.declared.ending.Ending.{Ending}
use Rattle.chess_end.specs.Material.{IsListedDead, HasKingAlone}

-- the king of the side to move is attacked, and it has no legal move (FIDE article 5.1.1)
pub record IsCheckmate (p : Position) : Type 0 where
  pub check : IsInCheck p.placement p.side
  pub stuck : ¬ HasLegal p

-- the side to move has no legal move, and its king is not attacked (FIDE article 5.2.1)
pub record IsStalemate (p : Position) : Type 0 where
  pub no_check : ¬ IsInCheck p.placement p.side
  pub stuck : ¬ HasLegal p

-- the position has come so often (FIDE article 9.6.1), or so many moves of either side have gone without a capture or a
-- pawn move (FIDE article 9.6.2), that the game is drawn without a claim
abbrev pub IsFifthTime : ℕ → Type 0
IsFifthTime times = 5 ≤ times

abbrev pub IsSeventyFiveMoves : ℕ → Type 0
IsSeventyFiveMoves quiet = 150 ≤ quiet

-- The article that ends a game after a move: the first that applies, in this order, which is this project's own but
-- that checkmate goes before article 9.6.2. The position has come `times` times, and the run without a capture or a
-- pawn move is of `quiet` moves. The other articles need an act of a player, or a clock.
abbrev pub IsEndedBy : Position → ℕ → ℕ → Article → Type 0
IsEndedBy p times quiet A511 = IsCheckmate p
IsEndedBy p times quiet A521 = ¬ IsCheckmate p × IsStalemate p
IsEndedBy p times quiet A522 = ¬ IsCheckmate p × ¬ IsStalemate p × IsListedDead p.placement
IsEndedBy p times quiet A961 = ¬ IsCheckmate p × ¬ IsStalemate p × ¬ IsListedDead p.placement × IsFifthTime times
IsEndedBy p times quiet A962 = ¬ IsCheckmate p × ¬ IsStalemate p × ¬ IsListedDead p.placement × ¬ IsFifthTime times ×
    IsSeventyFiveMoves quiet
IsEndedBy p times quiet A512 = ⊥
IsEndedBy p times quiet A523 = ⊥
IsEndedBy p times quiet A69 = ⊥
IsEndedBy p times quiet A92 = ⊥
IsEndedBy p times quiet A93 = ⊥

-- none of them applies
abbrev pub IsRunning : Position → ℕ → ℕ → Type 0
IsRunning p times quiet = ¬ IsCheckmate p × ¬ IsStalemate p × ¬ IsListedDead p.placement × ¬ IsFifthTime times ×
    ¬ IsSeventyFiveMoves quiet

-- the side wins
abbrev pub won_by : Colour → GameResult
won_by side.White = White
won_by side.Black = Black

-- What such an ending gives: the side that has given checkmate wins, and the others are draws. No ending after a move
-- is by another article, so that those have no result here.
abbrev pub IsResultAfter : Position → Article → GameResult → Type 0
IsResultAfter p A511 result = result ≡ won_by (other p.side)
IsResultAfter p A521 result = result ≡ Draw
IsResultAfter p A522 result = result ≡ Draw
IsResultAfter p A961 result = result ≡ Draw
IsResultAfter p A962 result = result ≡ Draw
IsResultAfter p A512 result = ⊥
IsResultAfter p A523 result = ⊥
IsResultAfter p A69 result = ⊥
IsResultAfter p A92 result = ⊥
IsResultAfter p A93 result = ⊥

-- the ending of a game after a move
pub record IsEnding (p : Position) (times quiet : ℕ) (ending : Ending) : Type 0 where
  pub article : IsEndedBy p times quiet ending.article
  pub result : IsResultAfter p ending.article ending.result

-- What a fallen flag gives (FIDE article 6.9): a draw just where the opponent has the king alone, else the opponent
-- wins. The article asks whether the opponent can checkmate by any series of legal moves; this is the project's
-- reduction of it.
abbrev pub IsFlagResult : Placement → Colour → GameResult → Type 0
IsFlagResult placement fallen result =
    (HasKingAlone placement (other fallen) × (result ≡ Draw)) ⊎ (¬ HasKingAlone placement (other fallen) ×
    (result ≡ won_by (other fallen)))
