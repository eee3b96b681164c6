-- What a snapshot keeps of a game.
use Rattle.std.specs.Prelude.{ℕ, is_some}
use Rattle.chess_end.specs.declared.ending.GameResult.{GameResult}
use Rattle.chess_end.specs.declared.ending.GameResult.TheVariants as results
use Rattle.chess_end.specs.declared.ending.Article.{Article}
use Rattle.chess_end.specs.declared.ending.Article.TheVariants as articles
use Rattle.rec_codec.specs.declared.record.StoredEnding.{StoredEnding}
use Rattle.rec_codec.specs.declared.record.StoredEnding.TheVariants as stored
use Rattle.rec_codec.specs.declared.record.Seat.{Seat as StoredSeat}
use Rattle.chess_game.specs.declared.sides.Seat.{Seat}

-- the ending that the format has for an article with a result
abbrev pub stored_by : Article → GameResult → StoredEnding
stored_by articles.A511 results.White = stored.WhiteMates
stored_by articles.A511 _ = stored.BlackMates
stored_by articles.A512 results.White = stored.WhiteWinsByResignation
stored_by articles.A512 _ = stored.BlackWinsByResignation
stored_by articles.A521 _ = stored.Stalemate
stored_by articles.A522 _ = stored.DeadPosition
stored_by articles.A523 _ = stored.Agreement
stored_by articles.A69 results.White = stored.WhiteWinsOnTime
stored_by articles.A69 results.Black = stored.BlackWinsOnTime
stored_by articles.A69 results.Draw = stored.DrawnOnTime
stored_by articles.A92 _ = stored.ThirdOccurrence
stored_by articles.A93 _ = stored.FiftyMoves
stored_by articles.A961 _ = stored.FifthOccurrence
stored_by articles.A962 _ = stored.SeventyFiveMoves

abbrev pub seat_stored : Seat → ℕ → StoredSeat
seat_stored seat held = record { taken = is_some seat.name; name = seat.name; offers = seat.offers; held = held }
