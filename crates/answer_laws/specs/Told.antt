-- What a game tells of itself, in the words of who reads the server's answers.
use Rattle.std.specs.Prelude.{ℕ, Option, Some, None}
use Rattle.chess_bits.specs.declared.men.Colour.{Colour}
use Rattle.chess_bits.specs.declared.men.Colour.TheVariants as colours
use Rattle.chess_end.specs.declared.ending.Ending as end
use Rattle.chess_end.specs.declared.ending.Article as end_article
use Rattle.chess_end.specs.declared.ending.Article.TheVariants as end_articles
use Rattle.chess_end.specs.declared.ending.GameResult as end_result
use Rattle.chess_end.specs.declared.ending.GameResult.TheVariants as end_results
use Rattle.chess_entry.specs.State.{GameState, position_of, ply_of}
use Rattle.chess_answer.specs.Reads.{time_shown}
use Rattle.server_answers.specs.declared.values.Seats.{Seats}
use Rattle.server_answers.specs.declared.values.Side.{Side}
use Rattle.server_answers.specs.declared.values.Side.TheVariants as sides
use Rattle.server_answers.specs.declared.values.GameResult.{GameResult}
use Rattle.server_answers.specs.declared.values.GameResult.TheVariants as results
use Rattle.server_answers.specs.declared.values.Article.{Article}
use Rattle.server_answers.specs.declared.values.Article.TheVariants as articles
use Rattle.server_answers.specs.declared.values.Ending.{Ending}
use Rattle.server_answers.specs.declared.games.Shown.{Shown}
use Rattle.server_answers.specs.declared.games.Row.{Row}

abbrev pub side_as : Colour → Side
side_as colours.White = sides.White
side_as colours.Black = sides.Black

abbrev pub score_as : end_result.GameResult → GameResult
score_as end_results.White = results.White
score_as end_results.Black = results.Black
score_as end_results.Draw = results.Draw

abbrev pub article_as : end_article.Article → Article
article_as end_articles.A511 = articles.A511
article_as end_articles.A512 = articles.A512
article_as end_articles.A521 = articles.A521
article_as end_articles.A522 = articles.A522
article_as end_articles.A523 = articles.A523
article_as end_articles.A69 = articles.A69
article_as end_articles.A92 = articles.A92
article_as end_articles.A93 = articles.A93
article_as end_articles.A961 = articles.A961
article_as end_articles.A962 = articles.A962

abbrev pub end_as : end.Ending → Ending
end_as ending = record { result = score_as ending.result; article = article_as ending.article }

abbrev pub ending_as : Option end.Ending → Option Ending
ending_as None = None
ending_as (Some ending) = Some (end_as ending)

abbrev pub result_as : Option end.Ending → Option GameResult
result_as None = None
result_as (Some ending) = Some (score_as ending.result)

abbrev pub seats_as : GameState → Seats
seats_as game = record { white = game.white.name; black = game.black.name }

-- what `show` tells at a moment
abbrev pub shown_as : GameState → ℕ → Shown
shown_as game at = record {
  game = game.number;
  seats = seats_as game;
  ply = ply_of game;
  side = side_as (position_of game).side;
  clocks = record { white_ms = time_shown game colours.White at; black_ms = time_shown game colours.Black at };
  offers = record { white = game.white.offers; black = game.black.offers };
  ending = ending_as game.ending;
}

-- what a row of `list` tells
abbrev pub row_as : GameState → Row
row_as game = record {
  game = game.number;
  seats = seats_as game;
  ply = ply_of game;
  result = result_as game.ending;
}
