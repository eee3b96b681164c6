-- How a game stands and its row are written as they are read.
use Rattle.std.proofs.Common.{ℕ, ◌≡◌, ◌<◌, ◌≤◌, ◌^◌, Bool, true, false, List, [], ◌∷◌, ◌++◌, Option, Some, None, codes, decimal, refl, sym, ap, ◌∙◌, arith}
use Rattle.std.proofs.lemmas.List.{append_cancel_right}
use Rattle.chess_bits.specs.declared.men.Colour.{Colour}
use Rattle.chess_bits.specs.declared.men.Colour.TheVariants as colours
use Rattle.chess_end.specs.declared.ending.Ending as end
use Rattle.chess_end.specs.declared.ending.Article as end_article
use Rattle.chess_end.specs.declared.ending.Article.TheVariants as end_articles
use Rattle.chess_end.specs.declared.ending.GameResult as end_result
use Rattle.chess_end.specs.declared.ending.GameResult.TheVariants as end_results
use Rattle.chess_notation.specs.Fen.{side_letter, letter_if, or_dash}
use Rattle.chess_text.specs.Pgn as pgn
use Rattle.chess_entry.specs.State.{GameState, position_of, ply_of}
use Rattle.chess_entry.specs.Bounds.{IsGame}
use Rattle.chess_answer.specs.Fields as written
use Rattle.chess_answer.specs.Reads.{time_shown, offer_text, article_or_dash, show_text, list_row}
use Rattle.server_answers.specs.Fields.{line_of}
use Rattle.server_answers.specs.Values.{seat_text, side_text, offers_by, score_text, article_text, result_text, ending_result, ending_article}
use Rattle.server_answers.specs.Games.{IsShown, shown_line, shown_in, IsRow, row_line, row_in}
use Rattle.server_answers.proofs.Standing.{shown_read, row_read}
use Rattle.answer_laws.specs.Told.{side_as, score_as, article_as, ending_as, result_as, shown_as, row_as}
use Rattle.answer_laws.proofs.Times.{time_fits}
use Rattle.answer_laws.proofs.Joined.{joined_with}

seat_same : (name : Option (List ℕ)) → written.seat_text name ≡ seat_text name
seat_same None = refl
seat_same (Some name) = refl

side_same : (side : Colour) → side_letter side ∷ [] ≡ side_text (side_as side)
side_same colours.White = refl
side_same colours.Black = refl

offers_same : (white black : Bool) → or_dash (letter_if white 119 ++ letter_if black 98) ≡ offers_by white black
offers_same true true = refl
offers_same true false = refl
offers_same false true = refl
offers_same false false = refl

pub score_same : (score : end_result.GameResult) → pgn.score_text score ≡ score_text (score_as score)
score_same end_results.White = refl
score_same end_results.Black = refl
score_same end_results.Draw = refl

pub article_same : (article : end_article.Article) → pgn.article_text article ≡ article_text (article_as article)
article_same end_articles.A511 = refl
article_same end_articles.A512 = refl
article_same end_articles.A521 = refl
article_same end_articles.A522 = refl
article_same end_articles.A523 = refl
article_same end_articles.A69 = refl
article_same end_articles.A92 = refl
article_same end_articles.A93 = refl
article_same end_articles.A961 = refl
article_same end_articles.A962 = refl

result_same : (ending : Option end.Ending) → pgn.result_text ending ≡ ending_result (ending_as ending)
result_same None = refl
result_same (Some ending) = score_same ending.result

dash_same : (ending : Option end.Ending) → article_or_dash ending ≡ ending_article (ending_as ending)
dash_same None = refl
dash_same (Some ending) = article_same ending.article

row_result_same : (ending : Option end.Ending) → pgn.result_text ending ≡ result_text (result_as ending)
row_result_same None = refl
row_result_same (Some ending) = score_same ending.result

short : (ply : ℕ) → ply ≤ 20000 → ply < 2 ^ 32
short ply most = omega (arith, most)

-- ---- `show`

is_shown : (game : GameState) (at : ℕ) → IsGame 20000 game → IsShown (shown_as game at)
is_shown game at is = record {
  game = is.number;
  seats = record { white = is.opened.white_name; black = is.opened.black_name };
  ply = short (ply_of game) is.short;
  clocks = record { white = time_fits game is colours.White at; black = time_fits game is colours.Black at };
}

abbrev show_written : GameState → ℕ → List (List ℕ)
show_written game at =
    codes "show" ∷ decimal game.number ∷ written.seat_text game.white.name ∷ written.seat_text game.black.name ∷ decimal (ply_of game) ∷
    (side_letter (position_of game).side ∷ []) ∷ decimal (time_shown game colours.White at) ∷ decimal (time_shown game colours.Black at) ∷
    offer_text game ∷ pgn.result_text game.ending ∷ article_or_dash game.ending ∷ []

-- the line, by those of its fields that both sides spell by words of their own
abbrev shown_by_texts : GameState → ℕ → (white black side offers score article : List ℕ) → List ℕ
shown_by_texts game at white black side offers score article =
    line_of (codes "ok" ∷ codes "show" ∷ decimal game.number ∷ white ∷ black ∷ decimal (ply_of game) ∷ side ∷
    decimal (time_shown game colours.White at) ∷ decimal (time_shown game colours.Black at) ∷ offers ∷ score ∷ article ∷ [])

same_texts : (game : GameState) (at : ℕ) (w w2 b b2 s s2 o o2 r r2 a a2 : List ℕ) → w ≡ w2 → b ≡ b2 → s ≡ s2 → o ≡ o2 → r ≡ r2 → a ≡ a2 →
    shown_by_texts game at w b s o r a ≡ shown_by_texts game at w2 b2 s2 o2 r2 a2
same_texts game at w w2 b b2 s s2 o o2 r r2 a a2 e f g h i j =
    ap (λ (x : List ℕ). shown_by_texts game at x b s o r a) e
    ∙ (ap (λ (x : List ℕ). shown_by_texts game at w2 x s o r a) f
    ∙ (ap (λ (x : List ℕ). shown_by_texts game at w2 b2 x o r a) g
    ∙ (ap (λ (x : List ℕ). shown_by_texts game at w2 b2 s2 x r a) h
    ∙ (ap (λ (x : List ℕ). shown_by_texts game at w2 b2 s2 o2 x a) i
    ∙ ap (λ (x : List ℕ). shown_by_texts game at w2 b2 s2 o2 r2 x) j))))

show_same : (game : GameState) (at : ℕ) → show_text game at ≡ shown_line (shown_as game at)
show_same game at =
    joined_with (codes "ok") (show_written game at)
    ∙ same_texts game at _ _ _ _ _ _ _ _ _ _ _ _ (seat_same game.white.name) (seat_same game.black.name)
    (side_same (position_of game).side) (offers_same game.white.offers game.black.offers) (result_same game.ending) (dash_same game.ending)

pub show_read : (game : GameState) (at : ℕ) → IsGame 20000 game → shown_in (show_text game at) ≡ Some (shown_as game at)
show_read game at is = ap shown_in (show_same game at) ∙ shown_read (shown_as game at) (is_shown game at is)

-- ---- a row of `list`

is_row : (game : GameState) → IsGame 20000 game → IsRow (row_as game)
is_row game is = record {
  game = is.number;
  seats = record { white = is.opened.white_name; black = is.opened.black_name };
  ply = short (ply_of game) is.short;
}

abbrev row_written : GameState → List (List ℕ)
row_written game =
    written.seat_text game.white.name ∷ written.seat_text game.black.name ∷ decimal (ply_of game) ∷ pgn.result_text game.ending ∷ []

row_same : (game : GameState) → list_row game ≡ row_line (row_as game) ++ (10 ∷ [])
row_same game =
    ap (λ (line : List ℕ). line ++ (10 ∷ [])) (joined_with (decimal game.number) (row_written game)
    ∙ rw (seat_same game.white.name) (rw (seat_same game.black.name) (rw (row_result_same game.ending) refl)))

pub list_row_read : (game : GameState) (line : List ℕ) → IsGame 20000 game → list_row game ≡ line ++ (10 ∷ []) →
    row_in line ≡ Some (row_as game)
list_row_read game line is whole =
    ap row_in (append_cancel_right line (row_line (row_as game)) (10 ∷ []) (sym whole ∙ row_same game)) ∙ row_read (row_as game) (is_row game is)
