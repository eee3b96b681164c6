use Rattle.std.specs.Prelude.{ℕ, zero, suc, ◌≡◌, ◌≢◌, List, [], ◌∷◌, ◌++◌, Option, Some, None, codes, decimal}
use Rattle.chess_board.specs.Position.{Position}
use Rattle.chess_board.specs.Initial.{initial}
use Rattle.chess_end.specs.declared.ending.Ending.{Ending}
use Rattle.chess_end.specs.declared.ending.Article.{Article}
use Rattle.chess_end.specs.declared.ending.Article.TheVariants as articles
use Rattle.chess_end.specs.declared.ending.GameResult.{GameResult}
use Rattle.chess_end.specs.declared.ending.GameResult.TheVariants as results
use Rattle.chess_notation.specs.Fen.{fen_of}
use Rattle.chess_text.specs.Movetext.{IsMovetext}

-- a tag pair (PGN Standard, section 8.1)
pub record Tag : Type 0 where
  pub name : List ℕ
  pub value : List ℕ

abbrev pub tag : List ℕ → List ℕ → Tag
tag name value = record { name = name; value = value }

-- `[Name "Value"]` on a line of its own
abbrev pub tag_text : Tag → List ℕ
tag_text t = codes "[" ++ (t.name ++ (codes " \"" ++ (t.value ++ codes "\"]\n")))

abbrev pub tags_text : List Tag → List ℕ
tags_text [] = []
tags_text (t ∷ tags) = tag_text t ++ tags_text tags

-- a player's name, or `?` for an empty seat (PGN Standard, sections 8.1.1.5 and 8.1.1.6)
abbrev pub player_text : Option (List ℕ) → List ℕ
player_text None = codes "?"
player_text (Some name) = name

-- what a game gave, or `*` while it goes on (PGN Standard, section 8.1.1.7)
abbrev pub score_text : GameResult → List ℕ
score_text results.White = codes "1-0"
score_text results.Black = codes "0-1"
score_text results.Draw = codes "1/2-1/2"

abbrev pub result_text : Option Ending → List ℕ
result_text None = codes "*"
result_text (Some ending) = score_text ending.result

-- the seven tags that stand first (PGN Standard, section 8.1.1)
abbrev pub roster : Option (List ℕ) → Option (List ℕ) → Option Ending → List Tag
roster white black ending =
    tag (codes "Event") (codes "?") ∷ tag (codes "Site") (codes "?") ∷ tag (codes "Date") (codes "????.??.??") ∷
    tag (codes "Round") (codes "?") ∷ tag (codes "White") (player_text white)
    ∷ tag (codes "Black") (player_text black) ∷
    tag (codes "Result") (result_text ending) ∷ []

-- the number of an article of the FIDE Laws of Chess
abbrev pub article_text : Article → List ℕ
article_text articles.A511 = codes "5.1.1"
article_text articles.A512 = codes "5.1.2"
article_text articles.A521 = codes "5.2.1"
article_text articles.A522 = codes "5.2.2"
article_text articles.A523 = codes "5.2.3"
article_text articles.A69 = codes "6.9"
article_text articles.A92 = codes "9.2"
article_text articles.A93 = codes "9.3"
article_text articles.A961 = codes "9.6.1"
article_text articles.A962 = codes "9.6.2"

-- the article by which a finished game ended (this project's own tag)
abbrev pub article_tags : Option Ending → List Tag
article_tags None = []
article_tags (Some ending) = tag (codes "Article") (article_text ending.article) ∷ []

-- The position in which the game starts, where it is not the initial one (PGN Standard, section 9.7).
pub record AreSetUpTags (start : Position) (tags : List Tag) : Type 0 where
  pub usual : start ≡ initial → tags ≡ []
  pub other : start ≢ initial → tags ≡ tag (codes "FEN") (fen_of start) ∷ tag (codes "SetUp") (codes "1") ∷ []

-- how the game ended (PGN Standard, section 9.8.1)
abbrev pub way_text : Article → List ℕ
way_text articles.A69 = codes "time forfeit"
way_text articles.A511 = codes "normal"
way_text articles.A512 = codes "normal"
way_text articles.A521 = codes "normal"
way_text articles.A522 = codes "normal"
way_text articles.A523 = codes "normal"
way_text articles.A92 = codes "normal"
way_text articles.A93 = codes "normal"
way_text articles.A961 = codes "normal"
way_text articles.A962 = codes "normal"

abbrev pub termination_text : Option Ending → List ℕ
termination_text None = codes "unterminated"
termination_text (Some ending) = way_text ending.article

-- `+` and the increment, where it is not 0
abbrev pub increment_text : ℕ → List ℕ
increment_text zero = []
increment_text (suc n) = codes "+" ++ decimal (suc n)

-- The times in seconds (PGN Standard, section 9.6.1): the initial time and the increment; with a second period the
-- number of moves of the first stands in front, and the second follows, both with the increment (this project's own).
abbrev pub time_control_text : ℕ → ℕ → Option (ℕ × ℕ) → List ℕ
time_control_text initial increment None = decimal initial ++ increment_text increment
time_control_text initial increment (Some (moves, second)) =
    decimal moves ++ (codes "/" ++ (decimal initial
    ++ (increment_text increment ++ (codes ":" ++ (decimal second ++ increment_text increment)))))

-- the new text is the old one with these tags
pub record PutsSetUp (old new : List ℕ) (start : Position) : Type 0 where
  pub tags : List Tag
  pub are : AreSetUpTags start tags
  pub written : new ≡ old ++ tags_text tags

-- what the tags of a game tell
pub record Heading : Type 0 where
  pub white : Option (List ℕ)
  pub black : Option (List ℕ)
  pub start : Position
  pub ending : Option Ending
  pub control : List ℕ

abbrev pub heading : Option (List ℕ) → Option (List ℕ) → Position → Option Ending → ℕ → ℕ → Option (ℕ × ℕ) → Heading
heading white black start ending initial increment period = record {
  white = white;
  black = black;
  start = start;
  ending = ending;
  control = time_control_text initial increment period;
}

-- the seven tags of the roster first, and then the others in ASCII order (PGN Standard, section 8.1.1)
abbrev pub game_tags : Heading → List Tag → List Tag
game_tags h set_up = roster h.white h.black h.ending ++ (article_tags h.ending ++ (set_up ++
    (tag (codes "Termination") (termination_text h.ending) ∷ tag (codes "TimeControl") h.control ∷ [])))

-- the new text is the old one with the tags of a game
pub record PutsTags (old new : List ℕ) (h : Heading) : Type 0 where
  pub set_up : List Tag
  pub are : AreSetUpTags h.start set_up
  pub put : new ≡ old ++ tags_text (game_tags h set_up)

-- The PGN of a game (PGN Standard, section 8): the tags, an empty line, the tokens of the moves and then the result in
-- lines, an empty line.
pub record IsPgnOf (text : List ℕ) (h : Heading) (tokens : List (List ℕ)) : Type 0 where
  pub set_up : List Tag
  pub are : AreSetUpTags h.start set_up
  pub movetext : List ℕ
  pub is_movetext : IsMovetext movetext (tokens ++ (result_text h.ending ∷ []))
  pub joined : text ≡ tags_text (game_tags h set_up) ++ (codes "\n" ++ (movetext ++ codes "\n"))
