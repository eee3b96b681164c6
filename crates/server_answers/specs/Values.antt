-- What the fields of an answer say.
use Rattle.std.specs.Prelude.{ℕ, ◌^◌, Bool, true, false, ◌&&◌, nat_le, List, length, codes, Option, None, Some}
use Rattle.std.specs.Prelude.{if◌then◌else◌}
use Rattle.std.specs.List.{list_all}
use Rattle.std.specs.Str.{bytes_eq}
use Rattle.text_parts.specs.Numbers.{number_below, u64_in}
use Rattle.player_name.specs.Name.{is_name_byte}
use Rattle.server_answers.specs.declared.values.Seats.{Seats}
use Rattle.server_answers.specs.declared.values.Side.{Side}
use Rattle.server_answers.specs.declared.values.Side.TheVariants as sides
use Rattle.server_answers.specs.declared.values.Clocks.{Clocks}
use Rattle.server_answers.specs.declared.values.Offers.{Offers}
use Rattle.server_answers.specs.declared.values.GameResult.{GameResult}
use Rattle.server_answers.specs.declared.values.GameResult.TheVariants as results
use Rattle.server_answers.specs.declared.values.Article.{Article}
use Rattle.server_answers.specs.declared.values.Article.TheVariants as articles
use Rattle.server_answers.specs.declared.values.Ending.{Ending}

-- ---- as the server spells them

-- a player's name, or `-` for an empty seat
abbrev pub seat_text : Option (List ℕ) → List ℕ
seat_text None = codes "-"
seat_text (Some name) = name

-- the side on move
abbrev pub side_text : Side → List ℕ
side_text sides.White = codes "w"
side_text sides.Black = codes "b"

-- the sides whose offers of a draw stand
abbrev pub offers_by : (white black : Bool) → List ℕ
offers_by true true = codes "wb"
offers_by true false = codes "w"
offers_by false true = codes "b"
offers_by false false = codes "-"

abbrev pub offers_text : Offers → List ℕ
offers_text offers = offers_by offers.white offers.black

abbrev pub score_text : GameResult → List ℕ
score_text results.White = codes "1-0"
score_text results.Black = codes "0-1"
score_text results.Draw = codes "1/2-1/2"

-- the result, or `*` while the game goes on
abbrev pub result_text : Option GameResult → List ℕ
result_text None = codes "*"
result_text (Some result) = score_text result

-- the number of an article of the FIDE Laws of Chess
abbrev pub article_text : Article → List ℕ
article_text articles.A511 = codes "5.1.1"
article_text articles.A512 = codes "5.1.2"
article_text articles.A521 = codes "5.2.1"
article_text articles.A522 = codes "5.2.2"
article_text articles.A523 = codes "5.2.3"
article_text articles.A69 = codes "6.9"
article_text articles.A92 = codes "9.2"
article_text articles.A93 = codes "9.3"
article_text articles.A961 = codes "9.6.1"
article_text articles.A962 = codes "9.6.2"

-- RESULT and ARTICLE of a game, which are `*` and `-` while it goes on
abbrev pub ending_result : Option Ending → List ℕ
ending_result None = codes "*"
ending_result (Some ending) = score_text ending.result

abbrev pub ending_article : Option Ending → List ℕ
ending_article None = codes "-"
ending_article (Some ending) = article_text ending.article

-- ---- as they are read

abbrev pub u32_in : List ℕ → Option ℕ
u32_in field = number_below (2 ^ 32) field

-- whether a text is a name (`IsName`)
abbrev pub is_name : List ℕ → Bool
is_name text = nat_le 1 (length text) && nat_le (length text) 16 && list_all is_name_byte text

abbrev pub seat_in : List ℕ → Option (Option (List ℕ))
seat_in field = if bytes_eq field (codes "-") then Some None else (if is_name field then Some (Some field) else None)

abbrev pub seats_with : Option (Option (List ℕ)) → Option (Option (List ℕ)) → Option Seats
seats_with None black = None
seats_with (Some white) None = None
seats_with (Some white) (Some black) = Some (record { white = white; black = black })

abbrev pub seats_in : (white black : List ℕ) → Option Seats
seats_in white black = seats_with (seat_in white) (seat_in black)

abbrev pub side_in : List ℕ → Option Side
side_in field =
    if bytes_eq field (codes "w") then Some sides.White
    else (if bytes_eq field (codes "b") then Some sides.Black else None)

abbrev pub clocks_with : Option ℕ → Option ℕ → Option Clocks
clocks_with None black = None
clocks_with (Some white) None = None
clocks_with (Some white) (Some black) = Some (record { white_ms = white; black_ms = black })

abbrev pub clocks_in : (white black : List ℕ) → Option Clocks
clocks_in white black = clocks_with (u64_in white) (u64_in black)

abbrev pub offers : Bool → Bool → Offers
offers white black = record { white = white; black = black }

abbrev pub offers_in : List ℕ → Option Offers
offers_in field =
    if bytes_eq field (codes "-") then Some (offers false false)
    else (if bytes_eq field (codes "w") then Some (offers true false)
    else (if bytes_eq field (codes "b") then Some (offers false true)
    else (if bytes_eq field (codes "wb") then Some (offers true true) else None)))

abbrev pub score_in : List ℕ → Option GameResult
score_in field =
    if bytes_eq field (codes "1-0") then Some results.White
    else (if bytes_eq field (codes "0-1") then Some results.Black
    else (if bytes_eq field (codes "1/2-1/2") then Some results.Draw else None))

abbrev pub told : {A : Type 0} → Option A → Option (Option A)
told None = None
told (Some a) = Some (Some a)

abbrev pub result_in : List ℕ → Option (Option GameResult)
result_in field = if bytes_eq field (codes "*") then Some None else told (score_in field)

abbrev pub article_in : List ℕ → Option Article
article_in field =
    if bytes_eq field (codes "5.1.1") then Some articles.A511
    else (if bytes_eq field (codes "5.1.2") then Some articles.A512
    else (if bytes_eq field (codes "5.2.1") then Some articles.A521
    else (if bytes_eq field (codes "5.2.2") then Some articles.A522
    else (if bytes_eq field (codes "5.2.3") then Some articles.A523
    else (if bytes_eq field (codes "6.9") then Some articles.A69
    else (if bytes_eq field (codes "9.2") then Some articles.A92
    else (if bytes_eq field (codes "9.3") then Some articles.A93
    else (if bytes_eq field (codes "9.6.1") then Some articles.A961
    else (if bytes_eq field (codes "9.6.2") then Some articles.A962 else None)))))))))

abbrev pub end_with : Option GameResult → Option Article → Option Ending
end_with None article = None
end_with (Some result) None = None
end_with (Some result) (Some article) = Some (record { result = result; article = article })

-- END of a game that is over
abbrev pub end_in : (result article : List ℕ) → Option Ending
end_in result article = end_with (score_in result) (article_in article)

abbrev pub ending_in : (result article : List ℕ) → Option (Option Ending)
ending_in result article =
    if bytes_eq result (codes "*") && bytes_eq article (codes "-") then Some None else told (end_in result article)
