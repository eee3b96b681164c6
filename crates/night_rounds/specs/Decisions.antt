-- A decision of an arbiter about a board, as a line of a file, an object of JSON.
use Rattle.std.specs.Prelude.{ℕ, ◌^◌, nat_le, Bool, false, List, ◌++◌, codes, decimal, drop, Option, None, Some}
use Rattle.std.specs.Prelude.{if◌then◌else◌}
use Rattle.std.specs.List.{list_all}
use Rattle.std.specs.Str.{bytes_eq, is_utf8}
use Rattle.std.specs.String.{string_bytes}
use Rattle.night_report.specs.declared.cells.Bye.{Bye}
use Rattle.night_report.specs.declared.cells.Bye.TheVariants as byes
use Rattle.text_parts.specs.Numbers.{u64_in, number_below}
use Rattle.text_parts.specs.Strings.{escaped, unescaped_from, behind_from}
use Rattle.night_rounds.specs.declared.decisions.Decision.{Decision}
use Rattle.night_rounds.specs.declared.decisions.Ground as declared_ground
use Rattle.night_rounds.specs.declared.decisions.Head as declared_head
use Rattle.night_rounds.specs.declared.decisions.Players as declared_players
use Rattle.night_rounds.specs.declared.decisions.Verdict.{Verdict}
use Rattle.night_rounds.specs.declared.decisions.Verdict.TheVariants as verdicts
use Rattle.night_rounds.specs.Times.{front_of, rest_of}

-- the players of a board by their names
pub record Sides : Type 0 where
  pub white : List ℕ
  pub black : List ℕ

abbrev pub sides : declared_players.Players → Sides
sides p = record { white = string_bytes p.white; black = string_bytes p.black }

-- by which article, by whom and why
pub record Grounds : Type 0 where
  pub article : List ℕ
  pub arbiter : List ℕ
  pub reason : List ℕ

abbrev pub grounds : declared_ground.Ground → Grounds
grounds g =
    record { article = string_bytes g.article; arbiter = string_bytes g.arbiter; reason = string_bytes g.reason }

-- when, about which board, and what
pub record Told : Type 0 where
  pub at : ℕ
  pub board : ℕ
  pub verdict : Verdict

abbrev pub told : declared_head.Head → Told
told h = record { at = h.at; board = h.board; verdict = h.verdict }

-- what a decision tells
pub record Decided : Type 0 where
  pub head : Told
  pub players : Sides
  pub ground : Grounds

abbrev pub decided : Decision → Decided
decided d =
    record {
      head = record { at = d.at; board = d.board; verdict = d.verdict };
      players = sides d.players;
      ground = grounds d.ground;
    }

-- the signs of a bye in a report
abbrev pub bye_text : Bye → List ℕ
bye_text byes.Pairing = codes "U"
bye_text byes.Full = codes "F"
bye_text byes.Half = codes "H"
bye_text byes.Zero = codes "Z"

-- White's points before Black's; of who did not come a minus, and of a game that is not rated, since not both sides
-- made a move, the signs of a report, as of a bye
abbrev pub verdict_text : Verdict → List ℕ
verdict_text verdicts.White = codes "1-0"
verdict_text verdicts.Black = codes "0-1"
verdict_text verdicts.Draw = codes "1/2-1/2"
verdict_text verdicts.HalfWhite = codes "1/2-0"
verdict_text verdicts.HalfBlack = codes "0-1/2"
verdict_text verdicts.Neither = codes "0-0"
verdict_text verdicts.WhiteCame = codes "+/-"
verdict_text verdicts.BlackCame = codes "-/+"
verdict_text verdicts.NobodyCame = codes "-/-"
verdict_text verdicts.WhiteUnrated = codes "W/L"
verdict_text verdicts.BlackUnrated = codes "L/W"
verdict_text verdicts.DrawUnrated = codes "D/D"
verdict_text (verdicts.Bye bye) = bye_text bye
verdict_text verdicts.AsPlayed = codes "as-played"

unfoldable pub verdict_in : List ℕ → Option Verdict
verdict_in text =
    if bytes_eq text (codes "1-0") then Some verdicts.White
    else (if bytes_eq text (codes "0-1") then Some verdicts.Black
    else (if bytes_eq text (codes "1/2-1/2") then Some verdicts.Draw
    else (if bytes_eq text (codes "1/2-0") then Some verdicts.HalfWhite
    else (if bytes_eq text (codes "0-1/2") then Some verdicts.HalfBlack
    else (if bytes_eq text (codes "0-0") then Some verdicts.Neither
    else (if bytes_eq text (codes "+/-") then Some verdicts.WhiteCame
    else (if bytes_eq text (codes "-/+") then Some verdicts.BlackCame
    else (if bytes_eq text (codes "-/-") then Some verdicts.NobodyCame
    else (if bytes_eq text (codes "W/L") then Some verdicts.WhiteUnrated
    else (if bytes_eq text (codes "L/W") then Some verdicts.BlackUnrated
    else (if bytes_eq text (codes "D/D") then Some verdicts.DrawUnrated
    else (if bytes_eq text (codes "U") then Some (verdicts.Bye byes.Pairing)
    else (if bytes_eq text (codes "F") then Some (verdicts.Bye byes.Full)
    else (if bytes_eq text (codes "H") then Some (verdicts.Bye byes.Half)
    else (if bytes_eq text (codes "Z") then Some (verdicts.Bye byes.Zero)
    else (if bytes_eq text (codes "as-played") then Some verdicts.AsPlayed else None))))))))))))))))

-- what stands before a string and its first quote, and its text
abbrev pub text_behind : List ℕ → List ℕ → List ℕ
text_behind front text = front ++ escaped text

unfoldable pub head_text : ℕ → ℕ → Verdict → List ℕ
head_text at board verdict =
    (codes "{\"at\":" ++ decimal at) ++ ((codes ",\"board\":" ++ decimal board)
    ++ (text_behind (codes ",\"result\":\"") (verdict_text verdict) ++ codes "\""))

unfoldable pub players_text : Sides → List ℕ
players_text p =
    text_behind (codes ",\"white\":\"") p.white ++ text_behind (codes "\",\"black\":\"") p.black

unfoldable pub ground_text : Grounds → List ℕ
ground_text g =
    text_behind (codes "\",\"article\":\"") g.article ++ (text_behind (codes "\",\"arbiter\":\"") g.arbiter
    ++ text_behind (codes "\",\"reason\":\"") g.reason)

-- `{"at":1764160000123,"board":3,"result":"1/2-1/2","white":"ann","black":"bob","article":"6.9","arbiter":"Eve Moss",
-- "reason":"only a knight"}`, in one line
unfoldable pub line_of : Decided → List ℕ
line_of d =
    head_text d.head.at d.head.board d.head.verdict ++ (players_text d.players
    ++ (ground_text d.ground ++ codes "\"}"))

-- a text: no control character, in UTF-8
abbrev pub is_plain : ℕ → Bool
is_plain b = nat_le 32 b

abbrev pub text_in : List ℕ → Option (List ℕ)
text_in bytes = if is_utf8 bytes then (if list_all is_plain bytes then Some bytes else None) else None

abbrev pub string_in : List ℕ → Option (List ℕ)
string_in text = text_in (unescaped_from false text)

-- what stands behind the first quote of Black's name, of the article and so on, by what stands behind the one before
abbrev pub black_text : List ℕ → List ℕ
black_text text = drop 10 (behind_from false text)

abbrev pub article_text : List ℕ → List ℕ
article_text text = drop 12 (behind_from false (black_text text))

abbrev pub arbiter_text : List ℕ → List ℕ
arbiter_text text = drop 12 (behind_from false text)

abbrev pub reason_text : List ℕ → List ℕ
reason_text text = drop 11 (behind_from false text)

abbrev pub sides_with : Option (List ℕ) → Option (List ℕ) → Option Sides
sides_with None black = None
sides_with (Some white) None = None
sides_with (Some white) (Some black) = Some (record { white = white; black = black })

unfoldable pub sides_in : List ℕ → Option Sides
sides_in text = sides_with (string_in text) (string_in (black_text text))

abbrev pub grounds_with : Option (List ℕ) → Option (List ℕ) → Option (List ℕ) → Option Grounds
grounds_with None arbiter reason = None
grounds_with (Some article) None reason = None
grounds_with (Some article) (Some arbiter) None = None
grounds_with (Some article) (Some arbiter) (Some reason) =
    Some (record { article = article; arbiter = arbiter; reason = reason })

unfoldable pub grounds_in : List ℕ → Option Grounds
grounds_in text =
    grounds_with (string_in text) (string_in (arbiter_text text)) (string_in (reason_text (arbiter_text text)))

-- what stands behind the first colon, behind the second and so on
abbrev pub behind_at : List ℕ → List ℕ
behind_at line = rest_of 58 line

abbrev pub behind_board : List ℕ → List ℕ
behind_board line = rest_of 58 (behind_at line)

abbrev pub behind_result : List ℕ → List ℕ
behind_result line = rest_of 58 (behind_board line)

abbrev pub head_with : Option ℕ → Option ℕ → Option Verdict → Option Told
head_with None board verdict = None
head_with (Some at) None verdict = None
head_with (Some at) (Some board) None = None
head_with (Some at) (Some board) (Some verdict) = Some (record { at = at; board = board; verdict = verdict })

-- what stands between the first quotes of a text
abbrev pub unquoted : List ℕ → List ℕ
unquoted text = front_of 34 (rest_of 34 text)

-- the verdict of what stands behind the colon before it
unfoldable pub verdict_behind : List ℕ → Option Verdict
verdict_behind text = verdict_in (unquoted (rest_of 58 text))

unfoldable pub head_in : List ℕ → Option Told
head_in line =
    head_with (u64_in (front_of 44 (behind_at line))) (number_below (2 ^ 32) (front_of 44 (behind_board line)))
    (verdict_behind (behind_board line))

-- what stands behind the first quote of White's name
abbrev pub white_text : List ℕ → List ℕ
white_text line = drop 1 (rest_of 58 (behind_result line))

abbrev pub decided_with : Told → Option Sides → Option Grounds → Option Decided
decided_with head None ground = None
decided_with head (Some players) None = None
decided_with head (Some players) (Some ground) = Some (record { head = head; players = players; ground = ground })

unfoldable pub texts_in : Told → List ℕ → Option Decided
texts_in head text = decided_with head (sides_in text) (grounds_in (article_text text))

-- the decision of which a line may be that
abbrev pub likely_with : List ℕ → Option Told → Option Decided
likely_with line None = None
likely_with line (Some head) = texts_in head (white_text line)

abbrev pub likely_decision : List ℕ → Option Decided
likely_decision line = likely_with line (head_in line)

abbrev pub is_line_of : List ℕ → Decided → Bool
is_line_of line d = bytes_eq (line_of d) line

abbrev pub if_spelled : List ℕ → Option Decided → Option Decided
if_spelled line None = None
if_spelled line (Some d) = if is_line_of line d then Some d else None

-- what the decision of a line tells; none where it is that of none
abbrev pub decision_in : List ℕ → Option Decided
decision_in line = if_spelled line (likely_decision line)
