-- Which decision of an arbiter counts for a board: the last one about it takes the place of those before, and of what
-- the server says; where it says that the board has its result as it was played, none counts.
use Rattle.std.specs.Prelude.{ℕ, ◌==◌, Bool, true, false, not, ◌||◌, List, [], ◌∷◌, Option, None, Some, if◌then◌else◌}
use Rattle.std.specs.String.{string_bytes}
use Rattle.night_report.specs.declared.cells.Bye.{Bye}
use Rattle.night_report.specs.declared.cells.Play.{Play}
use Rattle.night_report.specs.declared.cells.Play.TheVariants as plays
use Rattle.night_report.specs.declared.cells.Score.{Score}
use Rattle.night_report.specs.declared.cells.Score.TheVariants as scores
use Rattle.night_rounds.specs.declared.counting.Scored.{Scored}
use Rattle.night_rounds.specs.declared.rows.Against.{Against}
use Rattle.night_rounds.specs.declared.rows.Against.TheVariants as against
use Rattle.night_rounds.specs.declared.decisions.Decision.{Decision}
use Rattle.night_rounds.specs.declared.decisions.Verdict.{Verdict}
use Rattle.night_rounds.specs.declared.decisions.Verdict.TheVariants as verdicts
use Rattle.night_rounds.specs.Decisions.{verdict_text}

-- the last decision about a board, behind one that was found before
abbrev pub last_from : ℕ → List Decision → Option Decision → Option Decision
last_from board [] found = found
last_from board (d ∷ ds) found = last_from board ds (if d.board == board then Some d else found)

abbrev pub last_about : ℕ → List Decision → Option Decision
last_about board decisions = last_from board decisions None

-- no result of its own: that of the game counts
abbrev pub is_as_played : Verdict → Bool
is_as_played verdicts.AsPlayed = true
is_as_played _ = false

-- of a bye that it is another one, of a game no bye, and of either that it is what it was
abbrev pub is_bye : Verdict → Bool
is_bye (verdicts.Bye bye) = true
is_bye _ = false

abbrev pub may_have : Against → Verdict → Bool
may_have (against.Bye bye) verdict = is_bye verdict || is_as_played verdict
may_have (against.Game game) verdict = not (is_bye verdict)

abbrev pub if_counting : Option Decision → Option Decision
if_counting None = None
if_counting (Some d) = if is_as_played d.verdict then None else Some d

-- the decision that counts for a board
abbrev pub decision_about : ℕ → List Decision → Option Decision
decision_about board decisions = if_counting (last_about board decisions)

-- the result and the article that count, where the server tells these
abbrev pub result_by : Option Decision → List ℕ → List ℕ
result_by None told = told
result_by (Some d) told = verdict_text d.verdict

abbrev pub article_by : Option Decision → List ℕ → List ℕ
article_by None told = told
article_by (Some d) told = string_bytes d.ground.article

-- who decided, and why
abbrev pub arbiter_of : Option Decision → List ℕ
arbiter_of None = []
arbiter_of (Some d) = string_bytes d.ground.arbiter

abbrev pub reason_of : Option Decision → List ℕ
reason_of None = []
reason_of (Some d) = string_bytes d.ground.reason

-- What a verdict is in a report. (One without a result of its own is none that counts, and one of a bye is of no game:
-- these do not come here.)
abbrev pub score_of : Verdict → Score
score_of verdicts.White = scores.White
score_of verdicts.Black = scores.Black
score_of verdicts.Draw = scores.Draw
score_of verdicts.HalfWhite = scores.HalfWhite
score_of verdicts.HalfBlack = scores.HalfBlack
score_of verdicts.Neither = scores.Neither
score_of verdicts.WhiteCame = scores.White
score_of verdicts.BlackCame = scores.Black
score_of verdicts.NobodyCame = scores.Neither
score_of verdicts.WhiteUnrated = scores.White
score_of verdicts.BlackUnrated = scores.Black
score_of verdicts.DrawUnrated = scores.Draw
score_of (verdicts.Bye bye) = scores.Open
score_of verdicts.AsPlayed = scores.Open

-- A verdict is one of a game that was played, but where somebody did not come, or not both sides made a move. (Nor do
-- those come here.)
abbrev pub play_of : Verdict → Play
play_of verdicts.White = plays.Board
play_of verdicts.Black = plays.Board
play_of verdicts.Draw = plays.Board
play_of verdicts.HalfWhite = plays.Board
play_of verdicts.HalfBlack = plays.Board
play_of verdicts.Neither = plays.Board
play_of verdicts.WhiteCame = plays.Forfeit
play_of verdicts.BlackCame = plays.Forfeit
play_of verdicts.NobodyCame = plays.Forfeit
play_of verdicts.WhiteUnrated = plays.Short
play_of verdicts.BlackUnrated = plays.Short
play_of verdicts.DrawUnrated = plays.Short
play_of (verdicts.Bye bye) = plays.Board
play_of verdicts.AsPlayed = plays.Board

-- As one that was played counts only a game in which both sides made a move, or none that is known: a report rates it.
abbrev pub as_played : (told : Play) → Play
as_played plays.Board = plays.Board
as_played plays.Short = plays.Short
as_played plays.Forfeit = plays.Short

abbrev pub play_by : (decided told : Play) → Play
play_by plays.Board told = as_played told
play_by plays.Short told = plays.Short
play_by plays.Forfeit told = plays.Forfeit

abbrev pub scored_by : Option Decision → Scored → Scored
scored_by None told = told
scored_by (Some d) told = record { score = score_of d.verdict; play = play_by (play_of d.verdict) told.play }

-- what a bye is, where the pairings tell this
abbrev pub bye_or : Verdict → Bye → Bye
bye_or (verdicts.Bye bye) told = bye
bye_or _ told = told

abbrev pub bye_by : Option Decision → Bye → Bye
bye_by None told = told
bye_by (Some d) told = bye_or d.verdict told
