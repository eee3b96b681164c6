-- The results of a round as CSV (RFC 4180).
use Rattle.std.specs.Prelude.{ℕ, List, [], ◌∷◌, ◌++◌, codes, decimal, flat_map, Option, None, Some}
use Rattle.night_report.specs.CsvCells.{cell_text}
use Rattle.night_report.specs.CsvRows as rows
use Rattle.night_rounds.specs.declared.decisions.Decision.{Decision}
use Rattle.night_rounds.specs.declared.outcomes.Outcome.{Outcome}
use Rattle.night_rounds.specs.Counting.{decision_about, result_by, article_by, arbiter_of, reason_of}

abbrev pub columns : List (List ℕ)
columns =
    codes "board" ∷ codes "white" ∷ codes "black" ∷ codes "result" ∷ codes "article" ∷ codes "game" ∷ codes "server"
    ∷ codes "arbiter" ∷ codes "reason" ∷ codes "note" ∷ []

-- the game, where there is one
abbrev pub game_text : Option ℕ → List ℕ
game_text None = []
game_text (Some game) = decimal game

-- A board's cells, by the decision about it: what counts; behind the game the result that the server tells, and who
-- decided otherwise, and why.
abbrev pub cells_of : Option Decision → Outcome → List (List ℕ)
cells_of decision o =
    decimal o.board ∷ cell_text o.white.now ∷ cell_text o.black.now ∷ cell_text (result_by decision o.result.now)
    ∷ cell_text (article_by decision o.article.now) ∷ game_text o.game ∷ cell_text o.result.now
    ∷ cell_text (arbiter_of decision) ∷ cell_text (reason_of decision) ∷ cell_text o.note.now ∷ []

abbrev pub row_text : Option Decision → Outcome → List ℕ
row_text decision o = rows.row_text (cells_of decision o)

abbrev pub rows_text : List Decision → List Outcome → List ℕ
rows_text decisions outcomes = flat_map (λ o. row_text (decision_about o.board decisions) o) outcomes

abbrev pub results_text : List Decision → List Outcome → List ℕ
results_text decisions outcomes = rows.row_text columns ++ rows_text decisions outcomes
