use Rattle.std.proofs.Common.{ℕ, List, subst}
use Rattle.text_pgn.specs.Rows.{rows_in, last_row, position_in}
use Rattle.text_pgn.specs.Spectators.{IsCheckAt}
use Rattle.text_pgn.proofs.game_file.replayed.Goals as goal

pub returns-clause-told : goal.returns-clause-told
returns-clause-told c = λ start moves tells.
    record {
      answer = rw c.in-Some.is at (c.in_ok-answer.ensures.told start moves tells);
      check = subst (λ (text : List ℕ). IsCheckAt c.in_ok-is_check.is_check (position_in (last_row (rows_in text))))
          c.as_str.ensures.value
          c.in_ok-is_check.ensures;
    }
