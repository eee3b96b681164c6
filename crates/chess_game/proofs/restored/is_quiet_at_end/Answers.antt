use Rattle.std.proofs.Common.{Option, sym, ap, ◌∙◌}
use Rattle.std.specs.Prelude.{is_some}
use Rattle.chess_end.specs.declared.ending.Ending.{Ending}
use Rattle.chess_game.proofs.restored.is_quiet_at_end.Goals as goal

pub returns-in-Some : goal.returns-in-Some
returns-in-Some c = λ moves. (
  λ told over. (c.is_quiet.ensures moves).0 told,
  λ quiet. (c.is_quiet.ensures moves).1
      (quiet (ap (λ (o : Option Ending). is_some o) (sym c.told_ending.ensures ∙ c.in-Some.is))),
)
