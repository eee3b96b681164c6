use Rattle.std.proofs.Common.{Option, subst}
use Rattle.chess_end.specs.declared.ending.Ending.{Ending}
use Rattle.chess_entry.specs.Bounds.{Agrees, ending_by_last}
use Rattle.chess_game.proofs.restored.is_ended_rightly.Goals as goal

pub returns-then-agrees : goal.returns-then-agrees
returns-then-agrees c =
    let moves = c.args.moves.now in
    let P : Option Ending → Type 0 = λ o. Agrees o c.told_ending.result in
    let Q : Option Ending → Type 0 = λ o. Agrees (ending_by_last c.args.head.now.start moves) o in
    let ends = subst Q c.told_ending.ensures (subst P c.requires (c.agrees.ensures.0 c.if-agrees.true)) in (
      λ told. record { ending = ends; quiet = (c.is_quiet_at_end.ensures moves).0 told },
      λ is. (c.is_quiet_at_end.ensures moves).1 is.quiet,
    )
