use Rattle.std.proofs.Common.{◌≡◌, take}
use Rattle.chess_entry.specs.Bounds.{ending_by_last}
use Rattle.chess_game.specs.Scoresheet.{times_of}
use Rattle.chess_game.specs.Restored.{IsReplayed}
use Rattle.chess_game.proofs.scoresheet.Scoresheet.replay.Given as goal

-- the line of the moves so far, and how often its last position has come
abbrev pub invariant-loop-mv : goal.invariant-loop-mv
invariant-loop-mv l =
    IsReplayed l.fn.start (take l.mv-index l.moves) l.line (ending_by_last l.line.start l.line.moves)
    × (l.times ≡ times_of l.line)
