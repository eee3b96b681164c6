use Rattle.std.proofs.Common.{◌≡◌, ◌+◌, ◌++◌, take, drop, vec_len}
use Rattle.chess_hub.specs.Answers.{names_over, name_at, commands_of}
use Rattle.chess_hub.specs.Delivery.{asking_count}
use Rattle.chess_hub.proofs.sessions.Sessions.commands.Given as goal

abbrev pub invariant-loop-place : goal.invariant-loop-place
invariant-loop-place l =
    (commands_of l.at (name_at l.self) l.lines
    ≡ l.commands.items ++ commands_of l.at (names_over l.at (name_at l.self) (take l.place l.lines)) (drop l.place l.lines))
    × (asking_count l.at l.lines ≡ vec_len l.commands + asking_count l.at (drop l.place l.lines))
