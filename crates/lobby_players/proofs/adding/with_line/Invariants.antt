use Rattle.std.proofs.Common.{◌≡◌, ◌++◌, map, drop}
use Rattle.std.specs.String.{string_bytes}
use Rattle.lobby_words.specs.Lines.{bytes_of}
use Rattle.lobby_players.specs.Adding.{in_place, is_of}
use Rattle.lobby_players.proofs.Written.{left}
use Rattle.lobby_players.proofs.adding.with_line.Given as goal

abbrev pub invariant-loop-old : goal.invariant-loop-old
invariant-loop-old l =
    string_bytes l.new ++ bytes_of (left (is_of l.name) l.line l.is_put (drop l.old-index (map (λ line. line.now) l.old-items)))
    ≡ bytes_of (in_place (is_of l.name) l.line (map (λ line. line.now) l.old-items))
