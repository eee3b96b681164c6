use Rattle.std.proofs.Common.{◌≡◌, map, take, None}
use Rattle.std.specs.Prelude.{find}
use Rattle.text_pgn.specs.Game.{is_fen_tag}
use Rattle.text_pgn.proofs.game_words.fen_tag.Given as goal

abbrev pub invariant-loop-line : goal.invariant-loop-line
invariant-loop-line l = find is_fen_tag (take l.line-index (map (λ line. line.now) l.lines)) ≡ None
