use Rattle.std.proofs.Common.{◌≡◌, ◌++◌, [], false, drop, map}
use denote.Shadow.{shadow}
use denote.Text.{Utf8}
use Rattle.text_pgn.specs.Moves as spec
use Rattle.text_pgn.proofs.moves.told_tokens.Given as goal

abbrev pub invariant-loop-token : goal.invariant-loop-token
invariant-loop-token l = record {
  so_far : map (λ t. t.items) l.told.items
      ++ spec.told_tokens l.number l.again (map (λ t. t.now) (drop l.token-index l.tokens)) l.left
      ≡ spec.told_tokens [] false (map (λ t. t.now) l.tokens) l.clocks;
  text : shadow (Utf8 l.number);
}
