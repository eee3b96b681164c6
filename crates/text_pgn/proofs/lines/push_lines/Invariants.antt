use Rattle.std.proofs.Common.{◌≤◌, map, take}
use Rattle.chess_text.specs.Movetext.{IsUnderWay}
use Rattle.text_pgn.proofs.lines.push_lines.Given as goal

-- the tokens so far are written
abbrev pub invariant-loop-token : goal.invariant-loop-token
invariant-loop-token l = record {
  under_way : IsUnderWay l.fn.out.items (map (λ t. t.items) (take l.token-index l.tokens)) l.out.items l.width;
  width : l.width ≤ 79;
}
