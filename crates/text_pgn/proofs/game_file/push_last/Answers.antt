use Rattle.std.proofs.Common.{append_assoc}
use Rattle.text_pgn.specs.Spectators.{last_json}
use Rattle.text_pgn.proofs.game_file.push_last.Goals as goal

pub returns : goal.returns
unfolding last_json
returns c =
    simp (
      append_assoc,
      c.in_ok-push_text-3.ensures,
      c.in_ok-push_text-2.ensures,
      c.in_ok-push_text.ensures,
      c.in_ok-push_number.ensures,
      c.san_in.ensures,
      c.move_in.ensures,
      c.position_in.ensures,
    )
