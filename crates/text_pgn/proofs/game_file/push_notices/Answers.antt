use Rattle.std.proofs.Common.{append_assoc}
use Rattle.text_pgn.specs.Spectators.{notices_json}
use Rattle.text_pgn.proofs.game_file.push_notices.Goals as goal

pub returns : goal.returns
unfolding notices_json
returns c = simp (append_assoc, c.in_ok-push_text-2.ensures, c.in_ok-push_text.ensures)
