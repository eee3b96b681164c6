use Rattle.std.proofs.Common.{length}
use Rattle.lobby_talk.proofs.made.+last_line.Given as goal

abbrev pub decreases-last_line : goal.decreases-last_line
decreases-last_line l = length l.text.now
