use Rattle.std.specs.String.{string_bytes}
use Rattle.lobby_talk.proofs.Replaying.{none_of_line}
use Rattle.lobby_talk.proofs.kept_answer.KeptAnswer.lost.Goals as goal

pub new-requires-clause-made : goal.new-requires-clause-made
new-requires-clause-made c =
    ∣ none_of_line (string_bytes c.args.pgn) (string_bytes c.in_ok-answer.answer) c.requires.none c.in_ok-answer.ensures.ok ∣₁
