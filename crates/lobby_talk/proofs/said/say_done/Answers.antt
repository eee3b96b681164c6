use Rattle.std.proofs.Common.{ap}
use Rattle.std.specs.Prelude.{is_some}
use Rattle.std.specs.String.{string_bytes}
use Rattle.lobby_talk.specs.Talking.{WithLink}
use Rattle.lobby_talk.proofs.Saying.{said_says}
use Rattle.lobby_talk.proofs.said.say_done.Goals as goal

pub returns-in_ok-unlinked-in-None-clause-says : goal.returns-in_ok-unlinked-in-None-clause-says
returns-in_ok-unlinked-in-None-clause-says c =
    said_says c.args.shown.now c.args.number c.args.at c.args.talk.now c.unlinked.new.self c.in_ok-unlinked-in-None.ensures.moves

pub returns-in_ok-linked-in-Some-clause-says : goal.returns-in_ok-linked-in-Some-clause-says
returns-in_ok-linked-in-Some-clause-says c = record {
  how = WithLink c.in-Some.linked.players.items (string_bytes c.in-Some.linked.token);
  may = ap is_some c.requires.asked;
  moves = c.in_ok-linked-in-Some.ensures;
}
