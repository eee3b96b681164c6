use Rattle.chess_san.proofs.Counters.{threatens-made}
use Rattle.chess_san.proofs.writing.write_made.Goals as goal

pub returns : goal.returns
returns c = record {
  body = c.body-text.result.bytes;
  is_body = c.body-text.ensures.text;
  threat = c.threat_on.result;
  threatens = threatens-made c.args.board.now c.args.mv c.args.made.now c.threat_on.result c.requires.made
      c.threat_on.ensures;
  joined = c.push_threat.ensures.bytes;
}
