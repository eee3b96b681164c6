use Rattle.std.proofs.Common.{inl}
use Rattle.chess_notation.specs.San.{IsSan}
use Rattle.chess_san.proofs.OneText.{IsSan-one}
use Rattle.chess_san.proofs.OneMove.{spelled_one}
use Rattle.chess_san.proofs.writing.write.Goals.{After-push_threat}
use Rattle.chess_san.proofs.writing.write.Goals as goal

own : (c : After-push_threat) → IsSan c.args.board.now c.args.mv c.push_threat.new.text.bytes
own c = record {
  body = c.body-text.result.bytes;
  is_body = c.body-text.ensures.text;
  threat = c.threat_of.result;
  threatens = c.threat_of.ensures;
  joined = c.push_threat.ensures.bytes;
}

pub returns-clause-one_text : goal.returns-clause-one_text
returns-clause-one_text c = λ text is.
    IsSan-one c.args.board.now c.args.mv text c.push_threat.new.text.bytes is
    (own (goal.at.returns-clause-one_text c).After-push_threat)

pub returns-clause-one_move : goal.returns-clause-one_move
returns-clause-one_move c = λ other is.
    spelled_one c.args.board.now other c.args.mv c.push_threat.new.text.bytes (inl is)
    (inl (own (goal.at.returns-clause-one_move c).After-push_threat))
