use Rattle.std.proofs.Common.{◌∙◌, sym, refl}
use Rattle.std.proofs.lemmas.Bool.{false≢true}
use Rattle.chess_san.proofs.Comparing.{not_started, started, whole_body, compared}
use Rattle.chess_san.proofs.reading.is_spelled.Goals as goal

pub returns-then-not-starts_with : goal.returns-then-not-starts_with
returns-then-not-starts_with c = (
  λ no. absurd (false≢true no),
  λ told. absurd (not_started c.args.board.now c.args.mv.now c.body-own.result.bytes c.as_bytes.result.now c.args.text.now
      c.body-own.ensures.text (c.as_bytes.ensures.value ∙ c.as_str.ensures.value) c.if-not-starts_with.ensures.value told),
)

pub returns-then-len-text : goal.returns-then-len-text
returns-then-len-text c = (
  λ _. whole_body c.args.board.now c.args.mv.now c.body-own.result.bytes c.args.text.now c.body-own.ensures.text
      (started c.body-own.result.bytes c.as_bytes.result.now c.args.text.now
      (c.as_bytes.ensures.value ∙ c.as_str.ensures.value) c.if-not-starts_with.ensures.value)
      (sym c.len.ensures.value ∙ c.if-len-text.true),
  λ _. refl,
)

pub returns : goal.returns
returns c =
    compared c.args.board.now c.args.mv.now c.body-own.result.bytes c.push_threat.new.text.bytes
    c.as_bytes-2.result.now c.args.text.now c.threat_of.result c.eq.result c.body-own.ensures.text c.threat_of.ensures
    c.push_threat.ensures.bytes (c.as_bytes-2.ensures.value ∙ c.as_str-2.ensures.value)
    (λ e. c.if-len-text.false (c.len.ensures.value ∙ e)) c.eq.ensures
