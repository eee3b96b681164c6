use Rattle.std.proofs.Common.{refl}
use Rattle.std.proofs.lemmas.Bool.{false≢true}
use Rattle.chess_san.proofs.threat.threat_on.Goals as goal

pub returns-then-has_legal : goal.returns-then-has_legal
returns-then-has_legal c = (c.if-not-in_check.ensures.0 refl, c.if-has_legal.ensures.0 refl)

pub returns-else-has_legal : goal.returns-else-has_legal
returns-else-has_legal c =
    (c.if-not-in_check.ensures.0 refl, λ has. false≢true (c.if-has_legal.ensures.1 has))
