use Rattle.std.proofs.Common.{refl}
use Rattle.std.proofs.lemmas.Bool.{false≢true}
use Rattle.chess_san.proofs.origin.origin_of.Goals as goal

pub returns-then-not-has_rival : goal.returns-then-not-has_rival
returns-then-not-has_rival c = λ rival. false≢true (c.if-not-has_rival.ensures.1 rival)

pub returns-then-not-has_rival-2 : goal.returns-then-not-has_rival-2
returns-then-not-has_rival-2 c =
    (c.if-not-has_rival.ensures.0 refl, λ rival. false≢true (c.if-not-has_rival-2.ensures.1 rival))

pub returns-then-not-has_rival-3 : goal.returns-then-not-has_rival-3
returns-then-not-has_rival-3 c =
    (c.if-not-has_rival-2.ensures.0 refl, λ rival. false≢true (c.if-not-has_rival-3.ensures.1 rival))

pub returns-else-not-has_rival-3 : goal.returns-else-not-has_rival-3
returns-else-not-has_rival-3 c = (c.if-not-has_rival-2.ensures.0 refl, c.if-not-has_rival-3.ensures.0 refl)
