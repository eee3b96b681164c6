use Rattle.std.proofs.Common.{[], ap, refl}
use Rattle.rec_codec.specs.declared.header.Header.{Header}
use Rattle.chess_store.proofs.CommitLemmas.{switch_lasts, tried_by}
use Rattle.chess_store.proofs.WidenLemmas.{empty_batch}
use Rattle.chess_store.proofs.store.widening.switch_halves.Goals as goal

pub returns-clause-lasts : goal.returns-clause-lasts
returns-clause-lasts g c = λ table sound taken kept.
    switch_lasts c.args.journal.now c.switch.new.self c.switch.result c.args.snapshot.now [] c.switch.ensures table
    table taken (empty_batch [] refl sound kept)

pub returns-clause-tried : goal.returns-clause-tried
returns-clause-tried g c =
    tried_by c.args.journal.now c.switch.new.self c.switch.result c.switch.ensures (λ short. short) c.requires.works
    c.requires.number (λ switched. ap (λ (h : Header). h.limits) switched.header)
