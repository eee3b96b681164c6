use Rattle.std.specs.Prelude.{◌≡◌, length}
use Rattle.chess_fen.proofs.ShownLemmas.{AreTextsFrom}
use Rattle.chess_fen.proofs.shown.renew_all.Given as goal

-- The ranks below the next one have their texts, and the others those of the men before.
abbrev pub invariant-loop-rank : goal.invariant-loop-rank
invariant-loop-rank l = record {
  below : AreTextsFrom 1 l.rank l.texts l.men;
  rest : AreTextsFrom l.rank 9 l.texts l.old;
  whole : length l.texts ≡ 8;
}
