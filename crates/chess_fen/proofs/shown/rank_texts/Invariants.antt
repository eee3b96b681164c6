use Rattle.std.specs.Prelude.{◌≡◌, length}
use Rattle.chess_fen.proofs.ShownLemmas.{AreTextsFrom}
use Rattle.chess_fen.proofs.shown.rank_texts.Given as goal

-- The ranks below the next one have their texts.
abbrev pub invariant-loop-rank : goal.invariant-loop-rank
invariant-loop-rank l = record {
  below : AreTextsFrom 1 l.rank l.texts l.men;
  whole : length l.texts ≡ 8;
}
