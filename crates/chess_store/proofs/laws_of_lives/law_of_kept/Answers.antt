use Rattle.chess_store.proofs.KeptLemmas.{stop_begins, lives_begin}
use Rattle.chess_store.proofs.laws_of_lives.law_of_kept.Goals as goal

pub returns : goal.returns
returns c = record { stop = stop_begins; lives = lives_begin }
