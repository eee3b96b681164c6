-- An input calls for one text.
use Rattle.server_words.proofs.BoardRunLemmas.{one_text}
use Rattle.server_words.proofs.board_loop.board.Goals as goal

pub returns-clause-one : goal.returns-clause-one
returns-clause-one g c = one_text
