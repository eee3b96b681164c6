-- Two texts as they are given elsewhere: the initial position's, and that after 1. e4.
use Rattle.std.specs.Prelude.{◌≡◌, codes, refl, None}
use Rattle.std.specs.Fmt.{digits}
use Rattle.chess_bits.specs.Table.{at, put}
use Rattle.chess_board.specs.declared.moves.Move.{Move}
use Rattle.chess_board.specs.Initial.{initial}
use Rattle.chess_board.specs.Next.{next, placement_after, rights_after, target_after, halfmove_after}
use Rattle.chess_notation.specs.Fen.{fen_of, placement_text, rank_of, ranks_of}

initial_text : fen_of initial ≡ codes "rnbqkbnr/pppppppp/8/8/8/8/PPPPPPPP/RNBQKBNR w KQkq - 0 1"
unfolding fen_of digits placement_text ranks_of rank_of at
initial_text = refl

abbrev advance : Move
advance = record { from = record { file = 5; rank = 2 }; to = record { file = 5; rank = 4 }; promotion = None }

advanced_text : fen_of (next initial advance) ≡ codes "rnbqkbnr/pppppppp/8/8/4P3/8/PPPP1PPP/RNBQKBNR b KQkq e3 0 1"
unfolding fen_of digits placement_text ranks_of rank_of at put placement_after rights_after target_after halfmove_after
advanced_text = refl
