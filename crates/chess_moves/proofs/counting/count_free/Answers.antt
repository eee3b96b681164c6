use Rattle.chess_moves.proofs.FreeMen.{some_piece}
use Rattle.chess_moves.proofs.counting.count_free.Goals as goal

pub count_piece-requires : goal.count_piece-requires
count_piece-requires c = record {
  masks = c.requires.masks;
  free = c.requires.free;
  piece = some_piece c.args.kind c.in-Knight.is;
}
