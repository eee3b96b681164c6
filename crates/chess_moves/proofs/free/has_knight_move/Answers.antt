use Rattle.chess_bits.specs.declared.men.Kind.TheVariants.{Knight}
use Rattle.chess_bits.proofs.SetLemmas.{IsLeast-first}
use Rattle.chess_moves.proofs.Counted.{goes_legal}
use Rattle.chess_moves.proofs.FreeMen.{own_men}
use Rattle.chess_moves.proofs.free.has_knight_move.Goals as goal

pub free_of-requires-clause-whole : goal.free_of-requires-clause-whole
free_of-requires-clause-whole c = c.men_of-own.ensures.held.whole

pub free_of-requires-clause-own : goal.free_of-requires-clause-own
free_of-requires-clause-own c =
    own_men c.args.board.now c.side.result c.men_of-own.result c.side.ensures c.men_of-own.ensures.held

pub free_piece_goes-requires-clause-free : goal.free_piece_goes-requires-clause-free
free_piece_goes-requires-clause-free c =
    c.free_of.ensures.free c.in-Some.from
    (IsLeast-first c.free_of.result c.in-Some.from c.in-Some.ensures).member

pub returns-in-Some : goal.returns-in-Some
returns-in-Some c told =
    let free = c.free_of.ensures.free c.in-Some.from
    (IsLeast-first c.free_of.result c.in-Some.from c.in-Some.ensures).member in
    goes_legal c.args.board.now Knight c.in-Some.from c.free_piece_goes.result c.is_empty.result c.requires.valid.whole free.own
    c.free_piece_goes.ensures c.is_empty.ensures told
