use Rattle.std.proofs.Common.{◌≡◌, refl, sym, subst}
use Rattle.std.proofs.lemmas.Bool.{false≢true}
use Rattle.chess_bits.specs.declared.men.Kind.{Kind}
use Rattle.chess_bits.specs.declared.men.Kind.TheVariants.{Pawn}
use Rattle.chess_bits.specs.Table.{meet, without}
use Rattle.chess_board.specs.Occupancy.{squares_with, is_a}
use Rattle.chess_moves.specs.Counting.{AreFree}
use Rattle.chess_moves.proofs.FreeMen.{free_others, free_pawns}
use Rattle.chess_moves.proofs.free.free_of.Goals as goal

pub returns-then-is_pawn : goal.returns-then-is_pawn
returns-then-is_pawn c =
    let p = c.args.board.now in
    let masks = c.args.masks.now in
    let pawn : c.args.kind ≡ Pawn = c.if-is_pawn.ensures.0 refl in
    let Free' : Kind → Type 0 = λ k. AreFree p masks.pinned k c.args.left
    (without (without (meet c.args.left (squares_with (is_a k) p.placement)) masks.pinned) c.passing.result) in
    rw (c.without.ensures, c.without-unpinned.ensures, c.meet.ensures, c.of_kind.ensures, c.men.ensures)
    (subst Free' (sym pawn)
    (free_pawns p masks.pinned c.args.left c.passing.result c.requires.masks.valid c.requires.whole
    c.requires.masks.pinned.whole c.requires.own c.passing.ensures.whole c.passing.ensures.passing))

pub returns-else-is_pawn : goal.returns-else-is_pawn
returns-else-is_pawn c =
    let masks = c.args.masks.now in
    rw (c.without-unpinned.ensures, c.meet.ensures, c.of_kind.ensures, c.men.ensures)
    (free_others c.args.board.now masks.pinned c.args.left c.args.kind c.requires.masks.valid c.requires.whole
    c.requires.masks.pinned.whole c.requires.own (λ pawn. false≢true (c.if-is_pawn.ensures.1 pawn)))
