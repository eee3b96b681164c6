use Rattle.std.proofs.Common.{◌≡◌, ◌∙◌, arith, ap, sym, refl, subst, length, List, Bool}
use Rattle.chess_bits.specs.declared.men.Colour.{Colour}
use Rattle.chess_bits.specs.Table.{IsSetOf, meet, members}
use Rattle.chess_board.specs.Legal.{last_rank}
use Rattle.chess_moves.proofs.Counted.{members_most}
use Rattle.chess_moves.proofs.Tallied.{pawn_number}
use Rattle.chess_moves.proofs.counting.count_pawn.Goals as goal

pub returns-then-is_empty : goal.returns-then-is_empty
returns-then-is_empty c =
    let p = c.args.board.now in
    let Last' : Colour → Type 0 = λ side. IsSetOf c.last_squares.result (λ q. q.rank ≡ last_rank side) in
    let number = pawn_number p c.args.from c.args.safe c.last_squares.result c.requires.valid c.requires.own
    c.requires.safe (subst Last' c.side.ensures c.last_squares.ensures) in
    let none : length (members (meet c.args.safe c.last_squares.result)) ≡ 0 =
    ap (λ (set : List Bool). length (members set)) (sym c.meet-last.ensures)
    ∙ ap length (c.if-is_empty.ensures.0 refl) in
    omega (arith, number, none, c.count.ensures)

pub returns-else-is_empty : goal.returns-else-is_empty
returns-else-is_empty c =
    let p = c.args.board.now in
    let Last' : Colour → Type 0 = λ side. IsSetOf c.last_squares.result (λ q. q.rank ≡ last_rank side) in
    rw (c.count-else-is_empty.ensures, c.count-else-is_empty-2.ensures, c.meet-last.ensures)
    (sym (pawn_number p c.args.from c.args.safe c.last_squares.result c.requires.valid c.requires.own
    c.requires.safe (subst Last' c.side.ensures c.last_squares.ensures)))

-- a set of squares has at most 64
pub overflow_mul-result : goal.overflow_mul-result
overflow_mul-result c = omega (arith, members_most c.meet-last.result, c.count-else-is_empty-2.ensures)

pub overflow_add-result : goal.overflow_add-result
overflow_add-result c =
    omega (
      arith,
      members_most c.args.safe,
      members_most c.meet-last.result,
      c.count-else-is_empty.ensures,
      c.count-else-is_empty-2.ensures,
    )
