use Rattle.std.proofs.Common.{sym, subst, List, Bool}
use Rattle.chess_bits.specs.declared.men.Colour.{Colour}
use Rattle.chess_bits.specs.declared.men.Kind.TheVariants.{Pawn, Bishop, Rook, Queen}
use Rattle.chess_bits.specs.Man.{other}
use Rattle.chess_bits.specs.Table.{IsSetOf}
use Rattle.chess_bits.specs.Attack.{Attacks}
use Rattle.chess_attacks.proofs.Uniting.{both_ways}
use Rattle.chess_board.specs.Position.{occupied_of}
use Rattle.chess_board.proofs.Outward.{tests_decide}
use Rattle.chess_board.proofs.attack.is_attacked.Goals as goal
use Rattle.chess_board.proofs.attack.is_attacked.Goals.{After-stands_among-6}

-- what a rook and a bishop there would attack, by the men of the board
straight : (c : After-stands_among-6) →
    IsSetOf c.rook-straight.result (Attacks (occupied_of c.args.men.now) c.args.side Rook c.args.square)
straight c =
    let Set' : List Bool → Type 0 = λ occupied. IsSetOf c.rook-straight.result
    (Attacks occupied c.args.side Rook c.args.square) in
    subst Set' c.occupied-occupied.ensures (c.rook-straight.ensures c.args.side)

diagonal : (c : After-stands_among-6) →
    IsSetOf c.bishop-diagonal.result (Attacks (occupied_of c.args.men.now) c.args.side Bishop c.args.square)
diagonal c =
    let Set' : List Bool → Type 0 = λ occupied. IsSetOf c.bishop-diagonal.result
    (Attacks occupied c.args.side Bishop c.args.square) in
    subst Set' c.occupied-occupied.ensures (c.bishop-diagonal.ensures c.args.side)

queen : (c : After-stands_among-6) →
    IsSetOf c.union.result (Attacks (occupied_of c.args.men.now) c.args.side Queen c.args.square)
queen c =
    let Set' : List Bool → Type 0 = λ set. IsSetOf set
    (Attacks (occupied_of c.args.men.now) c.args.side Queen c.args.square) in
    subst Set' (sym c.union.ensures)
    (both_ways (occupied_of c.args.men.now) c.rook-straight.result c.bishop-diagonal.result c.args.square (straight c)
    (diagonal c))

pawn : (c : After-stands_among-6) →
    IsSetOf c.pawn.result (Attacks (occupied_of c.args.men.now) (other c.args.side) Pawn c.args.square)
pawn c =
    let Set' : Colour → Type 0 = λ side. IsSetOf c.pawn.result
    (Attacks (occupied_of c.args.men.now) side Pawn c.args.square) in
    subst Set' c.other.ensures (c.pawn.ensures (occupied_of c.args.men.now))

pub returns : goal.returns
returns c =
    let occupied : List Bool = occupied_of c.args.men.now in
    tests_decide c.args.men.now c.args.side c.args.square c.stands_among.result c.stands_among-2.result
    c.stands_among-3.result c.stands_among-4.result c.stands_among-5.result c.stands_among-6.result
    c.number-on_board.ensures.on_board (record {
      pawn = (c.pawn.result, pawn c, c.stands_among.ensures);
      knight = (c.knight.result, c.knight.ensures occupied c.args.side, c.stands_among-2.ensures);
      king = (c.king.result, c.king.ensures occupied c.args.side, c.stands_among-3.ensures);
      rook = (c.rook-straight.result, straight c, c.stands_among-4.ensures);
      bishop = (c.bishop-diagonal.result, diagonal c, c.stands_among-5.ensures);
      queen = (c.union.result, queen c, c.stands_among-6.ensures);
    })
