use Rattle.std.proofs.Common.{◌≡◌, subst, refl, List, Bool, true, false}
use Rattle.chess_bits.specs.Table.{has, put, IsSetOf}
use Rattle.chess_bits.specs.Attack.{Slides, straight, diagonal}
use Rattle.chess_board.specs.Position.{occupied_of}
use Rattle.chess_moves.proofs.Safely.{seen_set, attacked_told}
use Rattle.chess_moves.proofs.safe.is_attacked_without.Goals as goal

pub rook_meets-straight-requires : goal.rook_meets-straight-requires
rook_meets-straight-requires c = (c.requires.straight 0 refl).whole

pub bishop_meets-diagonal-requires : goal.bishop_meets-diagonal-requires
bishop_meets-diagonal-requires c = (c.requires.diagonal 1 refl).whole

pub returns : goal.returns
returns c =
    let p = c.args.board.now in
    let masks = c.args.masks.now in
    let squares : List Bool = put (occupied_of p.placement) c.args.from false in
    let is : c.occupied_without-occupied.result ≡ squares = c.occupied_without-occupied.ensures in
    let Rooks' : List Bool → Type 0 = λ set. IsSetOf c.rook_meets-straight.result
    (λ s. Slides set straight c.args.to s × (has masks.straight s ≡ true)) in
    let Bishops' : List Bool → Type 0 = λ set. IsSetOf c.bishop_meets-diagonal.result
    (λ s. Slides set diagonal c.args.to s × (has masks.diagonal s ≡ true)) in
    attacked_told p c.args.from c.args.to c.union-2.result c.is_empty.result c.number-on_board.ensures.on_board
    (rw (c.union-2.ensures, c.union.ensures)
    (seen_set p c.args.to squares c.leapers.result c.rook_meets-straight.result c.bishop_meets-diagonal.result
    masks.straight masks.diagonal c.leapers.ensures (subst Rooks' is c.rook_meets-straight.ensures)
    (subst Bishops' is c.bishop_meets-diagonal.ensures) (c.requires.straight 0 refl) (c.requires.diagonal 1 refl)))
    c.is_empty.ensures
