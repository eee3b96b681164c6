use Rattle.std.proofs.Common.{sym}
use Rattle.chess_bits.specs.Table.{empty}
use Rattle.chess_bits.specs.Attack.{adjoining, Reaches}
use Rattle.chess_moves.proofs.Exact.{king_exact}
use Rattle.chess_moves.proofs.Safely.{not_told}
use Rattle.chess_moves.proofs.safe.is_king_safe.Goals as goal

pub returns-then-contains : goal.returns-then-contains
returns-then-contains c =
    let p = c.args.board.now in
    let on = c.if-contains.ensures.on_board in
    let near : Reaches adjoining c.args.from c.args.to =
    ((c.king.ensures empty p.side).exact c.args.to on).0 (sym c.if-contains.ensures.member) in
    let exact = king_exact p c.args.from c.args.to c.requires.masks.valid c.requires.own on near in
    not_told c.is_attacked_without.result c.is_attacked_without.ensures exact

pub returns-else-contains : goal.returns-else-contains
returns-else-contains c = not_told c.exposes.result c.exposes.ensures (λ safe. safe, λ safe. safe)
