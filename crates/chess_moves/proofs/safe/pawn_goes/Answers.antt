use Rattle.std.proofs.Common.{sym, not}
use Rattle.chess_moves.proofs.Safely.{not_told, pawn_set_none, pawn_set_away, pawn_set_target}
use Rattle.chess_moves.proofs.safe.pawn_goes.Goals as goal

pub returns-in-None : goal.returns-in-None
returns-in-None c =
    rw c.meet-safe.ensures
    (pawn_set_none c.args.board.now c.args.masks.now c.args.from c.targets-reached.result c.allowed.result
    c.requires.masks c.requires.own c.targets-reached.ensures c.allowed.ensures (sym c.in-None.ensures))

pub returns-else-contains : goal.returns-else-contains
returns-else-contains c =
    rw c.meet-safe.ensures
    (pawn_set_away c.args.board.now c.args.masks.now c.args.from c.in-Some.target c.targets-reached.result
    c.allowed.result c.requires.masks c.requires.own c.targets-reached.ensures c.allowed.ensures
    (sym c.in-Some.ensures) (sym c.if-contains.ensures.member))

pub returns-then-contains : goal.returns-then-contains
returns-then-contains c =
    let p = c.args.board.now in
    let target = c.in-Some.target in
    rw (c.with_target.ensures, c.meet-safe.ensures)
    (pawn_set_target p c.args.masks.now c.args.from target c.targets-reached.result c.allowed.result
    (not c.exposes.result) c.requires.masks c.requires.own c.targets-reached.ensures c.allowed.ensures
    (sym c.in-Some.ensures) c.if-contains.ensures.on_board (sym c.if-contains.ensures.member)
    (not_told c.exposes.result c.exposes.ensures (λ safe. safe, λ safe. safe)))
