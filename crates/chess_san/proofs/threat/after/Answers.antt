use Rattle.std.proofs.Common.{◌∙◌, ap, sym, subst}
use Rattle.chess_board.specs.Position.{Position}
use Rattle.chess_board.specs.Next.{next}
use Rattle.chess_board.specs.Legal.{IsLegal}
use Rattle.chess_san.specs.Boards.{DiffersInCounters}
use Rattle.chess_san.proofs.Counters.{IsLegal-recounted, next-recounted}
use Rattle.chess_san.proofs.threat.after.Goals as goal

pub apply-requires-else-halfmove-lt65535-clause-legal : goal.apply-requires-else-halfmove-lt65535-clause-legal
apply-requires-else-halfmove-lt65535-clause-legal c =
    let Legal' : Position → Type 0 = λ p. IsLegal p c.args.mv in
    subst Legal' (sym c.rewound.ensures) (IsLegal-recounted c.args.board.now c.args.mv 0 1 c.requires)

pub returns-else-halfmove-lt65535 : goal.returns-else-halfmove-lt65535
returns-else-halfmove-lt65535 c =
    let Like' : Position → Type 0 = DiffersInCounters (next c.args.board.now c.args.mv) in
    subst Like' (sym (c.apply-else-halfmove-lt65535.ensures.next
    ∙ ap (λ (p : Position). next p c.args.mv) c.rewound.ensures)) (next-recounted c.args.board.now c.args.mv 0 1)
