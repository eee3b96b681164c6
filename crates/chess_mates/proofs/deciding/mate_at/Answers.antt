use Rattle.chess_board.specs.Position.{Position}
use Rattle.chess_san.specs.Boards.{rewound}
use Rattle.chess_mates.proofs.Like.{mating_like, from_rewound}
use Rattle.chess_mates.proofs.deciding.mate_at.Goals as goal

pub returns-then-is_mating_line : goal.returns-then-is_mating_line
returns-then-is_mating_line c =
    let p : Position = c.args.board.now in
    let found = c.is_mating_line.ensures c.if-is_mating_line.true in
    mating_like c.args.side (rewound p) p _ (from_rewound p)
    (rw (c.rewound.ensures, c.as_slice.ensures.value) at found)
