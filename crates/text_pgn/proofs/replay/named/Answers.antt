use Rattle.text_pgn.proofs.Played.{one_named, none_named}
use Rattle.text_pgn.proofs.replay.named.Goals as goal

pub returns-then-fullmove-lt65535-clause-one : goal.returns-then-fullmove-lt65535-clause-one
returns-then-fullmove-lt65535-clause-one c = one_named c.read.result c.args.board.now c.args.word.now c.read.ensures.one

pub returns-then-fullmove-lt65535-clause-none : goal.returns-then-fullmove-lt65535-clause-none
returns-then-fullmove-lt65535-clause-none c =
    none_named c.read.result c.args.board.now c.args.word.now c.read.ensures.none
