use Rattle.std.proofs.Common.{arith}
use Rattle.std.proofs.lemmas.List.FromFn.{fill_by_all}
use Rattle.rec_codec.specs.Position.{pair_byte}
use Rattle.rec_codec.proofs.position.men_bytes.Goals as goal

pub returns : goal.returns
returns c =
    fill_by_all (pair_byte c.args.board.now.placement) c.loop-k.bytes 32 0 c.loop-k.invariant.whole
    (λ k h. c.loop-k.invariant.done k (omega arith))
