use Rattle.std.proofs.Common.{◌∙◌, None, sym, arith}
use Rattle.std.proofs.lemmas.List.{same_lists, get_or_default, length-set}
use Rattle.rec_codec.proofs.PositionLemmas.{next_pair, low_man, high_man}
use Rattle.rec_codec.proofs.position.men_of.Goals as goal

pub loop-k-preserved : goal.loop-k-preserved
loop-k-preserved c =
    let low = c.loop-k-test.true in
    record {
      whole = simp length-set c.loop-k.invariant.whole;
      done = λ p whole e.
          next_pair p c.loop-k.men c.loop-k.k c.man_numbered.result c.man_numbered-in-loop-k.result low
          c.loop-k.invariant.whole (c.loop-k.invariant.done p whole e)
          (c.man_numbered.ensures ∙ low_man p c.args.bytes.now c.loop-k.k low e)
          (c.man_numbered-in-loop-k.ensures ∙ high_man p c.args.bytes.now c.loop-k.k low e);
    }

pub returns : goal.returns
returns c = λ p whole e.
    same_lists c.loop-k.men p (c.loop-k.invariant.whole ∙ sym whole) (λ j d l.
    get_or_default c.loop-k.men j d None l
    ∙ (c.loop-k.invariant.done p whole e j (omega (arith, c.loop-k.invariant.whole))
    ∙ get_or_default p j None d (omega (arith, c.loop-k.invariant.whole))))
