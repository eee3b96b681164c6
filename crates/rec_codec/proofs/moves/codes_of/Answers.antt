use Rattle.std.proofs.Common.{◌∙◌, ap}
use Rattle.std.specs.Prelude.{slice_set}
use Rattle.rec_codec.proofs.MoveListLemmas.{more-codes, more-on_board}
use Rattle.rec_codec.proofs.moves.codes_of.Goals as goal

pub loop-i-preserved : goal.loop-i-preserved
loop-i-preserved c =
    let i = c.loop-i.i in
    let ms = c.args.moves.now in
    let m = c.index-moves-i.result in
    record {
      codes =
          ap (slice_set c.loop-i.codes i) c.move_code.ensures.code
          ∙ more-codes ms c.loop-i.codes i m c.loop-i-test.true c.requires.few c.index-moves-i.is c.loop-i.invariant.codes;
      on_board =
          more-on_board ms i m c.loop-i-test.true c.index-moves-i.is c.loop-i.invariant.on_board
          c.move_code.ensures.from c.move_code.ensures.to;
    }
