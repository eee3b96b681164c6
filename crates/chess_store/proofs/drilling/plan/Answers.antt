use Rattle.std.proofs.Common.{ap, ◌∙◌}
use Rattle.chess_store.specs.DrillLife.{fates_of}
use Rattle.chess_store.proofs.DrillLemmas.{drill_batches}
use Rattle.chess_store.proofs.drilling.plan.Goals as goal

pub returns : goal.returns
returns c = record {
  life = _;
  alone = c.in_ok-lives.ensures.items;
  is_life = record {
    calls = c.stop-calls.ensures.calls;
    fates = c.in_ok-fates.ensures ∙ ap fates_of c.stop-calls.ensures.way;
    batches = drill_batches c.in_ok-from_array.field-0.items c.in_ok-opening.field-0 c.in_ok-moves.field-0
        c.in_ok-from_array.ensures.items c.in_ok-opening.ensures c.in_ok-moves.ensures;
  };
}
