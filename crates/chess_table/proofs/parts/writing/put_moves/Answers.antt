use Rattle.std.proofs.Common.{◌≡◌, ◌∷◌, ◌++◌, [], List, ap, sym, subst, ◌∙◌}
use Rattle.std.proofs.lemmas.List.{append-nil}
use Rattle.std.specs.Slice.Iter.{chunks_rest, chunks_size}
use Rattle.chess_board.specs.declared.moves.Move.{Move}
use Rattle.chess_entry.specs.Snapshot.{AreRuns}
use Rattle.chess_table.proofs.Promotions.{AllBecome, AllBecome-first, AllBecome-rest}
use Rattle.chess_table.proofs.PartLemmas.{IsNextRun, written_more, next_size, goes_more, all_written}
use Rattle.chess_table.proofs.parts.writing.put_moves.Goals as goal

pub loop-run-init : goal.loop-run-init
loop-run-init c =
    let start : chunks_rest c.into_iter-run-iterator.result ≡ c.args.moves.now =
    ap chunks_rest c.into_iter-run-iterator.ensures.into_iter_gives ∙ c.chunks-run-items.ensures.rest in
    record {
      done = [];
      written = sym (append-nil c.args.records.now.items);
      goes_on = λ runs are. subst (λ (ms : List Move). AreRuns ms runs) start are;
      size = ap chunks_size c.into_iter-run-iterator.ensures.into_iter_gives ∙ c.chunks-run-items.ensures.size;
      promotions = subst (λ (ms : List Move). AllBecome ms) (sym start) c.requires;
    }

pub loop-run-preserved : goal.loop-run-preserved
loop-run-preserved c =
    let steps = c.in-Some.ensures.steps in
    let run = c.in-Some.run'.now in
    let rest = chunks_rest c.loop-run.run-iterator in
    let rest' = chunks_rest c.next.new.self in
    let next : IsNextRun (chunks_size c.loop-run.run-iterator) rest run rest' =
    record { whole = c.loop-run.invariant.size; cut = steps.1.0; most = steps.1.1; some = steps.1.2 } in
    record {
      done = c.loop-run.invariant.done ++ run ∷ [];
      written = written_more c.args.number c.args.records.now.items c.loop-run.records.items
          c.put_run.new.records.items c.loop-run.invariant.done run c.loop-run.invariant.written
          c.in_ok-put_run.ensures.ok;
      goes_on = goes_more c.args.moves.now rest run rest' c.loop-run.invariant.done
          (chunks_size c.loop-run.run-iterator) next c.loop-run.invariant.goes_on;
      size = steps.0 ∙ c.loop-run.invariant.size;
      promotions = AllBecome-rest run rest'
          (subst (λ (ms : List Move). AllBecome ms) steps.1.0 c.loop-run.invariant.promotions);
    }

pub put_run-requires : goal.put_run-requires
put_run-requires c =
    let steps = c.in-Some.ensures.steps in
    let run = c.in-Some.run'.now in
    let rest = chunks_rest c.loop-run.run-iterator in
    let rest' = chunks_rest c.next.new.self in
    let next : IsNextRun (chunks_size c.loop-run.run-iterator) rest run rest' =
    record { whole = c.loop-run.invariant.size; cut = steps.1.0; most = steps.1.1; some = steps.1.2 } in
    let size = next_size (chunks_size c.loop-run.run-iterator) rest run rest' next in
    record {
      some = size.0;
      few = size.1;
      promotions = AllBecome-first run rest'
          (subst (λ (ms : List Move). AllBecome ms) steps.1.0 c.loop-run.invariant.promotions);
    }

pub returns-clause-ok : goal.returns-clause-ok
returns-clause-ok c =
    all_written c.args.number c.args.records.now.items c.loop-run.records.items c.args.moves.now
    (chunks_rest c.loop-run.run-iterator) c.loop-run.invariant.done c.in-None.ensures.steps.1.0
    c.loop-run.invariant.written c.loop-run.invariant.goes_on
