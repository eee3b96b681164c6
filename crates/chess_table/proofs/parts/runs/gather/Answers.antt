use Rattle.std.proofs.Common.{ℕ, ◌≡◌, ◌-◌, length, min, arith, ap, sym, ◌∙◌, vec_len}
use Rattle.chess_table.proofs.RunLemmas.{no_moves, forth_more, back_more, left_more, all_moves}
use Rattle.chess_table.proofs.parts.runs.gather.Goals as goal

pub returns-in_default-clause-none : goal.returns-in_default-clause-none
returns-in_default-clause-none c =
    let many = c.args.many in
    λ _. no_moves c.args.number many (many - vec_len c.loop-record.moves) c.args.records.now c.loop-record.record-index
    c.record-item.result c.loop-record-test.true c.record-item.is
    (λ run is most. c.in_default.ensures.none run is (most ∙ ap (λ (n : ℕ). min 60 (many - n)) (sym c.len.ensures)))
    c.loop-record.invariant.back

pub loop-record-preserved : goal.loop-record-preserved
loop-record-preserved c =
    let many = c.args.many in
    let i = c.loop-record.record-index in
    let records = c.args.records.now in
    let done = vec_len c.loop-record.moves in
    let done' = vec_len c.append.new.moves in
    let first = c.record-item.result in
    let run = c.in-Some.run'.now in
    let gathered = c.loop-record.moves.items in
    let most : length run ≡ min 60 (many - done) =
    c.in-Some.ensures.whole ∙ ap (λ (n : ℕ). min 60 (many - n)) c.len.ensures in
    let both = left_more many done done' i (length records) run c.loop-record.invariant.left c.loop-record-test.true most
    c.append.ensures.len in
    record {
      forth = forth_more c.args.number many done done' records i first run gathered c.append.new.moves.items
          c.loop-record-test.true c.record-item.is c.in-Some.ensures.run most (omega arith) c.append.ensures.len
          c.append.ensures.moves c.loop-record.invariant.forth;
      back = back_more c.args.number many done done' records i first run c.loop-record-test.true c.record-item.is
          c.in-Some.ensures.run c.append.ensures.len c.loop-record.invariant.back;
      few = both.0;
      left = both.1;
      room = omega arith;
    }

pub returns-clause-whole : goal.returns-clause-whole
returns-clause-whole c =
    λ _. all_moves c.args.number c.args.many (vec_len c.loop-record.moves) c.args.records.now c.loop-record.record-index
    c.loop-record.moves.items (omega arith) c.loop-record.invariant.left c.loop-record.invariant.forth
