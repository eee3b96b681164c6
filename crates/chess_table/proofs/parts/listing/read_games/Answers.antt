use Rattle.std.proofs.Common.{◌≡◌, ◌≤◌, ◌-◌, List, length, take, drop, arith, sym, subst, length-drop}
use Rattle.std.proofs.lemmas.List.{take_all}
use Rattle.rec_codec.specs.declared.record.Record.{Record}
use Rattle.chess_entry.specs.State.{GameState}
use Rattle.chess_table.proofs.ListLemmas.{HoldsSoFar, HoldsSoFar-none, HoldsSoFar-more, LeftToo, LeftToo-more, no_games}
use Rattle.chess_table.proofs.parts.listing.read_games.Goals as goal

pub loop-rest-init : goal.loop-rest-init
loop-rest-init c = record {
  so_far = subst (λ (gs : List GameState). HoldsSoFar c.args.records.now c.args.records.now gs)
      (sym c.new-games.ensures.items) (HoldsSoFar-none c.args.records.now);
  left = λ all holds. (all, holds);
}

pub returns-in_default-clause-none : goal.returns-in_default-clause-none
returns-in_default-clause-none c =
    let rest = c.loop-rest.rest.now in
    let some : 1 ≤ length rest = omega (arith, c.loop-rest-test.true) in
    no_games c.args.records.now rest some (rw c.in_default.is at c.in_ok-read.ensures.none) c.loop-rest.invariant.left

pub loop-rest-preserved : goal.loop-rest-preserved
loop-rest-preserved c =
    let records = c.args.records.now in
    let rest = c.loop-rest.rest.now in
    let many = c.in-Some.read.records in
    let game = c.in-Some.read.game in
    let some : 1 ≤ length rest = omega (arith, c.loop-rest-test.true) in
    let starts = rw c.in-Some.is at c.in_ok-read.ensures.some in
    let is_game = rw c.in-Some.is at c.in_ok-read.ensures.sound in
    let short : length (drop many rest) ≤ length rest - many = omega (arith, length-drop many rest) in
    let left : take (length rest - many) (drop many rest) ≡ drop many rest =
    take_all (length rest - many) (drop many rest) short in
    record {
      so_far = subst (λ (rs : List Record). HoldsSoFar records rs c.push.new.self.items) (sym left)
          (subst (λ (gs : List GameState). HoldsSoFar records (drop many rest) gs) (sym c.in_ok-push.ensures.items)
          (HoldsSoFar-more records rest c.loop-rest.games.items game many c.loop-rest.invariant.so_far is_game starts));
      left = subst (λ (rs : List Record). LeftToo records rs) (sym left)
          (LeftToo-more records rest game many some is_game starts c.loop-rest.invariant.left);
    }
