use Rattle.std.proofs.Common.{ℕ, suc, ◌≡◌, ◌<◌, ◌≤◌, ◌+◌, List, [], length, get_or, map, take, drop, sym, ap, ◌∙◌, subst, arith}
use Rattle.std.specs.Borrow.{Bor}
use Rattle.std.proofs.lemmas.List.{length-take-le, length-map}
use Rattle.lobby_players.specs.File.{AreLinesOf, entries_of}
use Rattle.text_parts.proofs.Items.{items_more, items_around}
use Rattle.lobby_players.proofs.EachLine.{line_more}
use Rattle.lobby_players.proofs.reading.read_text.Goals as goal

counted : (items : List (Bor (List ℕ))) (i : ℕ) → i < length items →
    i + 1 ≡ suc (length (take i (map (λ (line : Bor (List ℕ)). line.now) items)))
counted items i below =
    let now = λ (line : Bor (List ℕ)). line.now in
    let inside : i ≤ length (map (λ (line : Bor (List ℕ)). line.now) items) = rw (length-map items now) (omega arith) in
    let len = length-take-le i (map now items) inside in
    omega (arith, len)

pub loop-i-preserved : goal.loop-i-preserved
loop-i-preserved c =
    let now = λ (line : Bor (List ℕ)). line.now in
    let items = c.as_slice-line-items.result.now in
    let i = c.loop-i.i in
    let below : c.loop-i.i < length c.as_slice-line-items.result.now = omega (arith, c.loop-i-test.true) in
    let d : Bor (List ℕ) = record { ref_ptr = (0, 0); now = [] } in
    let after = entries_of c.take.new.players.items in (
      subst (λ (ls : List (List ℕ)). AreLinesOf ls after) (sym (items_more items i d below))
          (line_more (take i (map now items)) (get_or items i d).now (entries_of c.loop-i.players.items) after c.loop-i.invariant.0
          (rw c.in_default.is at c.in_ok-fault.ensures.taken)),
      rw c.in_default.is at c.in_ok-fault.ensures.seen,
    )

pub returns-in-Some-clause-fault : goal.returns-in-Some-clause-fault
returns-in-Some-clause-fault c =
    let now = λ (line : Bor (List ℕ)). line.now in
    let items = c.as_slice-line-items.result.now in
    let i = c.loop-i.i in
    let below : c.loop-i.i < length c.as_slice-line-items.result.now = omega (arith, c.loop-i-test.true) in
    let d : Bor (List ℕ) = record { ref_ptr = (0, 0); now = [] } in
    record {
      before = take i (map now items);
      line = (get_or items i d).now;
      after = drop (i + 1) (map now items);
      lines = sym c.in_ok-lines.ensures ∙ (ap (map now) (sym c.as_slice-line-items.ensures.value) ∙ items_around items i d below);
      number = counted items i below;
      entries = entries_of c.loop-i.players.items;
      told = c.loop-i.invariant.0;
      wrong = rw c.in-Some.is at c.in_ok-fault.ensures.taken;
    }
