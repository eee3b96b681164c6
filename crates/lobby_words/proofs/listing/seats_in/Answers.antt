use Rattle.std.proofs.Common.{ℕ, ◌<◌, ◌++◌, List, [], length, get_or, sym, ap, ◌∙◌, arith}
use Rattle.std.specs.Borrow.{Bor}
use Rattle.lobby_words.specs.declared.listing.Seat.{Seat}
use Rattle.lobby_words.specs.Waiting.{seats_row}
use Rattle.lobby_words.proofs.SeatRows.{rows_more}
use Rattle.lobby_words.proofs.listing.seats_in.Goals as goal

pub loop-row-preserved : goal.loop-row-preserved
loop-row-preserved c =
    let items = c.as_slice-row-items.result.now in
    let i = c.loop-row.row-index in
    let below : c.loop-row.row-index < length c.as_slice-row-items.result.now = omega (arith, c.loop-row-test.true) in
    let d : Bor (List ℕ) = record { ref_ptr = (0, 0); now = [] } in
    let row = (get_or items i d).now in
    c.in_ok-add_row.ensures
    ∙ (ap (λ (ws : List Seat). ws ++ seats_row row) c.loop-row.invariant ∙ sym (rows_more items i d below))
