use Rattle.std.proofs.Common.{ℕ, ◌++◌, List, sym, ap, ◌∙◌, append-nil}
use Rattle.std.specs.List.{flat_map}
use Rattle.std.specs.String.{string_bytes}
use Rattle.std.proofs.lemmas.List.{take_all}
use Rattle.lobby_words.specs.declared.listing.Seat.{Seat}
use Rattle.lobby_table.specs.Rooms.{watching, room_head, seat_row}
use Rattle.lobby_table.specs.Visitors.{who_in}
use Rattle.lobby_table.proofs.Rows.{rows_more}
use Rattle.lobby_table.proofs.rooms.room_text.Goals as goal

pub loop-seat-init : goal.loop-seat-init
loop-seat-init c =
    c.in_ok-text.ensures
    ∙ (ap (room_head c.args.game) c.watching.ensures ∙ sym (append-nil (room_head c.args.game (watching c.args.game c.args.watches.now))))

pub loop-seat-preserved : goal.loop-seat-preserved
loop-seat-preserved c =
    let who = who_in c.args.visitors.now in
    let past = c.args.attendances.now in
    let row = seat_row who c.in_ok-all.all.items past c.args.game c.args.at in
    let head = room_head c.args.game (watching c.args.game c.args.watches.now) in
    let item = c.seat-item.result in
    c.in_ok-push_row.ensures
    ∙ (ap (λ (all : List ℕ). string_bytes c.loop-seat.text ++ seat_row who all past c.args.game c.args.at item) c.as_slice.ensures.value
    ∙ (ap (λ (t : List ℕ). t ++ row item) c.loop-seat.invariant
    ∙ rows_more row head c.args.seats.now c.loop-seat.seat-index item c.loop-seat-test.true c.seat-item.is))

pub returns : goal.returns
returns c =
    let row = seat_row (who_in c.args.visitors.now) c.in_ok-all.all.items c.args.attendances.now c.args.game c.args.at in
    let head = room_head c.args.game (watching c.args.game c.args.watches.now) in (
      c.in_ok-all.all.items,
      c.in_ok-all.ensures,
      c.loop-seat.invariant
          ∙ ap (λ (seats : List Seat). head ++ flat_map row seats) (take_all c.loop-seat.seat-index c.args.seats.now c.loop-seat-test.false),
    )
