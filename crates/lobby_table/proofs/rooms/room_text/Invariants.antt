use Rattle.std.proofs.Common.{◌≡◌, ◌++◌, take}
use Rattle.std.specs.List.{flat_map}
use Rattle.std.specs.String.{string_bytes}
use Rattle.lobby_table.specs.Rooms.{watching, room_head, seat_row}
use Rattle.lobby_table.specs.Visitors.{who_in}
use Rattle.lobby_table.proofs.rooms.room_text.Given as goal

abbrev pub invariant-loop-seat : goal.invariant-loop-seat
invariant-loop-seat l =
    string_bytes l.text
    ≡ room_head l.game (watching l.game l.watches)
    ++ flat_map (seat_row (who_in l.visitors) l.all.items l.attendances l.game l.at) (take l.seat-index l.seats)
