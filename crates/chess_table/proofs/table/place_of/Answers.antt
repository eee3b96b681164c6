use Rattle.chess_table.proofs.Numbered.{get-find, place_read}
use Rattle.chess_table.proofs.table.place_of.Goals as goal

pub returns : goal.returns
returns c =
    let told = c.get_index_of.ensures in
    let number = c.args.number in
    let entries = c.args.games.now.entries in
    let read = place_read number entries c.get_index_of.result (get-find number entries c.requires) told.within told.value
    told.found in
    record { some = read.some; none = read.none }
