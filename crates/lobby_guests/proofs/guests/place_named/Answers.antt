-- Nobody has the name where who is at the place up to which all names are smaller has not.
use Rattle.std.proofs.Common.{ltb, rules, arith}
use Rattle.std.specs.List.Sorted.{IsPartitionPoint}
use Rattle.std.proofs.lemmas.List.Sorted.{IsPartitionPoint-from_clause, IsPartitionedBy-ltb}
use Rattle.lobby_guests.specs.declared.guest.Guest.{Guest}
use Rattle.lobby_guests.proofs.Waking.{names_not_fall, none_there}
use Rattle.lobby_guests.proofs.guests.place_named.Goals as goal

pub returns-then-place-connections : goal.returns-then-place-connections
returns-then-place-connections g c = λ grow.
    let parted = IsPartitionedBy-ltb (λ (one : Guest g.row.S.Denot). one.key) c.args.connections.now c.args.key
    (names_not_fall c.args.key c.args.connections.now grow) in
    let point = IsPartitionPoint-from_clause (λ (one : Guest g.row.S.Denot). ltb one.key c.args.key) _ _ c.partition_point-place.ensures.partitioned parted
    (λ a r q k. search rules) in
    none_there c.args.key c.args.connections.now c.partition_point-place.result grow point
    (λ d lt. absurd (omega (arith, lt, c.if-place-connections.true)))

pub returns-else-is_named_at : goal.returns-else-is_named_at
returns-else-is_named_at g c = λ grow.
    let parted = IsPartitionedBy-ltb (λ (one : Guest g.row.S.Denot). one.key) c.args.connections.now c.args.key
    (names_not_fall c.args.key c.args.connections.now grow) in
    let point = IsPartitionPoint-from_clause (λ (one : Guest g.row.S.Denot). ltb one.key c.args.key) _ _ c.partition_point-place.ensures.partitioned parted
    (λ a r q k. search rules) in
    none_there c.args.key c.args.connections.now c.partition_point-place.result grow point
    (λ d lt. c.is_named_at.ensures.no c.if-is_named_at.false d)
