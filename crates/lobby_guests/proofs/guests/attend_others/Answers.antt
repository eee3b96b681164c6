-- One browser more; and where they wait nobody is called.
use Rattle.std.proofs.Common.{ℕ, ◌<◌, ◌+◌, ◌∙◌, List, length, subst, sym, refl, arith}
use Rattle.std.proofs.lemmas.List.{with_items_is}
use Rattle.lobby_guests.specs.declared.guest.Guest.{Guest}
use Rattle.lobby_guests.specs.Guests.{InTurn, IsOthersTurn, Room, full_room}
use Rattle.lobby_guests.proofs.Attending.{nobody_called}
use Rattle.lobby_guests.proofs.EachGuest.{IsTurnedTo, turned_none, turned_further, turned_all}
use Rattle.lobby_guests.proofs.guests.attend_others.Goals as goal

pub loop-guest-init : goal.loop-guest-init
loop-guest-init g c =
    let does = IsOthersTurn g.S.Read.remaining c.args.site.now c.args.at in
    subst (λ (n : ℕ). IsTurnedTo does 0 c.args.guests.now.items c.deref_mut-guest-items.result.now (full_room c.args.talk.now)
    (record { talk = c.args.talk.now; left = n })) (sym c.begin.ensures)
    (turned_none does c.args.guests.now.items c.deref_mut-guest-items.result.now (full_room c.args.talk.now)
    c.deref_mut-guest-items.ensures.value)

pub loop-guest-preserved : goal.loop-guest-preserved
loop-guest-preserved g c =
    let items = c.loop-guest.guest-items in
    let lt : c.loop-guest.guest-index < length items =
    omega (arith, c.loop-guest-test.true, c.loop-guest.auto.guest-items) in
    let so_far : Room = record { talk = c.loop-guest.talk; left = c.loop-guest.strangers.round.left + c.loop-guest.strangers.fresh } in
    let after : Room = record { talk = c.attend_other.new.talk; left = c.attend_other.new.strangers.round.left + c.attend_other.new.strangers.fresh } in
    turned_further (IsOthersTurn g.S.Read.remaining c.args.site.now c.args.at) c.args.guests.now.items items
    c.loop-guest.guest-index c.guest-item.result c.attend_other.new.guest (full_room c.args.talk.now) so_far after lt
    c.loop-guest.invariant c.in_ok-any.ensures

pub returns-then-waits-clause-turned : goal.returns-then-waits-clause-turned
returns-then-waits-clause-turned g c = (
  full_room c.args.talk.now,
  refl,
  nobody_called g.S.Read.remaining c.args.site.now c.args.at c.args.guests.now.items (full_room c.args.talk.now),
)

pub returns-clause-turned : goal.returns-clause-turned
returns-clause-turned g c =
    let guests = c.args.guests.now in
    let items = c.loop-guest.guest-items in
    let so_far = c.loop-guest.invariant in
    let same = with_items_is guests items (so_far.whole ∙ sym guests.ok.0) in
    let does = IsOthersTurn g.S.Read.remaining c.args.site.now c.args.at in
    let last : Room = record { talk = c.loop-guest.talk; left = c.loop-guest.strangers.round.left + c.loop-guest.strangers.fresh } in (
      last,
      refl,
      subst (λ (l : List (Guest g.row.S.Denot)). InTurn does guests.items l (full_room c.args.talk.now) last) (sym same)
          (turned_all does c.loop-guest.guest-index guests.items items (full_room c.args.talk.now) last
          (omega (arith, c.loop-guest-test.false, c.loop-guest.auto.guest-items)) so_far),
    )
