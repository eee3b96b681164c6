-- One browser more.
use Rattle.std.proofs.Common.{arith}
use Rattle.lobby_talk.proofs.Each.{zipped_further, zipped_vec}
use Rattle.lobby_guests.proofs.Writing.{IsWrittenFirst, all_written, all_strangers}
use Rattle.lobby_guests.proofs.guests.write_players.Goals as goal

pub loop-guest-preserved : goal.loop-guest-preserved
loop-guest-preserved g c =
    zipped_further (IsWrittenFirst g.S.Write.contents c.args.site.now c.args.talk.now.desk) c.args.guests.now.items c.loop-guest.guest-items
    c.loop-guest.guest-index c.guest-item.result
    c.write_out-any.new.self (omega (arith, c.loop-guest-test.true, c.loop-guest.auto.guest-items)) c.loop-guest.invariant
    (record { written = c.write_out-any.ensures.written; stranger = λ none. c.write_out-any.ensures.waits (c.has_players_turn-is_turn.ensures none) })

pub returns-clause-written : goal.returns-clause-written
returns-clause-written g c =
    all_written g.S.Write.contents c.args.site.now c.args.talk.now.desk c.args.guests.now.items _
    (zipped_vec (IsWrittenFirst g.S.Write.contents c.args.site.now c.args.talk.now.desk) c.args.guests.now c.loop-guest.guest-items
    c.loop-guest.guest-index (omega (arith, c.loop-guest-test.false, c.loop-guest.auto.guest-items)) c.loop-guest.invariant)

pub returns-clause-strangers : goal.returns-clause-strangers
returns-clause-strangers g c =
    all_strangers g.S.Write.contents c.args.site.now c.args.talk.now.desk c.args.guests.now.items _
    (zipped_vec (IsWrittenFirst g.S.Write.contents c.args.site.now c.args.talk.now.desk) c.args.guests.now c.loop-guest.guest-items
    c.loop-guest.guest-index (omega (arith, c.loop-guest-test.false, c.loop-guest.auto.guest-items)) c.loop-guest.invariant)
