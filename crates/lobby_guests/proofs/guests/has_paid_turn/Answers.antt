-- The player may act or not, it has its turn or not, and then he pays.
use Rattle.lobby_guests.proofs.Pacing.{ahead, put_off, paid}
use Rattle.lobby_guests.proofs.guests.has_paid_turn.Goals as goal

pub returns-then-not-may_act : goal.returns-then-not-may_act
returns-then-not-may_act g c =
    ahead c.args.talk.now c.args.at c.args.guest.now c.args.asks.now c.may_act.new.self c.payer-player.result
    c.payer-player.ensures c.requires c.if-not-may_act.ensures

pub returns-then-not-has_turn : goal.returns-then-not-has_turn
returns-then-not-has_turn g c =
    put_off c.args.talk.now c.args.at c.args.guest.now c.args.asks.now c.may_act.new.self c.has_turn.new.asks
    c.payer-player.result c.if-not-may_act.ensures c.if-not-has_turn.ensures

pub returns : goal.returns
returns g c =
    paid c.args.talk.now c.args.at c.args.guest.now c.args.asks.now c.may_act.new.self c.has_turn.new.asks
    c.pay_if.new.self c.payer-player.result c.may_be_asked.result c.payer-player.ensures c.requires
    c.if-not-may_act.ensures c.if-not-has_turn.ensures c.may_be_asked.ensures c.in_ok-pay_if.ensures
