-- For what is no act nobody pays.
use Rattle.std.proofs.Common.{◌≡◌, ◌∙◌, Bool, false, ap, sym}
use Rattle.lobby_web.specs.Browsing.{unread}
use Rattle.lobby_talk.specs.Front.{may_be_act}
use Rattle.lobby_guests.proofs.Pacing.{unpaid}
use Rattle.lobby_guests.proofs.guests.is_to_ask.Goals as goal

pub returns : goal.returns
returns g c =
    let other : may_be_act (unread c.args.guest.now.browser.stage) ≡ false =
    sym (c.may_be_act.ensures ∙ ap may_be_act c.unread.ensures) ∙ c.if-may_be_act.false in
    unpaid c.args.talk.now c.args.at c.args.guest.now c.has_turn.result c.args.asks.now c.has_turn.new.asks other
    c.has_turn.ensures
