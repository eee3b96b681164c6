-- It is heard at once, or it has a turn or none.
use Rattle.std.proofs.Common.{◌≡◌, ◌∙◌, ℕ, Bool, true, false, List, length, ap, sym, subst, inl, refl}
use Rattle.std.specs.Prelude.{◌==◌, ◌||◌}
use Rattle.lobby_web.specs.Browsing.{unread}
use Rattle.lobby_talk.specs.Front.{has_act}
use Rattle.lobby_guests.specs.Guests.{is_at_once}
use Rattle.lobby_guests.specs.Rounds.{HasTurn}
use Rattle.lobby_guests.proofs.Pacing.{turned}
use Rattle.lobby_guests.proofs.guests.has_turn.Goals as goal

-- by what is in front, where nothing is or something
by_front : (bytes : List ℕ) (is_none is_act : Bool) → (length bytes == 0) ≡ is_none → has_act bytes ≡ is_act
    → is_at_once bytes ≡ (is_none || is_act)
by_front bytes is_none is_act none act = ap (λ (b : Bool). b || has_act bytes) none ∙ ap (λ (b : Bool). is_none || b) act

none_in_front : (bytes : List ℕ) → (length bytes == 0) ≡ true → is_at_once bytes ≡ true
none_in_front bytes none = ap (λ (b : Bool). b || has_act bytes) none

pub returns-then-is_empty : goal.returns-then-is_empty
returns-then-is_empty g c =
    inl (
      none_in_front (unread c.args.guest.now.browser.stage)
          (sym (ap (λ (bytes : List ℕ). length bytes == 0) c.unread-unread.ensures) ∙ sym c.is_empty.ensures ∙ c.if-is_empty.true),
      refl,
    )

pub returns-then-has_act : goal.returns-then-has_act
returns-then-has_act g c =
    subst (λ (b : Bool). HasTurn b c.args.talk.now.desk c.args.guest.now c.args.asks.now c.args.asks.now) (sym c.if-has_act.true)
    (inl (
      by_front (unread c.args.guest.now.browser.stage) false true
          (sym (ap (λ (bytes : List ℕ). length bytes == 0) c.unread-unread.ensures) ∙ sym c.is_empty.ensures ∙ c.if-is_empty.false)
          (ap (λ (bytes : List ℕ). has_act bytes) (sym c.unread-unread.ensures) ∙ sym c.has_act.ensures ∙ c.if-has_act.true),
      refl,
    ))

pub returns-else-has_act : goal.returns-else-has_act
returns-else-has_act g c =
    turned c.args.talk.now c.args.guest.now c.args.asks.now c.takes_turn.new.asks c.takes_turn.result
    (by_front (unread c.args.guest.now.browser.stage) false false
    (sym (ap (λ (bytes : List ℕ). length bytes == 0) c.unread-unread.ensures) ∙ sym c.is_empty.ensures ∙ c.if-is_empty.false)
    (ap (λ (bytes : List ℕ). has_act bytes) (sym c.unread-unread.ensures) ∙ sym c.has_act.ensures ∙ c.if-has_act.false))
    c.takes_turn.ensures
