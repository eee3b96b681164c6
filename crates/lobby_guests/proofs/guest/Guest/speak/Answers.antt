-- A text of a connection that has a number.
use Rattle.std.proofs.Common.{ℕ, List, refl, subst}
use Rattle.lobby_talk.specs.Talking.{IsTextSaid}
use Rattle.lobby_guests.proofs.guest.Guest.speak.Goals as goal

pub returns-in_ok-say_to_desk-in-Some-number-clause-told : goal.returns-in_ok-say_to_desk-in-Some-number-clause-told
returns-in_ok-say_to_desk-in-Some-number-clause-told g c =
    let number = c.in-Some-number.number in
    let after = c.say_to_desk.new.talk in
    let said : IsTextSaid c.in-Text.text.items number c.args.at c.args.talk.now after =
    subst (λ (l : List ℕ). IsTextSaid l number c.args.at c.args.talk.now after) c.as_slice.ensures.value
    c.in_ok-say_to_desk-in-Some-number.ensures.said in
    rw (c.in-Text.is, c.in-Some-number.is) (refl, said)
