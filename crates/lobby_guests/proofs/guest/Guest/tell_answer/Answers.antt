-- The first that waits is told by the answer.
use Rattle.std.proofs.Common.{◌≡◌, ◌∷◌, ◌∙◌, refl, ap, sym}
use Rattle.lobby_guests.proofs.Catching.{first_there, answer_there, told_answer, said_from}
use Rattle.lobby_guests.proofs.guest.Guest.tell_answer.Goals as goal

pub returns-clause-told : goal.returns-clause-told
returns-clause-told g c =
    let waits = c.args.self.now.waits.items in
    let one = c.remove.result in
    let first : waits ≡ one ∷ c.remove.new.self.items = first_there waits one (answer_there c.args.answer.now waits c.requires) c.remove.ensures.value
    ∙ ap (λ l. one ∷ l) (sym c.remove.ensures.items) in (
      one,
      record {
        first = first ∙ ap (λ v. one ∷ v.items) (sym c.tell.ensures.waits);
        text = c.answer.result.now;
        told = told_answer waits one c.remove.new.self.items c.answer.result.now c.args.answer.now first c.requires c.answer.ensures;
        said = said_from c.answer.result.now c.args.self.now _ c.tell.new.self refl refl refl
            (record { key = refl; origin = refl; since = refl; heard = refl }) refl refl refl c.tell.ensures.said;
        paid = c.tell.ensures.paid;
      },
    )
