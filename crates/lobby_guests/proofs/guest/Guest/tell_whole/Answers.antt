-- The first that waits is told as it is.
use Rattle.std.proofs.Common.{◌≡◌, ◌∷◌, ◌∙◌, true, refl, ap, sym, arith}
use Rattle.lobby_guests.specs.Waiting.{has_whole, is_line}
use Rattle.lobby_guests.proofs.Catching.{first_there, whole_there, at_line, not_line, told_whole, said_from}
use Rattle.lobby_guests.proofs.guest.Guest.tell_whole.Goals as goal

pub remove-one-requires : goal.remove-one-requires
remove-one-requires g c =
    let some = whole_there c.args.self.now.waits.items (sym c.has_whole.ensures ∙ c.if-not-has_whole.false) in
    omega (arith, some, c.args.self.now.waits.ok.0)

pub returns-then-not-has_whole-clause-line : goal.returns-then-not-has_whole-clause-line
returns-then-not-has_whole-clause-line g c =
    λ _. at_line c.args.self.now.waits.items (sym c.has_whole.ensures ∙ c.if-not-has_whole.true)

pub returns-clause-told : goal.returns-clause-told
returns-clause-told g c =
    let waits = c.args.self.now.waits.items in
    let one = c.remove-one.result in
    let whole : has_whole waits ≡ true = sym c.has_whole.ensures ∙ c.if-not-has_whole.false in
    let first : waits ≡ one ∷ c.remove-one.new.self.items = first_there waits one (whole_there waits whole) c.remove-one.ensures.value
    ∙ ap (λ l. one ∷ l) (sym c.remove-one.ensures.items) in
    λ _. (
      one,
      not_line (is_line one.kind) (ap has_whole (sym first) ∙ whole),
      record {
        first = first ∙ ap (λ v. one ∷ v.items) (sym c.tell.ensures.waits);
        text = c.as_str.result.now;
        told = told_whole waits one c.remove-one.new.self.items c.as_str.result.now first whole c.as_str.ensures.value;
        said = said_from c.as_str.result.now c.args.self.now _ c.tell.new.self refl refl refl
            (record { key = refl; origin = refl; since = refl; heard = refl }) refl refl refl c.tell.ensures.said;
        paid = c.tell.ensures.paid;
      },
    )
