-- It is noted, and then told or put behind what waits.
use Rattle.std.proofs.Common.{ℕ, List, true, false, ap, subst, sym, ◌∙◌}
use Rattle.std.proofs.lemmas.Result.{on_ok_weaker}
use Rattle.lobby_guests.specs.Guests.{NotesLogin, IsPutBehind, IsSaid, paid_for}
use Rattle.lobby_guests.proofs.Catching.{told_on}
use Rattle.lobby_guests.proofs.guest.Guest.pass_on.Goals as goal

pub returns-then-must_wait-clause-told : goal.returns-then-must_wait-clause-told
returns-then-must_wait-clause-told g c =
    let old = c.args.self.now in
    let mid = c.note_login-2.new.self in
    let at = c.args.counts.now.at in
    let notes = subst (λ (l : List ℕ). NotesLogin at l old mid) c.as_str-2.ensures.value
    (subst (λ (n : ℕ). NotesLogin n c.as_str-2.result.now old mid) c.note_login.ensures.at c.note_login-2.ensures) in
    on_ok_weaker c.put_behind.result
    (λ put. told_on at c.args.made.now old mid c.put_behind.new.self notes c.requires true
    (sym c.must_wait.ensures ∙ c.if-must_wait.true)
    (subst (λ (n : ℕ). IsPutBehind n c.args.made.now mid c.put_behind.new.self) c.note_login.ensures.at put) put.number)
    c.put_behind.ensures

pub returns-else-must_wait-clause-told : goal.returns-else-must_wait-clause-told
returns-else-must_wait-clause-told g c =
    let old = c.args.self.now in
    let mid = c.note_login-2.new.self in
    let new = c.tell.new.self in
    let at = c.args.counts.now.at in
    let notes = subst (λ (l : List ℕ). NotesLogin at l old mid) c.as_str-2.ensures.value
    (subst (λ (n : ℕ). NotesLogin n c.as_str-2.result.now old mid) c.note_login.ensures.at c.note_login-2.ensures) in
    let said = subst (λ (l : List ℕ). IsSaid l mid new) c.as_str-else-must_wait.ensures.value c.tell.ensures.said in
    let paid = c.tell.ensures.paid
    ∙ ap (λ (n : ℕ). paid_for n c.as_str-else-must_wait.result.now mid.paid_until) c.note_login.ensures.at
    ∙ ap (λ (l : List ℕ). paid_for at l mid.paid_until) c.as_str-else-must_wait.ensures.value in
    told_on at c.args.made.now old mid new notes c.requires false (sym c.must_wait.ensures ∙ c.if-must_wait.false)
    (said, c.tell.ensures.waits, paid) said.number
