-- Who has the name is awake, and the others are as they were.
use Rattle.std.proofs.Common.{◌≡◌, ◌∙◌, ℕ, List, Option, None, Some, ap, sym, refl, subst}
use Rattle.std.specs.List.{AllZip}
use Rattle.lobby_guests.specs.declared.guest.Guest.{Guest}
use Rattle.lobby_guests.specs.Guests.{IsLeftAlone}
use Rattle.lobby_guests.specs.Waking.{StaysUnlessNamed, IsAwakeIfNamed, IsPlaceNamed, number_named}
use Rattle.lobby_guests.proofs.Catching.{same_guest}
use Rattle.lobby_guests.proofs.Waking.{all_same, one_awake, none_named, one_named}
use Rattle.lobby_guests.proofs.guests.wake_one.Goals as goal

pub returns-in-Some-clause-alone : goal.returns-in-Some-clause-alone
returns-in-Some-clause-alone g c =
    let guests = c.args.guests.now.items in
    let w = c.wake_at.ensures in
    let at = subst (λ (l : List (Guest g.row.S.Denot)). IsPlaceNamed c.args.key l (Some c.in-Some.place)) c.as_slice.ensures.value c.in-Some.ensures in
    subst (λ (l : List (Guest g.row.S.Denot)). AllZip IsLeftAlone guests l) (sym w.2)
    (one_awake IsLeftAlone (λ one. same_guest one) guests c.in-Some.place w.0 w.0 at.0 w.1.alone)

pub returns-in-Some-clause-others : goal.returns-in-Some-clause-others
returns-in-Some-clause-others g c =
    let guests = c.args.guests.now.items in
    let w = c.wake_at.ensures in
    let at = subst (λ (l : List (Guest g.row.S.Denot)). IsPlaceNamed c.args.key l (Some c.in-Some.place)) c.as_slice.ensures.value c.in-Some.ensures in
    subst (λ (l : List (Guest g.row.S.Denot)). AllZip (StaysUnlessNamed c.args.key) guests l) (sym w.2)
    (one_awake (StaysUnlessNamed c.args.key) (λ one other. refl) guests c.in-Some.place w.0 w.0 at.0 (λ other. absurd (other (at.1 w.0))))

pub returns-in-Some-clause-named : goal.returns-in-Some-clause-named
returns-in-Some-clause-named g c = λ grow.
    let guests = c.args.guests.now.items in
    let w = c.wake_at.ensures in
    let at = subst (λ (l : List (Guest g.row.S.Denot)). IsPlaceNamed c.args.key l (Some c.in-Some.place)) c.as_slice.ensures.value c.in-Some.ensures in
    let named = one_named c.args.key guests c.in-Some.place w.0 w.0 grow at.0 (at.1 w.0) w.1 in (
      subst (λ (l : List (Guest g.row.S.Denot)). AllZip (IsAwakeIfNamed c.args.key) guests l) (sym w.2) named.0,
      w.3 ∙ (w.1.alone.before.still.number ∙ sym named.1),
    )

pub returns-in-None-clause-alone : goal.returns-in-None-clause-alone
returns-in-None-clause-alone g c = all_same IsLeftAlone (λ one. same_guest one) c.args.guests.now.items

pub returns-in-None-clause-others : goal.returns-in-None-clause-others
returns-in-None-clause-others g c = all_same (StaysUnlessNamed c.args.key) (λ one other. refl) c.args.guests.now.items

pub returns-in-None-clause-named : goal.returns-in-None-clause-named
returns-in-None-clause-named g c = λ grow.
    let none = none_named c.args.key c.args.guests.now.items
    (subst (λ (l : List (Guest g.row.S.Denot)). IsPlaceNamed c.args.key l None) c.as_slice.ensures.value c.in-None.ensures grow) in
    (none.0, sym none.1)
