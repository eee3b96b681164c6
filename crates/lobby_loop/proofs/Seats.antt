-- Connections that keep their places or yield them.
use Rattle.std.proofs.Common.{◌≡◌, ◌<◌, ◌≤◌, ◌+◌, ◌||◌, ◌⊎◌, ℕ, Bool, true, false, List, [], ◌∷◌, ◌++◌, Option, None, Some, length, get_or, set, take, map, refl, ap, sym, ◌∙◌, subst, inl, inr, arith}
use Rattle.std.specs.List.{AllZip}
use Rattle.std.proofs.lemmas.List.{take_more, take_more_set, take_all, length-set, length-map}
use Rattle.std.proofs.lemmas.List.Elements.{length_all_zip}
use Rattle.lobby_desk.specs.declared.desk.Desk.{Desk}
use Rattle.lobby_talk.specs.Talking.{acts_at}
use Rattle.lobby_guests.specs.declared.guest.Guest.{Guest}
use Rattle.lobby_guests.specs.declared.place.Place.{Place}
use Rattle.lobby_guests.specs.declared.place.Role.{Role}
use Rattle.lobby_guests.specs.declared.place.Work.{Work}
use Rattle.lobby_guests.specs.Guests.{IsAsBefore}
use Rattle.lobby_guests.specs.Place.{is_gone}
use Rattle.lobby_loop.specs.Places.{is_player, gone, each_own, judged, IsKeptOrClosed, IsKeptOrGone, IsOwned, IsFair}
use Rattle.lobby_guests.specs.Place.{role_by}
use Rattle.lobby_guests.specs.Place.{role_of, player_of, work_of, place_of, Yields}
use Rattle.lobby_loop.specs.Seating.{AreYielding, YieldAt, AreSeated, AreSeatedIf}
use Rattle.lobby_guests.proofs.Catching.{same_guest}
use Rattle.lobby_talk.proofs.Each.{SameFrom, further_same, further_front}

-- ---- one after the other

pub record IsYieldingTo {S : Type 0} (i : ℕ) (places : List Place) (old items : List (Guest S)) : Type 0 where
  pub each : AreYielding (take i places) (take i old) (take i items)
  pub same : SameFrom i old items
  pub whole : length items ≡ length old

module _ {S : Type 0} where
  one_more : (ps : List Place) (xs ys : List (Guest S)) (p : Place) (x y : Guest S) → AreYielding ps xs ys → Yields p x y →
      AreYielding (ps ++ p ∷ []) (xs ++ x ∷ []) (ys ++ y ∷ [])
  one_more [] [] [] p x y are one = (one, tt)
  one_more [] [] (z ∷ ys) p x y are one = absurd are
  one_more [] (z ∷ xs) ys p x y are one = absurd are
  one_more (q ∷ ps) [] ys p x y are one = absurd are
  one_more (q ∷ ps) (z ∷ xs) [] p x y are one = absurd are
  one_more (q ∷ ps) (w ∷ xs) (z ∷ ys) p x y are one = (are.0, one_more ps xs ys p x y are.1 one)

  pub yielding_none : (places : List Place) (old items : List (Guest S)) → items ≡ old → IsYieldingTo 0 places old items
  yielding_none places old items is =
      subst (λ (l : List (Guest S)). IsYieldingTo 0 places old l) (sym is) (record { each = tt; same = λ d k from. refl; whole = refl })

  pub yielding_further : (places : List Place) (old items : List (Guest S)) (i : ℕ) (d after : Guest S) (e : Place) → i < length items →
      length old ≡ length places → IsYieldingTo i places old items → Yields (get_or places i e) (get_or items i d) after →
      IsYieldingTo (i + 1) places old (set items i after)
  yielding_further places old items i d after e lt long so_far one =
      let below : i < length old = omega (arith, lt, so_far.whole) in
      let within : i < length places = omega (arith, below, long) in
      record {
        each = subst (λ (l : List Place). AreYielding l (take (i + 1) old) (take (i + 1) (set items i after))) (sym (take_more places i e within))
            (subst (λ (l : List (Guest S)). AreYielding (take i places ++ get_or places i e ∷ []) l (take (i + 1) (set items i after)))
            (sym (further_front old items i d so_far.same below))
            (subst (λ (l : List (Guest S)). AreYielding (take i places ++ get_or places i e ∷ []) (take i old ++ get_or items i d ∷ []) l)
            (sym (take_more_set items i after lt))
            (one_more (take i places) (take i old) (take i items) (get_or places i e) (get_or items i d) after so_far.each one)));
        same = further_same old items i after so_far.same;
        whole = length-set items i after ∙ so_far.whole;
      }

  pub yielding_all : (i : ℕ) (places : List Place) (old items : List (Guest S)) → length items ≤ i → length old ≡ length places →
      IsYieldingTo i places old items → AreYielding places old items
  yielding_all i places old items le long so_far =
      let below : length old ≤ i = omega (arith, le, so_far.whole) in
      let within : length places ≤ i = omega (arith, below, long) in
      subst (λ (l : List Place). AreYielding l old items) (take_all i places within)
      (subst (λ (l : List (Guest S)). AreYielding (take i places) l items) (take_all i old below)
      (subst (λ (l : List (Guest S)). AreYielding (take i places) (take i old) l) (take_all i items le) so_far.each))

-- ---- what becomes of their places

role_stays : (acts : Bool) → is_gone (role_by acts) ≡ false
role_stays true = refl
role_stays false = refl

pub or_true : (b : Bool) → (b || true) ≡ true
or_true true = refl
or_true false = refl

lost_stays : (desk : Desk) (lost : Bool) (number : Option ℕ) →
    role_of desk (lost || is_gone (role_of desk lost number)) number ≡ role_of desk lost number
lost_stays desk true number = refl
lost_stays desk false number = ap (λ (b : Bool). role_of desk b number) (role_stays (acts_at desk number))

-- a place of these parts
abbrev place_with : Option ℕ → Role → Option (List ℕ) → ℕ → Work → Place
place_with address role player since work =
    record { address = address; role = role; player = player; since = since; work = work }

-- who is closed by either is closed
gone_twice : (p q r : Place) → (q ≡ p) ⊎ ((is_player p.role ≡ true) × (q ≡ gone p)) → IsKeptOrClosed q r → IsKeptOrGone p r
gone_twice p q r first second =
    elim first [
      | inl same ↦ elim second [ inl again ↦ inl (again ∙ same) | inr closed ↦ inr (closed.1 ∙ ap gone same) ]
      | inr closed ↦ elim second [ inl same ↦ inr (same ∙ closed.1) | inr again ↦ inr (again.1 ∙ ap gone closed.1) ]
    ]

pub kept_or_gone : (ps qs rs : List Place) → AllZip (λ (p q : Place). (q ≡ p) ⊎ ((is_player p.role ≡ true) × (q ≡ gone p))) ps qs →
    AllZip IsKeptOrClosed qs rs → AllZip IsKeptOrGone ps rs
kept_or_gone [] [] [] first second = tt
kept_or_gone [] [] (r ∷ rs) first second = second
kept_or_gone [] (q ∷ qs) rs first second = absurd first
kept_or_gone (p ∷ ps) [] rs first second = absurd first
kept_or_gone (p ∷ ps) (q ∷ qs) [] first second = absurd second
kept_or_gone (p ∷ ps) (q ∷ qs) (r ∷ rs) first second =
    (gone_twice p q r first.0 second.0, kept_or_gone ps qs rs first.1 second.1)

module _ {S : Type 0} (desk : Desk) where
  yielded_place : (p : Place) (g h : Guest S) → Yields p g h →
      place_of desk h
      ≡ place_with g.origin.address (role_of desk (g.is_lost || is_gone p.role) g.number) (player_of desk g.number) g.since (work_of g)
  yielded_place p g h yields =
      let role = role_of desk (g.is_lost || is_gone p.role) g.number in
      let player = player_of desk g.number in
      ap (λ o. place_with o.address (role_of desk h.is_lost h.number) (player_of desk h.number) h.since (work_of h)) yields.before.still.visit.origin
      ∙ ap (λ b. place_with g.origin.address (role_of desk b h.number) (player_of desk h.number) h.since (work_of h)) yields.lost
      ∙ ap (λ n. place_with g.origin.address (role_of desk (g.is_lost || is_gone p.role) n) (player_of desk n) h.since (work_of h))
      yields.before.still.number
      ∙ ap (λ n. place_with g.origin.address role player n (work_of h)) yields.before.still.visit.since
      ∙ ap (λ w. place_with g.origin.address role player g.since w) yields.work

  one_place : (p : Place) (g h : Guest S) → Yields p g h → IsKeptOrGone (place_of desk g) p → place_of desk h ≡ p
  one_place p g h yields kept =
      let with_role : Role → Place = λ r. place_with g.origin.address r (player_of desk g.number) g.since (work_of g) in
      elim kept [
        | inl same ↦
            yielded_place p g h yields
            ∙ ap (λ (q : Place). with_role (role_of desk (g.is_lost || is_gone q.role) g.number)) same
            ∙ ap with_role (lost_stays desk g.is_lost g.number) ∙ sym same
        | inr closed ↦
            yielded_place p g h yields
            ∙ ap (λ (q : Place). with_role (role_of desk (g.is_lost || is_gone q.role) g.number)) closed
            ∙ ap (λ (b : Bool). with_role (role_of desk b g.number)) (or_true g.is_lost) ∙ sym closed
      ]

  pub all_places : (ps : List Place) (gs hs : List (Guest S)) → AreYielding ps gs hs → AllZip IsKeptOrGone (map (place_of desk) gs) ps →
      map (place_of desk) hs ≡ ps
  all_places [] [] [] are kept = refl
  all_places [] [] (h ∷ hs) are kept = absurd are
  all_places [] (g ∷ gs) hs are kept = absurd are
  all_places (p ∷ ps) [] hs are kept = absurd are
  all_places (p ∷ ps) (g ∷ gs) [] are kept = absurd are
  all_places (p ∷ ps) (g ∷ gs) (h ∷ hs) are kept =
      ap (λ q. q ∷ map (place_of desk) hs) (one_place p g h are.0 kept.0) ∙ ap (λ qs. p ∷ qs) (all_places ps gs hs are.1 kept.1)

  pub all_before : (ps : List Place) (gs hs : List (Guest S)) → AreYielding ps gs hs → AllZip IsAsBefore gs hs
  all_before [] [] [] are = tt
  all_before [] [] (h ∷ hs) are = absurd are
  all_before [] (g ∷ gs) hs are = absurd are
  all_before (p ∷ ps) [] hs are = absurd are
  all_before (p ∷ ps) (g ∷ gs) [] are = absurd are
  all_before (p ∷ ps) (g ∷ gs) (h ∷ hs) are = (are.0.before, all_before ps gs hs are.1)

  -- who yields by what is judged is seated
  pub seated : (at from : ℕ) (gs hs : List (Guest S)) (owned : List Place) →
      owned ≡ each_own (map (place_of desk) gs) (map (place_of desk) gs) → IsOwned (map (place_of desk) gs) owned →
      YieldAt at from owned gs hs → AreSeated at from desk gs hs
  seated at from gs hs owned owned_are few yields =
      let ps = judged at from owned in
      let are : map (place_of desk) hs ≡ ps =
      all_places ps gs hs yields.yields (kept_or_gone (map (place_of desk) gs) owned ps few.kept yields.fair.kept) in
      record {
        before = all_before ps gs hs yields.yields;
        owned = owned;
        owned_are = owned_are;
        few = few;
        judged_so = are;
        fair = subst (λ (l : List Place). IsFair at from owned l) (sym are) yields.fair;
      }

  pub places_length : (gs : List (Guest S)) → length (map (place_of desk) gs) ≡ length gs
  places_length gs = length-map gs (place_of desk)

pub owned_length : (old new : List Place) → IsOwned old new → length new ≡ length old
owned_length old new owned = sym (length_all_zip (λ (p q : Place). (q ≡ p) ⊎ ((is_player p.role ≡ true) × (q ≡ gone p))) old new owned.kept)

pub fair_length : (at from : ℕ) (old new : List Place) → IsFair at from old new → length new ≡ length old
fair_length at from old new fair = sym (length_all_zip IsKeptOrClosed old new fair.kept)

-- where it is not due nothing changes
module _ {S : Type 0} (desk : Desk) where
  all_as_before : (guests : List (Guest S)) → AllZip IsAsBefore guests guests
  all_as_before [] = tt
  all_as_before (guest ∷ guests) = ((same_guest guest).before, all_as_before guests)

  pub seated_not : (at from : ℕ) (guests : List (Guest S)) → AreSeatedIf false at from desk guests guests
  seated_not at from guests = record { before = all_as_before guests; seats = λ is. absurd (cc); same = λ is. refl }

  pub seated_so : (at from : ℕ) (old new : List (Guest S)) → AreSeated at from desk old new → AreSeatedIf true at from desk old new
  seated_so at from old new seated = record { before = seated.before; seats = λ is. seated; same = λ is. absurd (cc) }
