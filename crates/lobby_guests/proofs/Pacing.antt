-- Who is asked pays where what stands in front may be an act.
use Rattle.std.proofs.Common.{◌≡◌, ◌<◌, ◌≤◌, ◌+◌, ◌-◌, ◌∙◌, ℕ, suc, Bool, true, false, List, [], ◌∷◌, length, inl, inr, refl, ap, sym, subst, arith, leb-true}
use Rattle.std.specs.Prelude.{◌⊎◌, ◌↔◌, ◌*◌, ◌^◌, Some, IsTrue}
use Rattle.std.specs.BTreeMap.{BTreeMap}
use Rattle.lobby_web.specs.Browsing.{unread}
use Rattle.lobby_talk.specs.Front.{may_be_act}
use Rattle.lobby_talk.specs.declared.talk.Talk.{Talk}
use Rattle.lobby_guests.specs.declared.guest.Guest.{Guest}
use Rattle.lobby_guests.specs.declared.rounds.Asks.{Asks}
use Rattle.lobby_guests.specs.Paces.{taken_until, payer_of, paid_by, may_act, acts_from, PaysIf, ActsAt, AreBetween}
use Rattle.lobby_guests.specs.Guests.{MayBeAsked, IsPaced, is_at_once, earlier}
use Rattle.lobby_guests.specs.Rounds.{room_of, LetsAct, PaysAct, TakesTurn, HasTurn, IsToAsk}

-- one who is not heard at once takes a turn, or has none
pub turned : {S : Type 0} (talk : Talk) (guest : Guest S) (old new : Asks) (b : Bool)
    → is_at_once (unread guest.browser.stage) ≡ false →
    TakesTurn b talk.desk guest old new → HasTurn b talk.desk guest old new
turned talk guest old new true other takes = inr (other, takes)
turned talk guest old new false other takes = (other, takes)

no_other : (b : Bool) → b ≡ false → b ≡ true → ⊥
no_other true is so = cc
no_other false is so = cc

module _ {S : Type 0} (talk : Talk) (at : ℕ) (guest : Guest S) where
  -- it waits until its player may act
  pub ahead : (old new : Asks) (player : ℕ) → player ≡ payer_of talk.desk guest.number →
      may_be_act (unread guest.browser.stage) ≡ true → LetsAct false player at old new → IsToAsk false talk at guest old new
  ahead old new player is act (late, rest) = inl (record {
    act = act;
    ahead = subst (λ (n : ℕ). may_act at (paid_by old.paces n) ≡ false) is late;
    guest = refl;
    rest = subst (λ (n : ℕ). room_of talk new
        ≡ record (room_of talk old) { next_act = earlier old.next_act (Some (acts_from (paid_by old.paces n))) }) is
        (ap (λ (a : Asks). room_of talk a) rest);
  })

  -- it has no turn
  pub put_off : (old mid new : Asks) (player : ℕ) → LetsAct true player at old mid → HasTurn false talk.desk guest mid new →
      IsToAsk false talk at guest old new
  put_off old mid new player (may, same) had = inr (subst (λ (a : Asks). HasTurn false talk.desk guest a new) same had)

  -- nobody pays by having a turn
  keeps : (old new : Asks) → HasTurn true talk.desk guest old new → (new.paces ≡ old.paces) × (new.next_act ≡ old.next_act)
  keeps old new (inl (act, same)) = (ap (λ (a : Asks). a.paces) same, ap (λ (a : Asks). a.next_act) same)
  keeps old new (inr (other, (may, inl (little, turn, is)))) = (ap (λ (a : Asks). a.paces) is, ap (λ (a : Asks). a.next_act) is)
  keeps old new (inr (other, (may, inr (much, turn, is)))) = (ap (λ (a : Asks). a.paces) is, ap (λ (a : Asks). a.next_act) is)

  -- it is asked, and its player pays if it may be taken
  pub paid : (old mid turned new : Asks) (player : ℕ) (pays : Bool) → player ≡ payer_of talk.desk guest.number →
      may_be_act (unread guest.browser.stage) ≡ true → LetsAct true player at old mid → HasTurn true talk.desk guest mid turned →
      (IsTrue pays ↔ MayBeAsked talk.desk guest) → PaysAct pays player at turned new → IsToAsk true talk at guest old new
  paid old mid turned new player pays is act (may, same) turns taken pay =
      let had : HasTurn true talk.desk guest old turned = subst (λ (a : Asks). HasTurn true talk.desk guest a turned) same turns in
      let kept = keeps old turned had in (
        record {
          in_time = λ _. subst (λ (n : ℕ). may_act at (paid_by old.paces n) ≡ true) is may;
          is_taken = pays;
          taken = (λ so. (act, taken.0 so), λ both. taken.1 both.1);
          pays = subst (λ (n : ℕ). PaysIf pays at n old.paces new.paces) is
              (subst (λ (b : BTreeMap ℕ ℕ). PaysIf pays at player b new.paces) kept.0 pay.pays);
          next_act = pay.next_act ∙ kept.1;
        },
        turned,
        had,
        pay.rounds,
      )

  -- for what is no act nobody pays
  pub unpaid : (b : Bool) (old new : Asks) → may_be_act (unread guest.browser.stage) ≡ false → HasTurn b talk.desk guest old new →
      IsToAsk b talk at guest old new
  unpaid true old new other had =
      let kept = keeps old new had in (
        record {
          in_time = λ act. absurd (no_other (may_be_act (unread guest.browser.stage)) other act);
          is_taken = false;
          taken = (λ so. absurd (cc), λ both. absurd (no_other (may_be_act (unread guest.browser.stage)) other both.0));
          pays = kept.0;
          next_act = kept.1;
        },
        new,
        had,
        record { brief = refl; long = refl; asker = refl },
      )
  unpaid false old new other had = inr had

-- ---- how often somebody may act

-- who acted so often has paid so far
abbrev HasPaid : ℕ → ℕ → ℕ → ℕ → Type 0
HasPaid from to count until = (count ≡ 0) ⊎ (from + 50 * count ≤ until) × (until ≤ to + 150)

once_more : (from to at was until count : ℕ) → to + 150 < 2 ^ 64 → from ≤ at → at ≤ to → was - at ≤ 100 →
    until ≡ taken_until at was 50 → HasPaid from to count was → HasPaid from to (suc count) until
once_more from to at was until count room least most ahead is (inl none) = inr (omega arith, omega arith)
once_more from to at was until count room least most ahead is (inr (paid, few)) = inr (omega arith, omega arith)

paid_far : (from to had : ℕ) (moments : List ℕ) (until : ℕ) → to + 150 < 2 ^ 64 → AreBetween from to moments →
    ActsAt had moments until → HasPaid from to (length moments) until
paid_far from to had [] until room between acts = inl refl
paid_far from to had (at ∷ before) until room (least, most, between) (was, acts, may, is) =
    once_more from to at was until (length before) room least most (leb-true (was - at) 100 may) is
    (paid_far from to had before was room between acts)

pub acts_few : (from to had until : ℕ) (moments : List ℕ) → to + 150 < 2 ^ 64 → AreBetween from to moments →
    ActsAt had moments until → 50 * length moments ≤ to - from + 150
acts_few from to had until moments room between acts = elim (paid_far from to had moments until room between acts) [
  | inl none ↦ omega (arith, none)
  | inr (least, most) ↦ omega (arith, least, most)
]
