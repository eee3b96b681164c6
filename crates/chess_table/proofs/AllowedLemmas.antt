-- The test of an entry: it may come exactly where it is the verdict on the act that it would have become of.
use Rattle.std.specs.Prelude.{ℕ, ◌≡◌, ◌≤◌, ◌<◌, Bool, false, Some, None, ◌↔◌, IsTrue}
use Rattle.std.proofs.Common.{sym, subst, ◌∙◌, refl, inl, inr, arith}
use Rattle.std.proofs.lemmas.Bool.{false≢true}
use Rattle.chess_board.specs.Position.{IsValid}
use Rattle.player_name.specs.Name.{IsName}
use Rattle.rec_codec.specs.declared.record.Event.{Event}
use Rattle.rec_codec.specs.declared.record.Event.TheVariants as event
use Rattle.rec_codec.specs.declared.record.Entry.{Entry}
use Rattle.rec_codec.specs.declared.record.Opening.{Opening}
use Rattle.chess_entry.specs.declared.verdicts.Verdict.{Verdict}
use Rattle.chess_entry.specs.declared.verdicts.Verdict.TheVariants.{Enter}
use Rattle.chess_entry.specs.State.{GameState, TableState, find_game}
use Rattle.chess_entry.specs.Table.{IsTable, IsEnteredOn}
use Rattle.chess_entry.proofs.Entering.{find_game-number}
use Rattle.chess_table.specs.Ready.{IsReady}
use Rattle.chess_table.specs.Witness.{StatesLegal, NamesPlayer, Enters, opening_verdict, witness_verdict}
use Rattle.chess_table.proofs.Readiness.{IsReadyFor, ActsInGame}
use Rattle.chess_table.proofs.Comings.{comes, open-comes}
use Rattle.chess_table.proofs.WhatEnters.{Comes-entered, the-entry, the-opening}

-- the move that a game is ready for is legal
legal-ready : (game : GameState) (at : ℕ) (ev : Event) → IsReady game at ev → StatesLegal game ev
legal-ready game at (event.Open opening) ready = tt
legal-ready game at (event.Join name) ready = tt
legal-ready game at (event.Move made) ready = ready.1.legal
legal-ready game at (event.Offer by) ready = tt
legal-ready game at (event.Accept by) ready = tt
legal-ready game at (event.Decline by) ready = tt
legal-ready game at (event.Resign by) ready = tt
legal-ready game at (event.Claim claim) ready = λ m is. (ready.1.stated m is).legal
legal-ready game at event.Fallen ready = tt
legal-ready game at event.Drop ready = tt

-- the verdict that is the entry is told as one
told-entered : (v w : Verdict) (e : Entry) → v ≡ w → w ≡ Enter e → Enters v e
told-entered v w e same is = subst (λ (u : Verdict). Enters u e) (sym (same ∙ is)) (refl, refl)

-- ---- the test of an entry

module _ (t : TableState) (e : Entry) (is : IsTable t) where
  pub early-iff : e.moment < t.moment → IsTrue false ↔ IsEnteredOn t e
  early-iff early = (λ so. absurd (false≢true so), λ on. absurd (no on))
    where
      no : IsEnteredOn t e → ⊥
      no on = let it = Comes-entered t e is on in let from = it.from in omega arith

  pub late-iff : 4611686018427387903 < e.moment → IsTrue false ↔ IsEnteredOn t e
  late-iff late = (λ so. absurd (false≢true so), λ on. absurd (no on))
    where
      no : IsEnteredOn t e → ⊥
      no on = let it = Comes-entered t e is on in let to = it.to in omega arith

  opened_and_acts : (opening : Opening) (game : GameState) (plies at : ℕ) (ev : Event) → ev ≡ event.Open opening
      → IsReadyFor plies game at ev → ⊥
  opened_and_acts opening game plies at ev same ready =
      (subst (λ (x : Event). IsReadyFor plies game at x) same ready).ready

  pub opened-iff : (opening : Opening) (v : Verdict) (b : Bool) → e.event ≡ event.Open opening → IsName opening.name
      → IsValid opening.start → t.moment ≤ e.moment → e.moment ≤ 4611686018427387903
      → v ≡ opening_verdict t e.moment opening → IsTrue b ↔ Enters v e → IsTrue b ↔ IsEnteredOn t e
  opened-iff opening v b same named valid from to is_verdict told = (
    λ so. open-comes t e from to opening named valid
        (the-opening t is e.moment from opening e refl same
        (subst (λ (u : Verdict). Enters u e) is_verdict (told.0 so))),
    λ on. told.1 (well on),
  )
    where
      opened : {a b : Opening} → event.Open a ≡ event.Open b → a ≡ b
      opened h = cc

      well : IsEnteredOn t e → Enters v e
      well on = elim (Comes-entered t e is on).kind [
        | inl opens ↦
            let here : opens.opening ≡ opening = opened (sym opens.opens ∙ same) in
            told-entered v (opening_verdict t e.moment opening) e is_verdict
            (subst (λ (o : Opening). opening_verdict t e.moment o ≡ Enter e) here opens.verdict)
        | inr acts ↦ absurd (opened_and_acts opening acts.game t.limits.plies e.moment e.event same acts.ready)
      ]

  -- the game that an entry is of, which opens none
  game_of : ((opening : Opening) → ¬ (e.event ≡ event.Open opening)) → IsEnteredOn t e → ActsInGame t e
  game_of shut on = elim (Comes-entered t e is on).kind [
    | inl opens ↦ absurd (shut opens.opening opens.opens)
    | inr acts ↦ acts
  ]

  pub absent-iff : ((opening : Opening) → ¬ (e.event ≡ event.Open opening)) → None ≡ find_game e.game t.games
      → IsTrue false ↔ IsEnteredOn t e
  absent-iff shut none = (λ so. absurd (false≢true so), λ on. absurd (no (game_of shut on)))
    where
      no : ActsInGame t e → ⊥
      no acts = none_some (none ∙ acts.found)
        where
          none_some : {g : GameState} → None ≡ Some g → ⊥
          none_some h = cc

  module _ (game : GameState) (shut : (opening : Opening) → ¬ (e.event ≡ event.Open opening))
      (found : Some game ≡ find_game e.game t.games) where
    same_game : (acts : ActsInGame t e) → acts.game ≡ game
    same_game acts = let both : Some acts.game ≡ Some game = sym acts.found ∙ sym found in cc

    pub illegal-iff : ¬ StatesLegal game e.event → IsTrue false ↔ IsEnteredOn t e
    illegal-iff illegal = (λ so. absurd (false≢true so), λ on. absurd (no (game_of shut on)))
      where
        no : ActsInGame t e → ⊥
        no acts = illegal (subst (λ (g : GameState). StatesLegal g e.event) (same_game acts)
            (legal-ready acts.game e.moment e.event acts.ready.ready))

    pub acted-iff : (v : Verdict) (b : Bool) → t.moment ≤ e.moment → e.moment ≤ 4611686018427387903
        → StatesLegal game e.event → NamesPlayer e.event → v ≡ witness_verdict t e.moment game e.event
        → IsTrue b ↔ Enters v e → IsTrue b ↔ IsEnteredOn t e
    acted-iff v b from to legal named is_verdict told = (
      λ so. comes t e from to is game (sym found) e.event legal named
          (the-entry t is e.moment from game e.event e (find_game-number e.game t.games game (sym found)) refl refl
          (subst (λ (u : Verdict). Enters u e) is_verdict (told.0 so))),
      λ on. told.1 (told-entered v (witness_verdict t e.moment game e.event) e is_verdict (here (game_of shut on))),
    )
      where
        here : ActsInGame t e → witness_verdict t e.moment game e.event ≡ Enter e
        here acts =
            subst (λ (g : GameState). witness_verdict t e.moment g e.event ≡ Enter e) (same_game acts) acts.verdict
