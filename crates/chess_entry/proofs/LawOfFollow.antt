-- The law of `follow`: the table of a lawful list is the table before its last entry, with that entry more.
use Rattle.std.specs.Prelude.{ℕ, ◌≡◌, ◌⊎◌, ◌+◌, ◌<◌, ◌≤◌, false, List, [], ◌∷◌, ◌++◌, map, Option, Some}
use Rattle.std.proofs.Common.{arith, ap, sym, subst, ◌∙◌, refl, inl, inr, append_assoc, length-append}
use Rattle.std.proofs.lemmas.Bool.{cases_eq}
use Rattle.std.proofs.lemmas.List.{append-nil, map-append}
use Rattle.rec_codec.specs.declared.limits.Limits.{Limits}
use Rattle.rec_codec.specs.declared.record.Event.{Event}
use Rattle.rec_codec.specs.declared.record.Event.TheVariants as event
use Rattle.rec_codec.specs.declared.record.Entry.{Entry}
use Rattle.rec_codec.specs.declared.record.Opening.{Opening}
use Rattle.rec_codec.specs.Records.{entry}
use Rattle.chess_entry.specs.State.{GameState}
use Rattle.chess_entry.specs.Story.{entries_of, is_open, is_drop}
use Rattle.chess_entry.specs.Games.{game_in, last_number, games_shown, greatest, table_of}
use Rattle.chess_entry.specs.Follow.{follow_game, follow_games}
use Rattle.chess_entry.specs.Lawful.{IsEntered, IsLawful, LawOfFollow}
use Rattle.chess_entry.proofs.OneMore.{greatest-more}
use Rattle.chess_entry.proofs.Allowed.{IsAllowed}
use Rattle.chess_entry.proofs.Entering.{Opens, Acts, verdict-enters}
use Rattle.chess_entry.proofs.InPlay.{IsSound}
use Rattle.chess_entry.proofs.Sound.{IsSound-more, IsSound-opened}
use Rattle.chess_entry.proofs.GameLaw.{law-of_game}
use Rattle.chess_entry.proofs.Numbers.{opened_in, opened_in-same, entries_of-own, entries_of-other, last_number-more, last_number-same, FollowsIn, games-changed, games-dropped, games-opened, found-stands}
use Rattle.chess_entry.proofs.OneMeaning.{same_parts_of_table}

-- What is true of the entries of a table: none is of a game with a number beyond the last, and those of each game are
-- sound.
pub record AreSound (es : List Entry) : Type 0 where
  pub none_beyond : (n : ℕ) → last_number es < n → entries_of n es ≡ []
  pub each : (n : ℕ) (opening : Opening) → opened_in (entries_of n es) ≡ Some opening → IsSound opening (entries_of n es)

-- an entry of a game that stands on the table
pub record OnTable (es : List Entry) (g at : ℕ) (ev : Event) : Type 0 where
  pub number : g ≤ last_number es
  pub opening : Opening
  pub opened : opened_in (entries_of g es) ≡ Some opening
  pub allowed : IsAllowed (game_in g opening (entries_of g es)) at ev

on_table : (limits : Limits) (es : List Entry) (x : Entry) → Acts (table_of limits es) x →
    OnTable es x.game x.moment x.event
on_table limits es x acts =
    let found = found-stands es x.game acts.game acts.found in
    let stands = found.1 in
    record {
      number = found.0;
      opening = stands.opening;
      opened = stands.opened;
      allowed = subst (λ (game : GameState). IsAllowed game x.moment x.event) stands.is acts.allowed;
    }

some-same : {A : Type 0} (o : Option A) (a b : A) → o ≡ Some a → o ≡ Some b → a ≡ b
some-same o a b e f = cc

-- ---- the facts go on

allowed-closed : (game : GameState) (at : ℕ) (ev : Event) → IsAllowed game at ev → is_open ev ≡ false
allowed-closed game at (event.Open opening) allowed = absurd allowed
allowed-closed game at (event.Join name) allowed = refl
allowed-closed game at (event.Move made) allowed = refl
allowed-closed game at (event.Offer by) allowed = refl
allowed-closed game at (event.Accept by) allowed = refl
allowed-closed game at (event.Decline by) allowed = refl
allowed-closed game at (event.Resign by) allowed = refl
allowed-closed game at (event.Claim claim) allowed = refl
allowed-closed game at event.Fallen allowed = refl
allowed-closed game at event.Drop allowed = refl

sound-acts : (es : List Entry) (g at : ℕ) (ev : Event) → AreSound es → OnTable es g at ev →
    AreSound (es ++ entry g at ev ∷ [])
sound-acts es g at ev sound h =
    let xs = entries_of g es in
    let closed = allowed-closed (game_in g h.opening xs) at ev h.allowed in
    let last = last_number-same es (entry g at ev) closed in
    let number = h.number in
    record {
      none_beyond = λ n beyond. entries_of-other es g n at ev (λ same. omega arith) ∙ sound.none_beyond n (omega arith);
      each = λ n opening opened. elim (cases_eq g n) [
        | inl same ↦ subst (λ (n : ℕ). opened_in (entries_of n (es ++ entry g at ev ∷ [])) ≡ Some opening →
            IsSound opening (entries_of n (es ++ entry g at ev ∷ []))) same (own opening) opened
        | inr other ↦
            let same = entries_of-other es g n at ev other in
            subst (IsSound opening) (sym same)
            (sound.each n opening (ap opened_in (sym same) ∙ opened))
      ];
    }
  where
    own : (opening : Opening) → opened_in (entries_of g (es ++ entry g at ev ∷ [])) ≡ Some opening →
        IsSound opening (entries_of g (es ++ entry g at ev ∷ []))
    own opening opened =
        let xs = entries_of g es in
        let closed = allowed-closed (game_in g h.opening xs) at ev h.allowed in
        let is : opening ≡ h.opening = some-same (opened_in xs) opening h.opening
        (sym (opened_in-same xs (entry g at ev) closed) ∙ ap opened_in (sym (entries_of-own es g at ev)) ∙ opened)
        h.opened in
        subst (λ (o : Opening). IsSound o (entries_of g (es ++ entry g at ev ∷ []))) (sym is)
        (subst (IsSound h.opening) (sym (entries_of-own es g at ev))
        (IsSound-more g h.opening xs at ev (sound.each g h.opening h.opened) h.allowed))

sound-opens : (es : List Entry) (g at : ℕ) (opened : Opening) → AreSound es → g ≡ last_number es + 1 →
    AreSound (es ++ entry g at (event.Open opened) ∷ [])
sound-opens es g at opened sound next =
    let last = last_number-more es (entry g at (event.Open opened)) in
    record {
      none_beyond = λ n beyond. entries_of-other es g n at (event.Open opened) (λ same. omega arith)
          ∙ sound.none_beyond n (omega arith);
      each = λ n opening told. elim (cases_eq g n) [
        | inl same ↦ subst (λ (n : ℕ). opened_in (entries_of n (es ++ entry g at (event.Open opened) ∷ [])) ≡ Some opening →
            IsSound opening (entries_of n (es ++ entry g at (event.Open opened) ∷ []))) same (own opening) told
        | inr other ↦
            let same = entries_of-other es g n at (event.Open opened) other in
            subst (IsSound opening) (sym same) (sound.each n opening (ap opened_in (sym same) ∙ told))
      ];
    }
  where
    alone : entries_of g (es ++ entry g at (event.Open opened) ∷ []) ≡ entry g at (event.Open opened) ∷ []
    alone = entries_of-own es g at (event.Open opened)
        ∙ ap (λ (xs : List Entry). xs ++ entry g at (event.Open opened) ∷ []) (sound.none_beyond g (omega arith))

    own : (opening : Opening) → opened_in (entries_of g (es ++ entry g at (event.Open opened) ∷ [])) ≡ Some opening →
        IsSound opening (entries_of g (es ++ entry g at (event.Open opened) ∷ []))
    own opening told =
        let is : Some opened ≡ Some opening = ap opened_in (sym alone) ∙ told in
        let same : opened ≡ opening = cc in
        subst (IsSound opening) (sym alone)
        (subst (λ (o : Opening). IsSound o (entry g at (event.Open opened) ∷ [])) same (IsSound-opened g at opened))

sound-more : (limits : Limits) (es : List Entry) (x : Entry) → AreSound es →
    Opens (table_of limits es) x ⊎ Acts (table_of limits es) x → AreSound (es ++ x ∷ [])
sound-more limits es x sound (inl opens) =
    subst (λ (ev : Event). AreSound (es ++ entry x.game x.moment ev ∷ [])) (sym opens.opens)
    (sound-opens es x.game x.moment opens.opening sound opens.number)
sound-more limits es x sound (inr acts) =
    sound-acts es x.game x.moment x.event sound (on_table limits es x acts)

-- ---- a lawful list

entered-by : (limits : Limits) (es : List Entry) (x : Entry) → IsEntered limits es x →
    Opens (table_of limits es) x ⊎ Acts (table_of limits es) x
entered-by limits es x entered =
    elim (verdict-enters (table_of entered.earlier es) entered.command entered.entered.parsed x (sym entered.entered.is)) [
      | inl opens ↦ inl (record {
        opening = opens.opening;
        opens = opens.opens;
        number = opens.number;
        period = opens.period;
      })
      | inr acts ↦ inr (record { game = acts.game; found = acts.found; allowed = acts.allowed })
    ]

sound-from : (limits : Limits) (all before rest : List Entry) → IsLawful limits all → all ≡ before ++ rest →
    AreSound before → AreSound all
sound-from limits all before [] lawful is sound = subst AreSound (sym (is ∙ append-nil before)) sound
sound-from limits all before (x ∷ rest) lawful is sound =
    sound-from limits all (before ++ x ∷ []) rest lawful (is ∙ sym (append_assoc before (x ∷ []) rest))
    (sound-more limits before x sound (entered-by limits before x (lawful before x rest is)))

AreSound-none : AreSound []
AreSound-none = record { none_beyond = λ n beyond. refl; each = λ n opening told. absurd (cc) }

pub AreSound-lawful : (limits : Limits) (es : List Entry) → IsLawful limits es → AreSound es
AreSound-lawful limits es lawful = sound-from limits es [] es lawful refl AreSound-none

-- a list without its last entry
pub IsLawful-before : (limits : Limits) (es : List Entry) (x : Entry) → IsLawful limits (es ++ x ∷ []) → IsLawful limits es
IsLawful-before limits es x lawful = λ before e rest is.
    lawful before e (rest ++ x ∷ [])
    (ap (λ (all : List Entry). all ++ x ∷ []) is ∙ append_assoc before (e ∷ rest) (x ∷ []))

-- ---- the law

follows-in : (es : List Entry) (g at : ℕ) (ev : Event) → AreSound es → OnTable es g at ev → is_drop ev ≡ false →
    FollowsIn (entries_of g es) g at ev
follows-in es g at ev sound h kept = λ opening undropped opened.
    let is : h.opening ≡ opening = some-same (opened_in (entries_of g es)) h.opening opening h.opened opened in
    subst (λ (o : Opening). game_in g o (entries_of g es ++ entry g at ev ∷ [])
    ≡ follow_game (game_in g o (entries_of g es)) at ev) is
    (law-of_game g h.opening (entries_of g es) at ev (sound.each g h.opening h.opened) h.allowed kept)

games-acts : (es : List Entry) (g at : ℕ) (ev : Event) → AreSound es → OnTable es g at ev →
    games_shown (es ++ entry g at ev ∷ []) ≡ follow_games (entry g at ev) ev (games_shown es)
games-acts es g at (event.Open opening) sound h = absurd h.allowed
games-acts es g at (event.Join name) sound h =
    games-changed es g at (event.Join name) refl refl (follows-in es g at (event.Join name) sound h refl)
games-acts es g at (event.Move made) sound h =
    games-changed es g at (event.Move made) refl refl (follows-in es g at (event.Move made) sound h refl)
games-acts es g at (event.Offer by) sound h =
    games-changed es g at (event.Offer by) refl refl (follows-in es g at (event.Offer by) sound h refl)
games-acts es g at (event.Accept by) sound h =
    games-changed es g at (event.Accept by) refl refl (follows-in es g at (event.Accept by) sound h refl)
games-acts es g at (event.Decline by) sound h =
    games-changed es g at (event.Decline by) refl refl (follows-in es g at (event.Decline by) sound h refl)
games-acts es g at (event.Resign by) sound h =
    games-changed es g at (event.Resign by) refl refl (follows-in es g at (event.Resign by) sound h refl)
games-acts es g at (event.Claim claim) sound h =
    games-changed es g at (event.Claim claim) refl refl (follows-in es g at (event.Claim claim) sound h refl)
games-acts es g at event.Fallen sound h =
    games-changed es g at event.Fallen refl refl (follows-in es g at event.Fallen sound h refl)
games-acts es g at event.Drop sound h = games-dropped es g at

games-law : (limits : Limits) (es : List Entry) (x : Entry) → AreSound es →
    Opens (table_of limits es) x ⊎ Acts (table_of limits es) x →
    games_shown (es ++ x ∷ []) ≡ follow_games x x.event (games_shown es)
games-law limits es x sound (inl opens) =
    let number : x.game ≡ last_number es + 1 = opens.number in
    subst (λ (ev : Event). games_shown (es ++ entry x.game x.moment ev ∷ [])
    ≡ follow_games (entry x.game x.moment ev) ev (games_shown es)) (sym opens.opens)
    (games-opened es x.game x.moment opens.opening number (sound.none_beyond x.game (omega arith)) opens.period)
games-law limits es x sound (inr acts) =
    games-acts es x.game x.moment x.event sound (on_table limits es x acts)

pub law : LawOfFollow
law limits es x lawful =
    let sound = AreSound-lawful limits es (IsLawful-before limits es x lawful) in
    let entered = entered-by limits es x (lawful es x [] refl) in
    same_parts_of_table {l = limits} {l' = limits} refl (games-law limits es x sound entered)
    (ap greatest (map-append (λ (e : Entry). e.moment) es (x ∷ [])) ∙ greatest-more (map (λ (e : Entry). e.moment) es) x.moment)
    (last_number-more es x) (length-append es (x ∷ []))
