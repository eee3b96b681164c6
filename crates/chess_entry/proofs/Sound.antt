-- What stays true of a game's entries with one entry more that its game allows.
use Rattle.std.specs.Prelude.{ℕ, ◌≡◌, ◌-◌, ◌<◌, Bool, List, [], ◌∷◌, ◌++◌, length, Option, Some, None, is_some}
use Rattle.std.proofs.Common.{ap, sym, subst, ◌∙◌, refl, append_assoc, length-append}
use Rattle.std.proofs.lemmas.List.{append-nil}
use Rattle.std.proofs.lemmas.Bool.{true≢false}
use Rattle.chess_bits.specs.declared.men.Colour.{Colour}
use Rattle.chess_board.specs.declared.moves.Move.{Move}
use Rattle.chess_end.specs.declared.ending.Ending.{Ending}
use Rattle.chess_clock.specs.declared.events.ClockEvent.{ClockEvent}
use Rattle.chess_clock.specs.declared.events.ClockEvent.TheVariants as clock
use Rattle.chess_clock.specs.TimeControl.{TimeControl}
use Rattle.chess_clock.specs.Held.{held}
use Rattle.chess_clock.specs.ClockState.{on_move_after}
use Rattle.rec_codec.specs.declared.record.Event.{Event}
use Rattle.rec_codec.specs.declared.record.Event.TheVariants as event
use Rattle.rec_codec.specs.declared.record.Entry.{Entry}
use Rattle.rec_codec.specs.declared.record.Opening.{Opening}
use Rattle.rec_codec.specs.Records.{entry}
use Rattle.chess_entry.specs.Story.{placed, given_or, joiner_of, moves_told, move_told, stated}
use Rattle.chess_entry.specs.Outcome.{ending_by, ending_in}
use Rattle.chess_entry.specs.GameTimes.{clock_event, clock_events, clock_events_at, claimant_turn, turn_start}
use Rattle.chess_entry.specs.Games.{control_of, game_in}
use Rattle.chess_entry.proofs.Fields.{joiner_in, joiner_in-more, given_or-parts, ending_in-more, clock_events-more, moves_told-more, is_correct-none}
use Rattle.chess_entry.proofs.HeldLemmas.{AreTimed, AreTimed-turn, AreTimed-claim, IsTimed-start, side-after, held-own_claim}
use Rattle.chess_entry.proofs.Allowed.{IsPlaying, IsAllowed}
use Rattle.chess_entry.proofs.InPlay.{IsSound, is_joined-in, on_move-in, mover-in, up-in}

-- ---- the times

timed-at : (first : Colour) (control : TimeControl) (es fs : List ClockEvent) (ms ns : List Move) → es ≡ fs → ms ≡ ns →
    AreTimed first control fs (length ns) → AreTimed first control es (length ms)
timed-at first control es fs ms ns e f timed =
    subst (λ (xs : List ClockEvent). AreTimed first control xs (length ms)) (sym e)
    (subst (λ (xs : List Move). AreTimed first control fs (length xs)) (sym f) timed)

timed-quiet : (first : Colour) (control : TimeControl) (es : List ClockEvent) (ms : List Move) →
    AreTimed first control es (length ms) → AreTimed first control (es ++ []) (length (ms ++ []))
timed-quiet first control es ms timed =
    timed-at first control (es ++ []) es (ms ++ []) ms (append-nil es) (append-nil ms) timed

timed-turn : (first mover : Colour) (control : TimeControl) (es : List ClockEvent) (ms : List Move) (m : Move) (turn : ℕ) →
    AreTimed first control es (length ms) → mover ≡ on_move_after first (length ms) → turn < held mover control es →
    AreTimed first control (es ++ clock.Turn mover turn ∷ []) (length (ms ++ m ∷ []))
timed-turn first mover control es ms m turn timed on_move up =
    subst (AreTimed first control (es ++ clock.Turn mover turn ∷ [])) (sym (length-append ms (m ∷ [])))
    (AreTimed-turn first mover control es (length ms) turn timed on_move up)

timed-claim : (first by : Colour) (control : TimeControl) (es : List ClockEvent) (ms : List Move) (mv : Option Move) (turn : ℕ) →
    AreTimed first control es (length ms) → by ≡ on_move_after first (length ms) → turn < held by control es →
    AreTimed first control (es ++ clock.WrongClaim by ∷ claimant_turn by mv turn) (length (ms ++ stated mv))
timed-claim first by control es ms None turn timed on_move up =
    subst (λ (xs : List Move). AreTimed first control (es ++ clock.WrongClaim by ∷ []) (length xs)) (sym (append-nil ms))
    (AreTimed-claim first by control es (length ms) timed)
timed-claim first by control es ms (Some m) turn timed on_move up =
    subst (λ (xs : List ClockEvent). AreTimed first control xs (length (ms ++ m ∷ [])))
    (append_assoc es (clock.WrongClaim by ∷ []) (clock.Turn by turn ∷ []))
    (timed-turn first by control (es ++ clock.WrongClaim by ∷ []) ms m turn
    (AreTimed-claim first by control es (length ms) timed) on_move
    (subst (λ (time : ℕ). turn < time) (sym (held-own_claim by control es)) up))

-- what stays to be shown of the times with one entry more
abbrev TimedWith : Opening → List Entry → Entry → Type 0
TimedWith opening xs x = AreTimed opening.start.side (control_of opening)
    (clock_events opening.start xs ++ clock_events_at opening.start (placed xs x))
    (length (moves_told xs ++ move_told x.event))

timed-none : (opening : Opening) (xs : List Entry) →
    AreTimed opening.start.side (control_of opening) (clock_events opening.start xs) (length (moves_told xs)) →
    AreTimed opening.start.side (control_of opening) (clock_events opening.start xs ++ []) (length (moves_told xs ++ []))
timed-none opening xs timed =
    timed-quiet opening.start.side (control_of opening) (clock_events opening.start xs) (moves_told xs) timed

timed-more : (number : ℕ) (opening : Opening) (xs : List Entry) (at : ℕ) (ev : Event) →
    ending_in opening.start xs ≡ None → ending_by opening.start (placed xs (entry number at ev)) ≡ None →
    AreTimed opening.start.side (control_of opening) (clock_events opening.start xs) (length (moves_told xs)) →
    IsAllowed (game_in number opening xs) at ev → TimedWith opening xs (entry number at ev)
timed-more number opening xs at (event.Open opened) none goes_on timed allowed = absurd allowed
timed-more number opening xs at (event.Join name) none goes_on timed allowed = timed-none opening xs timed
timed-more number opening xs at (event.Move made) none goes_on timed allowed =
    let mover = mover-in opening xs number made.ply none allowed.1 in
    timed-turn opening.start.side (on_move_after opening.start.side made.ply) (control_of opening)
    (clock_events opening.start xs) (moves_told xs) made.mv (at - turn_start opening.start xs) timed
    (mover ∙ side-after opening.start (moves_told xs))
    (subst (λ (side : Colour). at - turn_start opening.start xs < held side (control_of opening)
    (clock_events opening.start xs)) (sym mover) (up-in opening xs number at none allowed.0))
timed-more number opening xs at (event.Offer by) none goes_on timed allowed = timed-none opening xs timed
timed-more number opening xs at (event.Accept by) none goes_on timed allowed = timed-none opening xs timed
timed-more number opening xs at (event.Decline by) none goes_on timed allowed = timed-none opening xs timed
timed-more number opening xs at (event.Resign by) none goes_on timed allowed = timed-none opening xs timed
timed-more number opening xs at (event.Claim claim) none goes_on timed allowed =
    let mover = on_move-in opening xs number claim.by none allowed.1 in
    let wrong = is_correct-none opening.start (moves_told xs) (event.Claim claim) goes_on in
    subst (λ (b : Bool). AreTimed opening.start.side (control_of opening)
    (clock_events opening.start xs
    ++ clock_event opening.start b (at - turn_start opening.start xs) (event.Claim claim))
    (length (moves_told xs ++ stated claim.mv)))
    (sym wrong)
    (timed-claim opening.start.side claim.by (control_of opening) (clock_events opening.start xs) (moves_told xs) claim.mv
    (at - turn_start opening.start xs) timed (mover ∙ side-after opening.start (moves_told xs))
    (subst (λ (side : Colour). at - turn_start opening.start xs < held side (control_of opening)
    (clock_events opening.start xs)) (sym mover) (up-in opening xs number at none allowed.0)))
timed-more number opening xs at event.Fallen none goes_on timed allowed = timed-none opening xs timed
timed-more number opening xs at event.Drop none goes_on timed allowed = timed-none opening xs timed

-- ---- before the join

not_joined : (number : ℕ) (opening : Opening) (xs : List Entry) → joiner_in xs ≡ None →
    IsPlaying (game_in number opening xs) → ⊥
not_joined number opening xs none playing =
    true≢false (sym playing.joined ∙ is_joined-in number opening xs ∙ ap (λ (o : Option (List ℕ)). is_some o) none)

waits-more : (number : ℕ) (opening : Opening) (xs : List Entry) (at : ℕ) (ev : Event) → IsSound opening xs →
    IsAllowed (game_in number opening xs) at ev → joiner_in xs ≡ None → joiner_of ev ≡ None →
    ending_by opening.start (placed xs (entry number at ev)) ≡ None
waits-more number opening xs at (event.Open opened) sound allowed none goes_on = refl
waits-more number opening xs at (event.Join name) sound allowed none goes_on = refl
waits-more number opening xs at (event.Move made) sound allowed none goes_on =
    absurd (not_joined number opening xs none allowed.0.playing)
waits-more number opening xs at (event.Offer by) sound allowed none goes_on = refl
waits-more number opening xs at (event.Accept by) sound allowed none goes_on =
    absurd (not_joined number opening xs none allowed)
waits-more number opening xs at (event.Decline by) sound allowed none goes_on = refl
waits-more number opening xs at (event.Resign by) sound allowed none goes_on =
    absurd (not_joined number opening xs none allowed)
waits-more number opening xs at (event.Claim claim) sound allowed none goes_on =
    absurd (not_joined number opening xs none allowed.0.playing)
waits-more number opening xs at event.Fallen sound allowed none goes_on =
    absurd (not_joined number opening xs none allowed)
waits-more number opening xs at event.Drop sound allowed none goes_on = refl

-- ---- both

pub IsSound-more : (number : ℕ) (opening : Opening) (xs : List Entry) (at : ℕ) (ev : Event) → IsSound opening xs →
    IsAllowed (game_in number opening xs) at ev → IsSound opening (xs ++ entry number at ev ∷ [])
IsSound-more number opening xs at ev sound allowed =
    let x = entry number at ev in
    record {
      waits = λ none.
          let parts = given_or-parts (joiner_in xs) (joiner_of ev) (sym (joiner_in-more xs x) ∙ none) in
          ending_in-more opening.start xs x
          ∙ ap (λ (o : Option Ending). given_or o (ending_by opening.start (placed xs x))) (sound.waits parts.0)
          ∙ waits-more number opening xs at ev sound allowed parts.0 parts.1;
      timed = λ none.
          let parts = given_or-parts (ending_in opening.start xs) (ending_by opening.start (placed xs x))
          (sym (ending_in-more opening.start xs x) ∙ none) in
          timed-at opening.start.side (control_of opening) _ _ _ _ (clock_events-more opening.start xs x)
          (moves_told-more xs x)
          (timed-more number opening xs at ev parts.0 parts.1 (sound.timed parts.0) allowed);
    }

-- a game that was opened just now
pub IsSound-opened : (number at : ℕ) (opening : Opening) →
    IsSound opening (entry number at (event.Open opening) ∷ [])
IsSound-opened number at opening = record {
  waits = λ none. refl;
  timed = λ none side. IsTimed-start opening.start.side (control_of opening) side;
}
