-- What is read off the entries of a game, with one entry more.
use Rattle.std.specs.Prelude.{ℕ, ◌≡◌, Bool, true, false, ◌&&◌, ◌||◌, not, if◌then◌else◌, List, [], ◌∷◌, ◌++◌, filter, Option, Some, None, is_some}
use Rattle.std.specs.List.{flat_map, last_or, list_any, after_last}
use Rattle.std.proofs.Common.{ap, ◌∙◌, refl}
use Rattle.chess_bits.specs.declared.men.Colour.{Colour}
use Rattle.chess_bits.specs.Man.{other}
use Rattle.chess_board.specs.declared.moves.Move.{Move}
use Rattle.chess_board.specs.Position.{Position}
use Rattle.chess_end.specs.declared.ending.Ending.{Ending}
use Rattle.rec_codec.specs.declared.record.Event.TheVariants as event
use Rattle.rec_codec.specs.declared.record.Event.{Event}
use Rattle.rec_codec.specs.declared.record.Entry.{Entry}
use Rattle.chess_entry.specs.Story.{Placed, placed, placed_after, each_placed, given_or, first_given, joiner_of, moves_told, move_told, stated, is_claim, tells_move, offers_for, answers_for}
use Rattle.chess_entry.specs.Outcome.{is_granted, is_correct_event, move_made, moves_made, ending_with, ending_by, ending_by_event, ending_in}
use Rattle.chess_entry.specs.GameTimes.{begins_turn, moment_of, turn_start, clock_events_at, clock_events, end_given, end_in}
use Rattle.chess_entry.proofs.OneMore.{each_placed-more, first_given-more, flat_map-more, last_passing-more, list_any-more, any_since-more}

pub moves_told-more : (xs : List Entry) (x : Entry) → moves_told (xs ++ x ∷ []) ≡ moves_told xs ++ move_told x.event
moves_told-more xs x = flat_map-more (λ (e : Entry). move_told e.event) xs x

pub moves_made-more : (start : Position) (xs : List Entry) (x : Entry) →
    moves_made start (xs ++ x ∷ []) ≡ moves_made start xs ++ move_made start (placed xs x)
moves_made-more start xs x =
    ap (flat_map (move_made start)) (each_placed-more xs x)
    ∙ flat_map-more (move_made start) (each_placed xs) (placed xs x)

pub ending_in-more : (start : Position) (xs : List Entry) (x : Entry) →
    ending_in start (xs ++ x ∷ []) ≡ given_or (ending_in start xs) (ending_by start (placed xs x))
ending_in-more start xs x =
    ap (first_given (ending_by start)) (each_placed-more xs x)
    ∙ first_given-more (ending_by start) (each_placed xs) (placed xs x)

pub end_in-more : (start : Position) (xs : List Entry) (x : Entry) →
    end_in start (xs ++ x ∷ []) ≡ given_or (end_in start xs) (end_given start (placed xs x))
end_in-more start xs x =
    ap (first_given (end_given start)) (each_placed-more xs x)
    ∙ first_given-more (end_given start) (each_placed xs) (placed xs x)

pub clock_events-more : (start : Position) (xs : List Entry) (x : Entry) →
    clock_events start (xs ++ x ∷ []) ≡ clock_events start xs ++ clock_events_at start (placed xs x)
clock_events-more start xs x =
    ap (flat_map (clock_events_at start)) (each_placed-more xs x)
    ∙ flat_map-more (clock_events_at start) (each_placed xs) (placed xs x)

moment-if : (b : Bool) (at : Placed) (o : Option Placed) →
    moment_of (if b then Some at else o) ≡ (if b then at.entry.moment else moment_of o)
moment-if true at o = refl
moment-if false at o = refl

pub turn_start-more : (start : Position) (xs : List Entry) (x : Entry) →
    turn_start start (xs ++ x ∷ [])
    ≡ (if begins_turn start (placed xs x) then x.moment else turn_start start xs)
turn_start-more start xs x =
    ap (λ (ps : List Placed). moment_of (last_or None (filter (begins_turn start) ps))) (each_placed-more xs x)
    ∙ ap moment_of (last_passing-more (begins_turn start) (each_placed xs) (placed xs x))
    ∙ moment-if (begins_turn start (placed xs x)) (placed xs x)
    (last_or None (filter (begins_turn start) (each_placed xs)))

abbrev pub joiner_in : List Entry → Option (List ℕ)
joiner_in xs = first_given (λ (e : Entry). joiner_of e.event) xs

pub joiner_in-more : (xs : List Entry) (x : Entry) →
    joiner_in (xs ++ x ∷ []) ≡ given_or (joiner_in xs) (joiner_of x.event)
joiner_in-more xs x = first_given-more (λ (e : Entry). joiner_of e.event) xs x

-- whether an offer of a side stands, while the game runs
abbrev pub stands : Colour → List Entry → Colour → Bool
stands first xs side =
    list_any (λ (e : Entry). offers_for side e.event) xs
    && not (list_any (λ (e : Entry). answers_for first (other side) e.event) (after_last (λ (e : Entry). offers_for side e.event) xs))

standing-more : (any offers since answers : Bool) →
    ((any || offers) && not (if offers then false else (since || answers)))
    ≡ (if offers then true else ((any && not since) && not answers))
standing-more true true since answers = refl
standing-more false true since answers = refl
standing-more true false true answers = refl
standing-more true false false answers = refl
standing-more false false since answers = refl

pub stands-more : (first : Colour) (xs : List Entry) (x : Entry) (side : Colour) →
    stands first (xs ++ x ∷ []) side
    ≡ (if offers_for side x.event then true
    else (stands first xs side && not (answers_for first (other side) x.event)))
stands-more first xs x side =
    ap (λ (any : Bool). any && not (list_any (λ (e : Entry). answers_for first (other side) e.event)
    (after_last (λ (e : Entry). offers_for side e.event) (xs ++ x ∷ []))))
    (list_any-more (λ (e : Entry). offers_for side e.event) xs x)
    ∙ ap (λ (since : Bool). (list_any (λ (e : Entry). offers_for side e.event) xs || offers_for side x.event) && not since)
    (any_since-more (λ (e : Entry). offers_for side e.event) (λ (e : Entry). answers_for first (other side) e.event) xs x)
    ∙ standing-more (list_any (λ (e : Entry). offers_for side e.event) xs) (offers_for side x.event)
    (list_any (λ (e : Entry). answers_for first (other side) e.event) (after_last (λ (e : Entry). offers_for side e.event) xs))
    (answers_for first (other side) x.event)

-- whether a claim came in this turn, while the game runs
abbrev pub claims : List Entry → Bool
claims xs = list_any (λ (e : Entry). is_claim e.event) (after_last (λ (e : Entry). tells_move e.event) xs)

pub claims-more : (xs : List Entry) (x : Entry) →
    claims (xs ++ x ∷ []) ≡ (if tells_move x.event then false else (claims xs || is_claim x.event))
claims-more xs x = any_since-more (λ (e : Entry). tells_move e.event) (λ (e : Entry). is_claim e.event) xs x

-- ---- a game that runs

pub given_or-parts : {A : Type 0} (o p : Option A) → given_or o p ≡ None → (o ≡ None) × (p ≡ None)
given_or-parts None p h = (refl, h)
given_or-parts (Some a) p h = absurd (cc)

ends-none : (start : Position) (ps : List Placed) → first_given (ending_by start) ps ≡ None →
    first_given (end_given start) ps ≡ None
ends-none start [] h = refl
ends-none start (p ∷ ps) h =
    let parts = given_or-parts (ending_by start p) (first_given (ending_by start) ps) h in
    ap (λ (o : Option Ending). given_or (if is_some o then Some p.entry.moment else None) (first_given (end_given start) ps))
    parts.0
    ∙ ends-none start ps parts.1

-- a game without an ending has no moment of it
pub end_in-none : (start : Position) (xs : List Entry) → ending_in start xs ≡ None → end_in start xs ≡ None
end_in-none start xs h = ends-none start (each_placed xs) h

not_then : {A : Type 0} (b : Bool) (a : A) (o : Option A) → (if b then Some a else o) ≡ None → b ≡ false
not_then true a o h = absurd (cc)
not_then false a o h = refl

-- an entry that gives no ending is no correct claim
pub is_correct-none : (start : Position) (before : List Move) (e : Event) →
    ending_by_event start before e ≡ None → is_correct_event start before e ≡ false
is_correct-none start before (event.Open opening) h = refl
is_correct-none start before (event.Join name) h = refl
is_correct-none start before (event.Move made) h = refl
is_correct-none start before (event.Offer by) h = refl
is_correct-none start before (event.Accept by) h = refl
is_correct-none start before (event.Decline by) h = refl
is_correct-none start before (event.Resign by) h = refl
is_correct-none start before (event.Claim claim) h =
    not_then (is_granted claim.fifty start (before ++ stated claim.mv)) _ (ending_with start before claim.mv) h
is_correct-none start before event.Fallen h = refl
is_correct-none start before event.Drop h = refl

made-told : (start : Position) (before xs : List Entry) →
    first_given (ending_by start) (placed_after before xs) ≡ None →
    flat_map (move_made start) (placed_after before xs) ≡ moves_told xs
made-told start before [] h = refl
made-told start before (x ∷ xs) h =
    let parts = given_or-parts (ending_by start (placed before x))
    (first_given (ending_by start) (placed_after (before ++ x ∷ []) xs)) h in
    let wrong = is_correct-none start (moves_told before) x.event parts.0 in
    ap (λ (b : Bool). (if b then [] else move_told x.event) ++ flat_map (move_made start) (placed_after (before ++ x ∷ []) xs))
    wrong
    ∙ ap (λ (ms : List Move). move_told x.event ++ ms) (made-told start (before ++ x ∷ []) xs parts.1)

-- the moves made in a game that runs are all that were told
pub moves_made-told : (start : Position) (xs : List Entry) → ending_in start xs ≡ None →
    moves_made start xs ≡ moves_told xs
moves_made-told start xs h = made-told start [] xs h
