-- The law of `follow` for one game: what its entries mean with one entry more is the game before it, followed.
use Rattle.std.specs.Prelude.{ℕ, ◌≡◌, ◌-◌, Bool, true, false, ◌&&◌, ◌||◌, not, if◌then◌else◌, List, [], ◌∷◌, ◌++◌, length, Option, Some, None, is_some}
use Rattle.std.proofs.Common.{ap, sym, ◌∙◌, refl, append_assoc}
use Rattle.std.proofs.lemmas.Bool.{or_right}
use Rattle.std.proofs.lemmas.List.{append-nil}
use Rattle.std.proofs.Math.Bool.{and-true, or-false}
use Rattle.chess_bits.specs.declared.men.Colour.{Colour}
use Rattle.chess_bits.specs.declared.men.Colour.TheVariants.{White, Black}
use Rattle.chess_bits.specs.Man.{is_colour, other}
use Rattle.chess_board.specs.declared.moves.Move.{Move}
use Rattle.chess_clock.specs.declared.events.ClockEvent.TheVariants as clock
use Rattle.chess_clock.specs.ClockState.{on_move_after}
use Rattle.rec_codec.specs.declared.record.Event.{Event}
use Rattle.rec_codec.specs.declared.record.Event.TheVariants as event
use Rattle.rec_codec.specs.declared.record.Entry.{Entry}
use Rattle.rec_codec.specs.declared.record.Opening.{Opening}
use Rattle.rec_codec.specs.Records.{entry}
use Rattle.chess_entry.specs.State.{GameState, position_after, position_of}
use Rattle.chess_entry.specs.Story.{placed, given_or, moves_told, stated, is_drop}
use Rattle.chess_entry.specs.Outcome.{is_granted, claimed_draw, ending_after, ending_with, ending_by, ending_in, flag_fallen}
use Rattle.chess_entry.specs.GameTimes.{claimant_turn}
use Rattle.chess_entry.specs.Games.{control_of, game_in}
use Rattle.chess_entry.specs.Follow.{follow_game, joined, with_offer, ended, ended_if, turn_ended, moved_if, claimed_wrongly}
use Rattle.chess_entry.proofs.OneMore.{given_or-none}
use Rattle.chess_entry.proofs.Fields.{joiner_in}
use Rattle.chess_entry.proofs.HeldLemmas.{AreTimed, AreTimed-claim}
use Rattle.chess_entry.proofs.Shown.{Parts, parts, running, running-joined, running-offered, running-declined, running-moved, after_claim, running-claimed}
use Rattle.chess_entry.proofs.GameMore.{parts-same, parts_of, parts_more, game_in-running, game_in-more}
use Rattle.chess_entry.proofs.Allowed.{IsAllowed}
use Rattle.chess_entry.proofs.InPlay.{IsSound, is_joined-in, none-not_some, on_move-in, mover-in}

-- ---- single events, by the parts of the game

-- an entry that tells of nothing but an end
quiet-parts : (p : Parts) →
    parts (given_or p.joiner None) (p.events ++ []) (p.white && true) (p.black && true) p.turn (p.claimed || false)
    (p.moves ++ [])
    ≡ p
quiet-parts p =
    parts-same (given_or-none p.joiner) (append-nil p.events) (and-true p.white) (and-true p.black) refl
    (or-false p.claimed) (append-nil p.moves)

join-parts : (p : Parts) (at : ℕ) (name : List ℕ) → p.joiner ≡ None →
    parts (given_or p.joiner (Some name)) (p.events ++ []) (p.white && true) (p.black && true) at (p.claimed || false)
    (p.moves ++ [])
    ≡ parts (Some name) p.events p.white p.black at p.claimed p.moves
join-parts p at name none =
    parts-same (ap (λ (o : Option (List ℕ)). given_or o (Some name)) none) (append-nil p.events) (and-true p.white)
    (and-true p.black) refl (or-false p.claimed) (append-nil p.moves)

without_joiner : (p : Parts) → p.joiner ≡ None → parts None p.events p.white p.black p.turn p.claimed p.moves ≡ p
without_joiner p none =
    ap (λ (o : Option (List ℕ)). parts o p.events p.white p.black p.turn p.claimed p.moves) (sym none)

law-join : (number : ℕ) (opening : Opening) (p : Parts) (at : ℕ) (name : List ℕ) → p.joiner ≡ None →
    running number opening (parts (given_or p.joiner (Some name)) (p.events ++ []) (p.white && true) (p.black && true) at
    (p.claimed || false) (p.moves ++ []))
    ≡ joined (running number opening p) at name
law-join number opening p at name none =
    ap (running number opening) (join-parts p at name none)
    ∙ running-joined number opening p.events p.white p.black p.turn p.claimed p.moves at name
    ∙ ap (λ (q : Parts). joined (running number opening q) at name) (without_joiner p none)

if-and_true : (b c : Bool) → (if b then true else (c && true)) ≡ (if b then true else c)
if-and_true b c = ap (λ (x : Bool). if b then true else x) (and-true c)

law-offer : (number : ℕ) (opening : Opening) (p : Parts) (by : Colour) →
    running number opening (parts (given_or p.joiner None) (p.events ++ [])
    (if is_colour White by then true else (p.white && true)) (if is_colour Black by then true else (p.black && true))
    p.turn (p.claimed || false) (p.moves ++ []))
    ≡ with_offer (running number opening p) by true
law-offer number opening p by =
    ap (running number opening) (parts-same {t = p.turn} {u = p.turn} (given_or-none p.joiner) (append-nil p.events)
    (if-and_true (is_colour White by) p.white) (if-and_true (is_colour Black by) p.black) refl (or-false p.claimed)
    (append-nil p.moves))
    ∙ running-offered number opening p by

law-decline : (number : ℕ) (opening : Opening) (p : Parts) (by : Colour) →
    running number opening (parts (given_or p.joiner None) (p.events ++ [])
    (p.white && not (is_colour Black by)) (p.black && not (is_colour White by))
    p.turn (p.claimed || false) (p.moves ++ []))
    ≡ with_offer (running number opening p) (other by) false
law-decline number opening p by =
    ap (running number opening) (parts-same {w = p.white && not (is_colour Black by)}
    {x = p.white && not (is_colour Black by)} {b = p.black && not (is_colour White by)}
    {y = p.black && not (is_colour White by)} {t = p.turn} {u = p.turn}
    (given_or-none p.joiner) (append-nil p.events) refl refl refl
    (or-false p.claimed) (append-nil p.moves))
    ∙ running-declined number opening p by

law-move : (number : ℕ) (opening : Opening) (p : Parts) (at : ℕ) (m : Move) (mover : Colour) →
    AreTimed opening.start.side (control_of opening) p.events (length p.moves) →
    mover ≡ (position_after opening.start p.moves).side →
    running number opening (parts (given_or p.joiner None) (p.events ++ clock.Turn mover (at - p.turn) ∷ [])
    (p.white && not (is_colour Black mover)) (p.black && not (is_colour White mover)) at false (p.moves ++ m ∷ []))
    ≡ turn_ended (running number opening p) at m
law-move number opening p at m mover timed on_move =
    ap (λ (o : Option (List ℕ)). running number opening (parts o (p.events ++ clock.Turn mover (at - p.turn) ∷ [])
    (p.white && not (is_colour Black mover)) (p.black && not (is_colour White mover)) at false (p.moves ++ m ∷ [])))
    (given_or-none p.joiner)
    ∙ running-moved number opening p at m mover timed on_move

-- ---- claims

-- the parts of a story with a claim
abbrev claim_parts : Parts → Colour → Bool → Option Move → ℕ → Parts
claim_parts p by granted mv at = parts (given_or p.joiner None)
    (p.events ++ (if granted then [] else clock.WrongClaim by ∷ claimant_turn by mv (at - p.turn)))
    (if is_colour White by then true else (p.white && not (is_colour Black by && is_some mv)))
    (if is_colour Black by then true else (p.black && not (is_colour White by && is_some mv)))
    (if is_some mv && not granted then at else p.turn)
    (if is_some mv then false else (p.claimed || true))
    (p.moves ++ (if granted then [] else stated mv))

-- a correct claim: its move is not made
granted_parts : (p : Parts) (by : Colour) (mv : Option Move) (at : ℕ) →
    claim_parts p by true mv at
    ≡ parts p.joiner p.events
    (if is_colour White by then true else (p.white && not (is_colour Black by && is_some mv)))
    (if is_colour Black by then true else (p.black && not (is_colour White by && is_some mv)))
    p.turn (if is_some mv then false else (p.claimed || true)) p.moves
granted_parts p by None at =
    parts-same (given_or-none p.joiner) (append-nil p.events) refl refl refl refl (append-nil p.moves)
granted_parts p by (Some m) at =
    parts-same (given_or-none p.joiner) (append-nil p.events) refl refl refl refl (append-nil p.moves)

if-and_kept : (b c d : Bool) → (if b then true else (c && not (d && false))) ≡ (if b then true else c)
if-and_kept b c true = if-and_true b c
if-and_kept b c false = if-and_true b c

-- a wrong claim without a move
wrong_parts : (p : Parts) (by : Colour) (at : ℕ) → claim_parts p by false None at ≡ after_claim p by
wrong_parts p by at =
    parts-same (given_or-none p.joiner) refl (if-and_kept (is_colour White by) p.white (is_colour Black by))
    (if-and_kept (is_colour Black by) p.black (is_colour White by)) refl (or_right p.claimed true refl)
    (append-nil p.moves)

turn_offers_white : (by : Colour) (white : Bool) →
    (if is_colour White by then true else (white && not (is_colour Black by && true)))
    ≡ ((if is_colour White by then true else white) && not (is_colour Black by))
turn_offers_white White white = refl
turn_offers_white Black white = refl

turn_offers_black : (by : Colour) (black : Bool) →
    (if is_colour Black by then true else (black && not (is_colour White by && true)))
    ≡ ((if is_colour Black by then true else black) && not (is_colour White by))
turn_offers_black White black = refl
turn_offers_black Black black = refl

-- a wrong claim with a move: the claim, and then the move
wrong_move_parts : (p : Parts) (by : Colour) (m : Move) (at : ℕ) →
    claim_parts p by false (Some m) at
    ≡ parts p.joiner ((after_claim p by).events ++ clock.Turn by (at - p.turn) ∷ [])
    ((after_claim p by).white && not (is_colour Black by)) ((after_claim p by).black && not (is_colour White by))
    at false (p.moves ++ m ∷ [])
wrong_move_parts p by m at =
    parts-same (given_or-none p.joiner)
    (sym (append_assoc p.events (clock.WrongClaim by ∷ []) (clock.Turn by (at - p.turn) ∷ [])))
    (turn_offers_white by p.white) (turn_offers_black by p.black) refl refl refl

law-claim : (number : ℕ) (opening : Opening) (p : Parts) (at : ℕ) (by : Colour) (fifty granted : Bool) (mv : Option Move) →
    AreTimed opening.start.side (control_of opening) p.events (length p.moves) →
    by ≡ (position_after opening.start p.moves).side →
    ended_if (running number opening (claim_parts p by granted mv at)) at
    (if granted then Some (claimed_draw fifty) else ending_with opening.start p.moves mv)
    ≡ (if granted then ended (running number opening p) at (claimed_draw fifty)
    else moved_if (claimed_wrongly (running number opening p) by) at mv)
law-claim number opening p at by fifty true mv timed on_move =
    ap (λ (q : Parts). ended (running number opening q) at (claimed_draw fifty)) (granted_parts p by mv at)
law-claim number opening p at by fifty false None timed on_move =
    ap (running number opening) (wrong_parts p by at) ∙ running-claimed number opening p by timed
law-claim number opening p at by fifty false (Some m) timed on_move =
    let ending = ending_after opening.start (p.moves ++ m ∷ []) in
    let after = AreTimed-claim opening.start.side by (control_of opening) p.events (length p.moves) timed in
    ap (λ (q : Parts). ended_if (running number opening q) at ending) (wrong_move_parts p by m at)
    ∙ ap (λ (game : GameState). ended_if game at ending)
    (running-moved number opening (after_claim p by) at m by after on_move)
    ∙ ap (λ (game : GameState). ended_if (turn_ended game at m) at ending) (running-claimed number opening p by timed)

-- ---- the law

-- an event after which the game is as it was, or over
law-by : (number : ℕ) (opening : Opening) (xs : List Entry) (at : ℕ) (ev : Event) → ending_in opening.start xs ≡ None →
    ended_if (running number opening (parts_more opening xs (entry number at ev))) at
    (ending_by opening.start (placed xs (entry number at ev)))
    ≡ follow_game (running number opening (parts_of opening xs)) at ev →
    game_in number opening (xs ++ entry number at ev ∷ []) ≡ follow_game (game_in number opening xs) at ev
law-by number opening xs at ev none step =
    game_in-more number opening xs (entry number at ev) none
    ∙ step
    ∙ ap (λ (game : GameState). follow_game game at ev) (sym (game_in-running number opening xs none))

pub law-of_game : (number : ℕ) (opening : Opening) (xs : List Entry) (at : ℕ) (ev : Event) → IsSound opening xs →
    IsAllowed (game_in number opening xs) at ev → is_drop ev ≡ false →
    game_in number opening (xs ++ entry number at ev ∷ []) ≡ follow_game (game_in number opening xs) at ev
law-of_game number opening xs at (event.Open opened) sound allowed kept = absurd allowed
law-of_game number opening xs at (event.Join name) sound allowed kept =
    let joiner = none-not_some (joiner_in xs) (sym (is_joined-in number opening xs) ∙ allowed) in
    law-by number opening xs at (event.Join name) (sound.waits joiner)
    (law-join number opening (parts_of opening xs) at name joiner)
law-of_game number opening xs at (event.Move made) sound allowed kept =
    let none = allowed.0.playing.goes_on in
    law-by number opening xs at (event.Move made) none
    (ap (λ (game : GameState). ended_if game at (ending_after opening.start (moves_told xs ++ made.mv ∷ [])))
    (law-move number opening (parts_of opening xs) at made.mv (on_move_after opening.start.side made.ply)
    (sound.timed none) (mover-in opening xs number made.ply none allowed.1)))
law-of_game number opening xs at (event.Offer by) sound allowed kept =
    law-by number opening xs at (event.Offer by) allowed.goes_on
    (law-offer number opening (parts_of opening xs) by)
law-of_game number opening xs at (event.Accept by) sound allowed kept =
    law-by number opening xs at (event.Accept by) allowed.goes_on
    (ap (λ (p : Parts). follow_game (running number opening p) at (event.Accept by))
    (quiet-parts (parts_of opening xs)))
law-of_game number opening xs at (event.Decline by) sound allowed kept =
    law-by number opening xs at (event.Decline by) allowed.goes_on
    (law-decline number opening (parts_of opening xs) by)
law-of_game number opening xs at (event.Resign by) sound allowed kept =
    law-by number opening xs at (event.Resign by) allowed.goes_on
    (ap (λ (p : Parts). follow_game (running number opening p) at (event.Resign by))
    (quiet-parts (parts_of opening xs)))
law-of_game number opening xs at (event.Claim claim) sound allowed kept =
    let none = allowed.0.playing.goes_on in
    law-by number opening xs at (event.Claim claim) none
    (law-claim number opening (parts_of opening xs) at claim.by claim.fifty
    (is_granted claim.fifty opening.start (moves_told xs ++ stated claim.mv)) claim.mv
    (sound.timed none) (on_move-in opening xs number claim.by none allowed.1))
law-of_game number opening xs at event.Fallen sound allowed kept =
    law-by number opening xs at event.Fallen allowed.goes_on
    (ap (λ (p : Parts). ended (running number opening p) at
    (flag_fallen (position_of (running number opening (parts_of opening xs)))))
    (quiet-parts (parts_of opening xs)))
law-of_game number opening xs at event.Drop sound allowed kept = absurd (cc)
