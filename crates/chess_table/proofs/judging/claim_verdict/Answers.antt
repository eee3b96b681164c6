use Rattle.std.proofs.Common.{ℕ, ◌≡◌, ◌++◌, ◌∷◌, List, Option, None, sym, ap, ◌∙◌}
use Rattle.chess_bits.specs.declared.men.Colour.{Colour}
use Rattle.rec_codec.specs.declared.record.Event.TheVariants as event
use Rattle.rec_codec.specs.Records.{entry}
use Rattle.chess_entry.specs.declared.refusals.Refusal.TheVariants.{AlreadyClaimed}
use Rattle.chess_entry.specs.declared.verdicts.Verdict.{Verdict}
use Rattle.chess_entry.specs.declared.verdicts.Verdict.TheVariants.{Enter}
use Rattle.chess_entry.specs.State.{GameState, TableState, ply_of}
use Rattle.chess_entry.specs.Verdict.{Check, refuse, first_of, while_running, in_turn, for_stated, claim_asked, claim_verdict}
use Rattle.chess_table.specs.declared.judging.Claimed.{Claimed}
use Rattle.chess_table.specs.Checks.{stopped_by}
use Rattle.chess_table.proofs.CheckLemmas.{stops, passes, stops_last, passes_last, applies, skipped}
use Rattle.chess_table.proofs.judging.claim_verdict.Goals as goal

-- the checks of the turn
abbrev turn : ℕ → Claimed → GameState → Colour → List Check
turn at claimed game side = while_running game at ++ in_turn game side claimed.ply

-- the checks from the one whether a claim was made in this turn on
abbrev unclaimed : TableState → Claimed → GameState → List Check
unclaimed table claimed game =
    refuse game.claimed AlreadyClaimed ∷ for_stated table game claimed.states claimed.mv

-- the claim of a side in a game of so many moves
abbrev made : ℕ → Claimed → ℕ → GameState → Colour → Verdict
made at claimed ply game side = Enter (entry game.number at
    (event.Claim (record { by = side; fifty = claimed.fifty; mv = claimed.mv; ply = ply })))

abbrev verdict_on : TableState → ℕ → Claimed → GameState → Colour → Verdict
verdict_on table at claimed game side =
    claim_verdict table at (claim_asked claimed.ply claimed.fifty claimed.states claimed.mv) game side

-- none of the turn's checks applies
in_its_turn : (table : TableState) (at : ℕ) (claimed : Claimed) (game : GameState) (side : Colour)
    (by_turn : Option Verdict) → by_turn ≡ stopped_by (turn at claimed game side) → by_turn ≡ None
    → verdict_on table at claimed game side ≡ first_of (unclaimed table claimed game) (made at claimed (ply_of game) game side)
in_its_turn table at claimed game side by_turn turned goes_on =
    passes by_turn (turn at claimed game side) (unclaimed table claimed game) (made at claimed (ply_of game) game side)
    turned goes_on

pub returns-in-Some : goal.returns-in-Some
returns-in-Some c =
    let claimed = c.args.claimed.now in
    let game = c.args.game.now in
    sym (stops c.while_in_turn.result (turn c.args.at claimed game c.args.side) (unclaimed c.args.table.now claimed game)
    (made c.args.at claimed (ply_of game) game c.args.side) c.in-Some.stop c.while_in_turn.ensures c.in-Some.is)

pub returns-then-claimed : goal.returns-then-claimed
returns-then-claimed c =
    sym (in_its_turn c.args.table.now c.args.at c.args.claimed.now c.args.game.now c.args.side c.while_in_turn.result
    c.while_in_turn.ensures c.in_default.is
    ∙ applies _ _ _ (sym c.claimed.ensures ∙ c.if-claimed.true))

pub returns-in-Some-for_stated : goal.returns-in-Some-for_stated
returns-in-Some-for_stated c =
    let table = c.args.table.now in
    let claimed = c.args.claimed.now in
    let game = c.args.game.now in
    sym (in_its_turn table c.args.at claimed game c.args.side c.while_in_turn.result c.while_in_turn.ensures
    c.in_default.is
    ∙ skipped _ _ _ (sym c.claimed.ensures ∙ c.if-claimed.false)
    ∙ stops_last c.for_stated.result (for_stated table game claimed.states claimed.mv)
    (made c.args.at claimed (ply_of game) game c.args.side)
    c.in-Some-for_stated.stop c.for_stated.ensures c.in-Some-for_stated.is)

pub returns : goal.returns
returns c =
    let table = c.args.table.now in
    let claimed = c.args.claimed.now in
    let game = c.args.game.now in
    sym (in_its_turn table c.args.at claimed game c.args.side c.while_in_turn.result c.while_in_turn.ensures
    c.in_default.is
    ∙ skipped _ _ _ (sym c.claimed.ensures ∙ c.if-claimed.false)
    ∙ passes_last c.for_stated.result (for_stated table game claimed.states claimed.mv)
    (made c.args.at claimed (ply_of game) game c.args.side) c.for_stated.ensures c.in_default-for_stated.is
    ∙ sym (c.entry_verdict.ensures ∙ ap (λ (n : ℕ). made c.args.at claimed n game c.args.side) c.ply.ensures.ply))
