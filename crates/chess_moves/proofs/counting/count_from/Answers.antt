use denote.Enum.Bare.{same_true, same_false}
use Rattle.std.proofs.Common.{◌≡◌, ◌∙◌, Some, length, ap, sym, rules}
use Rattle.chess_bits.specs.contracts.men.Colour.{the_type}
use Rattle.chess_bits.specs.declared.men.Colour.{Colour}
use Rattle.chess_moves.proofs.Listed.{legal_from-empty, some_of_legal, own_of_legal}
use Rattle.chess_moves.proofs.counting.count_from.Goals as goal

pub returns-in-None : goal.returns-in-None
returns-in-None c =
    sym (ap length (legal_from-empty c.args.board.now c.args.from
    (some_of_legal c.args.board.now c.args.from (sym c.in-None.ensures))))

pub returns-else-eq : goal.returns-else-eq
returns-else-eq c =
    let p = c.args.board.now in
    let apart : c.in-Some.colour ≡ c.side.result → ⊥ =
    same_false the_type c.in-Some.colour c.side.result (sym c.eq.ensures ∙ c.if-eq.false) in
    sym (ap length (legal_from-empty p c.args.from
    (λ legal. apart
    (own_of_legal p c.args.from (c.in-Some.colour, c.in-Some.kind) (sym c.in-Some.ensures) legal ∙ sym c.side.ensures))))

pub count_of-requires-clause-own : goal.count_of-requires-clause-own
count_of-requires-clause-own c =
    let same : c.in-Some.colour ≡ c.side.result =
    same_true the_type (search rules) c.in-Some.colour c.side.result (sym c.eq.ensures ∙ c.if-eq.true) in
    sym c.in-Some.ensures ∙ ap (λ (colour : Colour). Some (colour, c.in-Some.kind)) (same ∙ c.side.ensures)
