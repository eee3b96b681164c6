use denote.Enum.Bare.{same_true, same_false}
use Rattle.chess_bits.specs.contracts.men.Colour.{the_type}
use Rattle.chess_bits.specs.declared.men.Colour.{Colour}
use Rattle.std.proofs.Common.{Some, ◌≡◌, ◌∙◌, ◌++◌, List, [], ap, sym, rules}
use Rattle.std.proofs.lemmas.List.{append-nil}
use Rattle.chess_board.specs.declared.moves.Move.{Move}
use Rattle.chess_moves.specs.Listing.{legal_from}
use Rattle.chess_moves.proofs.Listed.{legal_from-empty, some_of_legal, own_of_legal}
use Rattle.chess_moves.proofs.listing.push_moves_from.Goals as goal

unchanged : (items none : List Move) → none ≡ [] → items ≡ items ++ none
unchanged items none e = sym (ap (λ (xs : List Move). items ++ xs) e ∙ append-nil items)

pub returns-in-None : goal.returns-in-None
returns-in-None c =
    unchanged c.args.moves.now.items (legal_from c.args.board.now c.args.from)
    (legal_from-empty c.args.board.now c.args.from
    (some_of_legal c.args.board.now c.args.from (sym c.in-None.ensures)))

pub returns-else-eq : goal.returns-else-eq
returns-else-eq c =
    let p = c.args.board.now in
    let apart : c.in-Some.colour ≡ c.side.result → ⊥ =
    same_false the_type c.in-Some.colour c.side.result (sym c.eq.ensures ∙ c.if-eq.false) in
    unchanged c.args.moves.now.items (legal_from p c.args.from)
    (legal_from-empty p c.args.from
    (λ legal. apart
    (own_of_legal p c.args.from (c.in-Some.colour, c.in-Some.kind) (sym c.in-Some.ensures) legal ∙ sym c.side.ensures)))

pub push_moves_of-requires-clause-own : goal.push_moves_of-requires-clause-own
push_moves_of-requires-clause-own c =
    let same : c.in-Some.colour ≡ c.side.result =
    same_true the_type (search rules) c.in-Some.colour c.side.result (sym c.eq.ensures ∙ c.if-eq.true) in
    sym c.in-Some.ensures ∙ ap (λ (colour : Colour). Some (colour, c.in-Some.kind)) (same ∙ c.side.ensures)
