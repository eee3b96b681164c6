use denote.Enum.Bare.{same_true, same_false}
use Rattle.std.proofs.Common.{◌≡◌, ◌∙◌, Some, ap, sym, rules}
use Rattle.std.proofs.lemmas.Bool.{false≢true}
use Rattle.chess_bits.specs.contracts.men.Colour.{the_type}
use Rattle.chess_bits.specs.declared.men.Colour.{Colour}
use Rattle.chess_board.specs.Position.{man_at}
use Rattle.chess_moves.proofs.Listed.{legal_from_target, target_from_legal, some_of_legal, own_of_legal}
use Rattle.chess_moves.proofs.listing.has_legal_from.Goals as goal

pub has_safe_target-requires-clause-own : goal.has_safe_target-requires-clause-own
has_safe_target-requires-clause-own c =
    let same : c.in-Some.colour ≡ c.side.result =
    same_true the_type (search rules) c.in-Some.colour c.side.result (sym c.eq.ensures ∙ c.if-eq.true) in
    sym c.in-Some.ensures ∙ ap (λ (colour : Colour). Some (colour, c.in-Some.kind)) (same ∙ c.side.ensures)

pub returns-in-None : goal.returns-in-None
returns-in-None c = (
  λ never. absurd (false≢true never),
  λ legal. absurd (some_of_legal c.args.board.now c.args.from (sym c.in-None.ensures) legal),
)

pub returns-then-eq : goal.returns-then-eq
returns-then-eq c =
    let p = c.args.board.now in
    let kind = c.in-Some.kind in
    let same : c.in-Some.colour ≡ c.side.result =
    same_true the_type (search rules) c.in-Some.colour c.side.result (sym c.eq.ensures ∙ c.if-eq.true) in
    let own : man_at p.placement c.args.from ≡ Some (p.side, kind) =
    sym c.in-Some.ensures ∙ ap (λ (colour : Colour). Some (colour, kind)) (same ∙ c.side.ensures) in (
      λ safe. legal_from_target p c.args.from kind c.requires.valid.whole own (c.has_safe_target.ensures.0 safe),
      λ legal. c.has_safe_target.ensures.1 (target_from_legal p c.args.from kind c.requires.valid.whole own legal),
    )

pub returns-else-eq : goal.returns-else-eq
returns-else-eq c =
    let p = c.args.board.now in (
      λ told. absurd (false≢true (sym c.if-eq.false ∙ told)),
      λ legal. absurd (same_false the_type c.in-Some.colour c.side.result (sym c.eq.ensures ∙ c.if-eq.false)
          (own_of_legal p c.args.from (c.in-Some.colour, c.in-Some.kind) (sym c.in-Some.ensures) legal ∙ sym c.side.ensures)),
    )
