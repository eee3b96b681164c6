use Rattle.std.proofs.Common.{◌≡◌, ◌∙◌, List, ◌∷◌, inl, inr, ap, subst, sym, refl}
use Rattle.std.proofs.lemmas.Bool.{false≢true}
use Rattle.chess_bits.specs.declared.men.Colour.{Colour}
use Rattle.chess_bits.specs.Square.{Square}
use Rattle.chess_bits.specs.Man.{is_of}
use Rattle.chess_bits.specs.Attack.{SomeOf}
use Rattle.chess_bits.specs.Table.{members}
use Rattle.chess_bits.specs.SquaresOf.{squares_left}
use Rattle.chess_bits.proofs.AlongLemmas.{SomeOf-members}
use Rattle.chess_board.specs.Occupancy.{squares_with}
use Rattle.chess_board.proofs.AttackLemmas.{has-own}
use Rattle.chess_board.proofs.Candidates.{IsOnBoard-from_man}
use Rattle.chess_moves.specs.Moves.{HasLegalFrom}
use Rattle.chess_moves.proofs.listing.has_legal.Goals as goal

some_later : (P : Square → Type 0) (s : Square) (rest : List Square) → (P s → ⊥) → SomeOf P (s ∷ rest) → SomeOf P rest
some_later P s rest none (inl here) = absurd (none here)
some_later P s rest none (inr later) = later

pub loop-from-init : goal.loop-from-init
loop-from-init c (m, legal) =
    let p = c.args.board.now in
    let own = legal.candidate.own in
    let start : squares_left c.into_iter-from-iterator.result ≡ members (squares_with (is_of p.side) p.placement) =
    ap squares_left c.into_iter-from-iterator.ensures.into_iter_gives ∙ c.iter-from-items.ensures
    ∙ ap members (c.men_of.ensures.squares
    ∙ ap (λ (side : Colour). squares_with (is_of side) p.placement) c.side.ensures) in
    let Some' : List Square → Type 0 = SomeOf (HasLegalFrom p) in
    subst Some' (sym start)
    (SomeOf-members (HasLegalFrom p) (squares_with (is_of p.side) p.placement) m.from
    (IsOnBoard-from_man p.placement m.from (p.side, legal.candidate.kind) own)
    (has-own p.placement p.side legal.candidate.kind m.from own) (m, refl, legal))

pub returns-then-has_free_move : goal.returns-then-has_free_move
returns-then-has_free_move c = (λ yes. c.if-has_free_move.ensures refl, λ legal. refl)

pub returns-then-has_legal_from : goal.returns-then-has_legal_from
returns-then-has_legal_from c =
    let (m, there, legal) = c.if-has_legal_from.ensures.0 refl in
    (λ yes. (m, legal), λ legal. refl)

pub returns-then-has_legal_from-2 : goal.returns-then-has_legal_from-2
returns-then-has_legal_from-2 c =
    let (m, there, legal) = c.if-has_legal_from-2.ensures.0 refl in
    (λ yes. (m, legal), λ legal. refl)

pub loop-from-preserved : goal.loop-from-preserved
loop-from-preserved c legal =
    let P = HasLegalFrom c.args.board.now in
    let left : SomeOf P (c.in-Some.from ∷ squares_left c.next.new.self) =
    subst (SomeOf P) c.in-Some.ensures.steps (c.loop-from.invariant legal) in
    some_later P c.in-Some.from (squares_left c.next.new.self) (λ here. false≢true (c.if-has_legal_from-2.ensures.1 here)) left

pub returns : goal.returns
returns c = (
  λ never. absurd (false≢true never),
  λ legal. absurd (subst (SomeOf (HasLegalFrom c.args.board.now)) c.in-None.ensures.steps.0 (c.loop-from.invariant legal)),
)
