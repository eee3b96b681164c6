use Rattle.std.proofs.Common.{ℕ, ◌≡◌, ◌∙◌, ◌∷◌, List, Some, ap, subst, sym, refl, inl, inr}
use Rattle.std.proofs.lemmas.Bool.{false≢true}
use Rattle.chess_bits.specs.Square.{Square}
use Rattle.chess_bits.specs.Attack.{SomeOf}
use Rattle.chess_bits.specs.Table.{has, members}
use Rattle.chess_bits.specs.SquaresOf.{squares_left}
use Rattle.chess_bits.proofs.AlongLemmas.{SomeOf-members, PassesEach-members}
use Rattle.chess_board.specs.declared.moves.Move.{Move}
use Rattle.chess_board.specs.Position.{Position, man_at}
use Rattle.chess_board.specs.Legal.{EachOf}
use Rattle.chess_board.proofs.Candidates.{IsOnBoard-from_man}
use Rattle.chess_notation.specs.Naming.{IsSanOrBody}
use Rattle.chess_san.specs.declared.parsing.Asked.{Asked}
use Rattle.chess_san.proofs.SourceLemmas.{EachOf-passes, same_move}
use Rattle.chess_san.proofs.Comparing.{legal_of}
use Rattle.chess_san.proofs.reading.found.Goals as goal

-- the move from a square that does what is asked for has the text
abbrev HasText : Position → Asked → List ℕ → Square → Type 0
HasText p asked text s = IsSanOrBody p (record { from = s; to = asked.to; promotion = asked.promotion }) text

pub loop-from-init : goal.loop-from-init
loop-from-init c =
    let p = c.args.board.now in
    let asked = c.args.asked.now in
    let start : squares_left c.into_iter-from-iterator.result ≡ members c.sources.result =
    ap squares_left c.into_iter-from-iterator.ensures.into_iter_gives ∙ c.iter-from-items.ensures in
    let Told' = HasText p asked c.args.text.now in
    let Some' : List Square → Type 0 = SomeOf Told' in
    let Own' : Square → Type 0 = λ s. man_at p.placement s ≡ Some (p.side, asked.kind) in
    let Each' : List Square → Type 0 = EachOf Own' in
    let Move' : Move → Type 0 = λ m. IsSanOrBody p m c.args.text.now in
    record {
      some = λ m own there became told. subst Some' (sym start)
          (SomeOf-members Told' c.sources.result m.from (IsOnBoard-from_man p.placement m.from (p.side, asked.kind) own)
          (c.sources.ensures.all m (legal_of p m c.args.text.now told) own there)
          (subst Move' (same_move m (record { from = m.from; to = asked.to; promotion = asked.promotion }) refl there
          became) told));
      goes = subst Each' (sym start)
          (EachOf-passes (has c.sources.result) Own' (members c.sources.result)
          (λ s here. c.sources.ensures.own s here) (PassesEach-members c.sources.result));
    }

pub loop-from-preserved : goal.loop-from-preserved
loop-from-preserved c =
    let p = c.args.board.now in
    let asked = c.args.asked.now in
    let Told' = HasText p asked c.args.text.now in
    let Own' : Square → Type 0 = λ s. man_at p.placement s ≡ Some (p.side, asked.kind) in
    record {
      some = λ m own there became told.
          let left : SomeOf Told' (c.in-Some.from ∷ squares_left c.next.new.self) =
          subst (SomeOf Told') c.in-Some.ensures.steps (c.loop-from.invariant.some m own there became told) in
          elim left [
            | inl here ↦ absurd (false≢true (c.if-spells.ensures.1 here))
            | inr later ↦ later
          ];
      goes = (subst (EachOf Own') c.in-Some.ensures.steps c.loop-from.invariant.goes).1;
    }

pub spells-requires : goal.spells-requires
spells-requires c =
    let p = c.args.board.now in
    let Own' : Square → Type 0 = λ s. man_at p.placement s ≡ Some (p.side, c.args.asked.now.kind) in
    (subst (EachOf Own') c.in-Some.ensures.steps c.loop-from.invariant.goes).0

pub returns-then-spells-clause-found : goal.returns-then-spells-clause-found
returns-then-spells-clause-found c = c.if-spells.ensures.0 refl

pub returns-clause-none : goal.returns-clause-none
returns-clause-none c = λ m own there became told.
    let Told' = HasText c.args.board.now c.args.asked.now c.args.text.now in
    subst (SomeOf Told') c.in-None.ensures.steps.0 (c.loop-from.invariant.some m own there became told)
