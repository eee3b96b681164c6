use Rattle.std.proofs.Common.{◌≡◌, ◌∙◌, ap, sym}
use Rattle.chess_board.specs.declared.men.Men.TheInside.{Inside}
use Rattle.chess_board.specs.Men.{placement_of, sets_of}
use Rattle.chess_board.proofs.MenLemmas.{no_sets, placement_of-no_sets, IsConsistent-no_sets}
use Rattle.chess_board.proofs.men.Men.new.Goals as goal
use Rattle.chess_board.proofs.men.Men.new.Goals.{After-new-8}

all_empty : (c : After-new-8) → (let made : Inside = record {
  white = c.new.result;
  black = c.new-2.result;
  pawns = c.new-3.result;
  knights = c.new-4.result;
  bishops = c.new-5.result;
  rooks = c.new-6.result;
  queens = c.new-7.result;
  kings = c.new-8.result;
} in made) ≡ no_sets
all_empty c = λ i. record {
  white = c.new.ensures i;
  black = c.new-2.ensures i;
  pawns = c.new-3.ensures i;
  knights = c.new-4.ensures i;
  bishops = c.new-5.ensures i;
  rooks = c.new-6.ensures i;
  queens = c.new-7.ensures i;
  kings = c.new-8.ensures i;
}

pub invariant_of-result : goal.invariant_of-result
invariant_of-result c = ap (λ (x : Inside). sets_of (placement_of x)) (all_empty c) ∙ IsConsistent-no_sets
    ∙ sym (all_empty c)

pub returns : goal.returns
returns c = ap placement_of (all_empty c) ∙ placement_of-no_sets
