use Rattle.std.proofs.Common.{◌∙◌, sym, ap}
use Rattle.std.proofs.lemmas.Bool.{false≢true}
use Rattle.chess_bits.specs.Table.{members}
use Rattle.chess_moves.proofs.Singles.{none_is_none, one_left, left_of_one}
use Rattle.chess_moves.proofs.watch.is_single.Goals as goal

pub returns-in-None : goal.returns-in-None
returns-in-None c = (
  λ never. absurd (false≢true never),
  λ one. absurd (none_is_none c.args.set c.in-None.ensures one),
)

pub returns-in-Some : goal.returns-in-Some
returns-in-Some c = (
  λ none. one_left c.args.set c.in-Some.square c.requires c.in-Some.ensures
      (ap members (sym c.remove.ensures.removed) ∙ c.is_empty.ensures.0 none),
  λ one. c.is_empty.ensures.1 (ap members c.remove.ensures.removed
      ∙ left_of_one c.args.set c.in-Some.square c.requires c.in-Some.ensures one),
)
