use Rattle.std.proofs.Common.{ℕ, Option, ap, ◌∙◌}
use Rattle.std.specs.Prelude.{unwrap_or}
use Rattle.std.specs.contracts.prelude.U32FromStr.TheImpl.{ghosts}
use Rattle.club_words.proofs.Read.{reads_number}
use Rattle.club_words.proofs.limits.number_or.Goals as goal

pub returns : goal.returns
returns c = record {
  absent = λ is. c.unwrap_or.ensures ∙ ap (λ (o : Option ℕ). unwrap_or o c.args.default) (c.get_one.ensures.none is);
  given = λ n small is. c.unwrap_or.ensures
      ∙ ap (λ (o : Option ℕ). unwrap_or o c.args.default) (reads_number ghosts.from_str_gives n c.get_one.result small (c.get_one.ensures.value _ is) (λ text r gives. gives.0));
}
