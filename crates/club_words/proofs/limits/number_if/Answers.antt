use Rattle.std.specs.contracts.prelude.U32FromStr.TheImpl.{ghosts}
use Rattle.club_words.proofs.Read.{reads_number}
use Rattle.club_words.proofs.limits.number_if.Goals as goal

pub returns : goal.returns
returns c = record {
  absent = c.get_one.ensures.none;
  given = λ n small is. reads_number ghosts.from_str_gives n c.get_one.result small (c.get_one.ensures.value _ is) (λ text r gives. gives.0);
}
