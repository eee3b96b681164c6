use Rattle.std.proofs.Common.{ℕ, ◌∙◌, ap, sym, eqb, Bool, List, false, get_or}
use Rattle.std.proofs.lemmas.Nat.Bits.{shr_and_one}
use Rattle.chess_bits.proofs.WordLemmas.{get_or-bools_of}
use Rattle.chess_bits.proofs.TableLemmas.{at-on_board}
use Rattle.chess_bits.proofs.bit_set.Bits.contains.Goals as goal

pub returns-clause-member : goal.returns-clause-member
returns-clause-member c =
    ap (λ (x : ℕ). eqb x 1) (shr_and_one c.self.inside.word c.number.result)
    ∙ sym (get_or-bools_of 64 c.self.inside.word c.number.result c.number.ensures.below)
    ∙ ap (λ (x : List Bool). get_or x c.number.result false) c.self.view_is
    ∙ ap (λ (n : ℕ). get_or c.args.self n false) c.number.ensures.number
    ∙ sym (at-on_board false c.args.self c.args.square c.number.ensures.on_board)
