use Rattle.std.proofs.Common.{ℕ, ◌∙◌, ap, sym, eqb}
use Rattle.chess_bits.specs.Word.{word_of, word_of-bools_of}
use Rattle.chess_bits.proofs.bit_set.BitsPartialEq.eq.Goals as goal

pub returns : goal.returns
returns c =
    c.eq.ensures
    ∙ ap (λ (x : ℕ). eqb x c.t2-1.inside.word) (sym (word_of-bools_of 64 c.t1-1.inside.word c.t1-1.invariant)
    ∙ ap word_of c.t1-1.view_is)
    ∙ ap (eqb (word_of c.args.self.now)) (sym (word_of-bools_of 64 c.t2-1.inside.word c.t2-1.invariant)
    ∙ ap word_of c.t2-1.view_is)
