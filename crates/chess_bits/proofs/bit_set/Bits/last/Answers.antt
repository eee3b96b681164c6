use Rattle.std.proofs.Common.{◌∙◌, ℕ, ap, sym, arith}
use Rattle.chess_bits.specs.Table.{members}
use Rattle.chess_bits.specs.Word.{bools_of}
use Rattle.chess_bits.proofs.MemberLemmas.{members-zero}
use Rattle.chess_bits.proofs.SetLemmas.{IsGreatest-word}
use Rattle.chess_bits.proofs.bit_set.Bits.last.Goals as goal

pub returns-then-self-eq0-clause-none : goal.returns-then-self-eq0-clause-none
returns-then-self-eq0-clause-none c =
    ap members (sym c.self.view_is) ∙ ap (λ (n : ℕ). members (bools_of 64 n)) c.if-self-eq0.true ∙ members-zero

pub returns-else-self-eq0-clause-greatest : goal.returns-else-self-eq0-clause-greatest
returns-else-self-eq0-clause-greatest c =
    IsGreatest-word c.self.inside.word c.args.self c.new.result (omega arith) c.self.invariant c.self.view_is
    c.new.ensures
