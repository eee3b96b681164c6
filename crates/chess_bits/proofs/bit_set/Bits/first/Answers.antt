use Rattle.std.proofs.Common.{◌∙◌, ℕ, ap, sym, List, Bool, arith, Some}
use Rattle.chess_bits.specs.Table.{members, head_of}
use Rattle.chess_bits.specs.Word.{bools_of}
use Rattle.chess_bits.proofs.MemberLemmas.{members-zero, members-first}
use Rattle.chess_bits.proofs.bit_set.Bits.first.Goals as goal

pub returns-then-self-eq0 : goal.returns-then-self-eq0
returns-then-self-eq0 c =
    ap head_of (sym members-zero) ∙ ap (λ (n : ℕ). head_of (members (bools_of 64 n))) (sym c.if-self-eq0.true)
    ∙ ap (λ (bs : List Bool). head_of (members bs)) c.self.view_is

pub returns-else-self-eq0 : goal.returns-else-self-eq0
returns-else-self-eq0 c =
    ap Some c.new.ensures
    ∙ ap head_of (sym (members-first c.self.inside.word (omega arith) c.self.invariant).1)
    ∙ ap (λ (bs : List Bool). head_of (members bs)) c.self.view_is
