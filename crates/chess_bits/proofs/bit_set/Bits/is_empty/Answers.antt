use Rattle.std.proofs.Common.{◌≡◌, ◌∙◌, ℕ, ◌<◌, ap, sym, [], arith, inl, inr}
use Rattle.std.proofs.lemmas.Bool.{cases_eq, eqb-true, eq-eqb}
use Rattle.chess_bits.specs.Table.{members}
use Rattle.chess_bits.specs.Word.{bools_of}
use Rattle.chess_bits.proofs.MemberLemmas.{members-zero, members-first}
use Rattle.chess_bits.proofs.bit_set.Bits.is_empty.Goals as goal

pub returns : goal.returns
returns c =
    let seen : members (bools_of 64 c.self.inside.word) ≡ members c.args.self = ap members c.self.view_is in (
      (λ zero. sym seen ∙ ap (λ (n : ℕ). members (bools_of 64 n)) (eqb-true c.self.inside.word 0 zero) ∙ members-zero),
      (λ none. elim (cases_eq c.self.inside.word 0) [
        | inl zero ↦ eq-eqb c.self.inside.word 0 zero
        | inr some ↦
            let positive : 0 < c.self.inside.word = omega arith in
            let first = (members-first c.self.inside.word positive c.self.invariant).1 in
            let bad : members (bools_of 64 c.self.inside.word) ≡ [] = seen ∙ none in
            absurd (cc (first, bad))
      ]),
    )
