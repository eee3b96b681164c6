use Rattle.std.proofs.Common.{◌≡◌, ◌==◌, ◌++◌, ◌∙◌}
use Rattle.std.specs.Int.{bit_at}
use Rattle.chess_notation.specs.Fen.{letter_if}
use Rattle.chess_fen.proofs.Rights.{has_bit, append_four}
use Rattle.chess_fen.proofs.fen.push_letters.Goals as goal

pub returns-clause-bytes : goal.returns-clause-bytes
returns-clause-bytes c =
    let bits = c.args.rights.0 in
    let old = c.args.text.now.bytes in
    let first = c.contains.ensures tt ∙ has_bit bits 0 in
    let second = c.contains-2.ensures tt ∙ has_bit bits 1 in
    let third = c.contains-3.ensures tt ∙ has_bit bits 2 in
    let fourth = c.contains-4.ensures tt ∙ has_bit bits 3 in
    let written : c.push_right-4.new.text.bytes ≡
    (((old ++ letter_if (bit_at bits 0 == 1) 75) ++ letter_if (bit_at bits 1 == 1) 81)
    ++ letter_if (bit_at bits 2 == 1) 107) ++ letter_if (bit_at bits 3 == 1) 113 = cc in
    written ∙ append_four old _ _ _ _
