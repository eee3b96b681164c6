use Rattle.std.proofs.Common.{◌≡◌, ◌∙◌, ◌<◌, ℕ, subst, sym}
use Rattle.chess_bits.specs.Square.{square_at}
use Rattle.chess_board.specs.Position.{man_at}
use Rattle.chess_repeat.specs.Key.{here_code}
use Rattle.chess_repeat.proofs.CodeBits.{set_bits-code, here_code-below}
use Rattle.chess_repeat.proofs.keys.code_at.Goals as goal

pub returns-clause-code : goal.returns-clause-code
returns-clause-code c =
    let placement = c.args.board.now.placement in
    rw (
      c.from.ensures,
      c.from-2.ensures,
      c.from-3.ensures,
      c.from-4.ensures,
      c.contains-ones.ensures.member,
      c.contains-twos.ensures.member,
      c.contains-fours.ensures.member,
      c.contains-black.ensures.member,
      c.of_kinds.ensures,
      c.of_kinds-2.ensures,
      c.of_kinds-3.ensures,
      c.of.ensures,
      c.men-men.ensures,
      c.new-square.ensures,
    ) (set_bits-code placement (square_at c.args.number))

pub returns-clause-below : goal.returns-clause-below
returns-clause-below c =
    let Below' : ℕ → Type 0 = λ n. n < 16 in
    subst Below' (sym (returns-clause-code c))
    (here_code-below (man_at c.args.board.now.placement (square_at c.args.number)))
