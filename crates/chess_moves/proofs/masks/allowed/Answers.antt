use Rattle.std.proofs.Common.{◌≡◌, ◌∙◌, sym, false}
use Rattle.std.proofs.lemmas.Bool.{false≢true}
use Rattle.chess_bits.specs.Table.{has}
use Rattle.chess_bits.proofs.SetLemmas.{IsSetOf-like}
use Rattle.chess_moves.specs.Masks.{EndsChecks, KeepsLine}
use Rattle.chess_moves.proofs.SetForms.{both_set}
use Rattle.chess_moves.proofs.Watching.{own_on}
use Rattle.chess_moves.proofs.masks.allowed.Goals as goal

pub returns-then-contains : goal.returns-then-contains
returns-then-contains c =
    let p = c.args.board.now in
    let masks = c.args.masks.now in
    rw c.on_line.ensures
    (both_set masks.ends c.line_of.result (EndsChecks p masks.king) (KeepsLine p masks.king c.args.from)
    c.requires.masks.ends c.line_of.ensures)

pub returns-else-contains : goal.returns-else-contains
returns-else-contains c =
    let p = c.args.board.now in
    let masks = c.args.masks.now in
    let outside : has masks.pinned c.args.from ≡ false = sym c.if-contains.ensures.member in
    IsSetOf-like masks.ends (EndsChecks p masks.king)
    (λ q. EndsChecks p masks.king q × KeepsLine p masks.king c.args.from q) c.requires.masks.ends
    (λ q on ends. (
      ends,
      λ way l below slider pin. absurd (false≢true (sym outside
          ∙ (c.requires.masks.pinned.exact c.args.from (own_on p c.args.from c.requires.own)).1
          (c.requires.own, (way, l, below, slider, pin)))),
    ))
    (λ q on both. both.0)
