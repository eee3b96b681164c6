use Rattle.std.proofs.Common.{◌≡◌, ◌∙◌, sym, ap, None}
use Rattle.chess_bits.specs.Square.{Square}
use Rattle.chess_bits.proofs.SetLemmas.{has-none}
use Rattle.chess_bits.proofs.TableLemmas.{same_table}
use Rattle.chess_board.specs.Position.{Placement, man_at}
use Rattle.chess_mates.proofs.likeness.has_same_men.Goals as goal

pub returns : goal.returns
returns c empty =
    let none = c.is_empty.ensures.0 empty in
    let men : Placement = c.args.a.now.placement in
    let others : Placement = c.args.b.now.placement in
    same_table None others men c.rights-2.ensures.valid.whole c.rights.ensures.valid.whole (λ s on.
    ap (λ (t : Placement). man_at t s) (sym c.men-2.ensures)
    ∙ sym ((c.changes.ensures s).0 (has-none c.changes.result s on none))
    ∙ ap (λ (t : Placement). man_at t s) c.men.ensures)
