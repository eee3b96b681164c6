use Rattle.std.proofs.Common.{◌≡◌, ◌∙◌, ap, subst, [], List, Bool}
use Rattle.std.specs.Prelude.{◌↔◌, IsTrue}
use Rattle.chess_bits.specs.Table.{members, meet}
use Rattle.chess_board.proofs.Outward.{among-meet}
use Rattle.chess_board.proofs.attack.stands_among.Goals as goal

pub returns : goal.returns
returns c =
    among-meet c.args.men.now c.args.side c.args.kind c.args.squares c.is_empty.result
    (let Tested' : List Bool → Type 0 = λ set. IsTrue c.is_empty.result ↔ (members set ≡ []) in
    subst Tested' (c.meet.ensures ∙ ap (meet c.args.squares) c.of_man.ensures) c.is_empty.ensures)
