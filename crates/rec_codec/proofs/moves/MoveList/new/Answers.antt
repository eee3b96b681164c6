use Rattle.std.proofs.Common.{◌∙◌, ap, map, take, length, sym, subst}
use Rattle.rec_codec.specs.Moves.{IsMoveList, move_of}
use Rattle.rec_codec.specs.MovesInside.{IsSound}
use Rattle.rec_codec.specs.declared.moves.MoveList.TheInside.{Inside}
use Rattle.rec_codec.proofs.MoveListLemmas.{all_storable, IsSound-made, moves_of-codes_of}
use Rattle.rec_codec.proofs.moves.MoveList.new.Goals as goal

pub invariant_of-result : goal.invariant_of-result
invariant_of-result c =
    let ms = c.args.moves.now in
    let list : IsMoveList ms = record {
      some = c.requires.some;
      few = c.requires.few;
      storable = all_storable ms c.codes_of.ensures.on_board c.requires.promotions;
    } in
    subst (λ codes. IsSound (let a : Inside = record { count = length ms; codes = codes } in
    a)) (sym c.codes_of.ensures.codes)
    (IsSound-made ms list)

pub returns : goal.returns
returns c =
    let ms = c.args.moves.now in
    ap (λ codes. map move_of (take (length ms) codes)) c.codes_of.ensures.codes
    ∙ moves_of-codes_of ms (all_storable ms c.codes_of.ensures.on_board c.requires.promotions)
