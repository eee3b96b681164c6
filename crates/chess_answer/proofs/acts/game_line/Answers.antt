use Rattle.std.proofs.Common.{Some, ap, sym, ◌∙◌, subst}
use Rattle.std.specs.Option.{ForSome}
use Rattle.chess_board.specs.declared.moves.Move.{Move}
use Rattle.rec_codec.specs.declared.record.Event.{Event}
use Rattle.chess_game.specs.Turn.{IsPlayable}
use Rattle.chess_answer.specs.Acts.{MayCome}
use Rattle.chess_answer.proofs.acts.game_line.Goals as goal

pub claim_line-requires-in-Some : goal.claim_line-requires-in-Some
claim_line-requires-in-Some c = λ m same.
    let game = c.args.game.now in
    let P : Event → Type 0 = λ event. MayCome game event in
    let stated : ForSome c.in-Claim.claim.mv (IsPlayable game) = subst P c.in-Claim.is c.requires in
    stated m (c.in-Some.is ∙ (ap (λ (mv : Move). Some mv) (sym c.get-in-Some.ensures.mv) ∙ same))
