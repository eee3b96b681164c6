use Rattle.std.proofs.Common.{◌<◌, List, Option, take, sym, ap, ◌∙◌, subst}
use Rattle.std.specs.Prelude.{is_some}
use Rattle.std.proofs.lemmas.List.{take_all}
use Rattle.std.proofs.lemmas.Result.{err_from_is_err_and}
use Rattle.chess_board.specs.declared.moves.Move.{Move}
use Rattle.chess_board.specs.Position.{Position}
use Rattle.chess_board.specs.Next.{next}
use Rattle.chess_board.specs.Legal.{IsLegal}
use Rattle.chess_end.specs.declared.ending.Ending.{Ending}
use Rattle.chess_entry.proofs.InPlay.{none-not_some}
use Rattle.chess_entry.proofs.Places.{take_with}
use Rattle.chess_entry.specs.Bounds.{ending_by_last}
use Rattle.chess_game.specs.Restored.{IsReplayed}
use Rattle.chess_game.proofs.ReplayLemmas.{IsReplayed-begun, IsReplayed-placed, HasRoom-before, IsScoresheet-not_legal, IsScoresheet-ended}
use Rattle.chess_game.proofs.RestoredLemmas.{none_made}
use Rattle.chess_game.proofs.Refused.{no_ok}
use Rattle.chess_game.proofs.scoresheet.Scoresheet.replay.Goals as goal

pub loop-mv-init : goal.loop-mv-init
loop-mv-init c = (
  IsReplayed-begun c.args.start.now c.reserve.new.self (c.reserve.ensures ∙ c.in_ok-line.ensures),
  c.times-times.ensures,
)

pub returns-in_err-line-clause-made : goal.returns-in_err-line-clause-made
returns-in_err-line-clause-made c =
    let e = err_from_is_err_and c.from_residual.result c.from_residual.ensures.1 in
    no_ok c.from_residual.result e.0 _ e.1

pub returns-in_err-line-clause-none : goal.returns-in_err-line-clause-none
returns-in_err-line-clause-none c =
    let e = err_from_is_err_and c.from_residual.result c.from_residual.ensures.1 in
    no_ok c.from_residual.result e.0 _ e.1

pub returns-in_err-reserve-clause-made : goal.returns-in_err-reserve-clause-made
returns-in_err-reserve-clause-made c =
    let e = err_from_is_err_and c.from_residual-in_err-reserve.result c.from_residual-in_err-reserve.ensures.1 in
    no_ok c.from_residual-in_err-reserve.result e.0 _ e.1

pub returns-in_err-reserve-clause-none : goal.returns-in_err-reserve-clause-none
returns-in_err-reserve-clause-none c =
    let e = err_from_is_err_and c.from_residual-in_err-reserve.result c.from_residual-in_err-reserve.ensures.1 in
    no_ok c.from_residual-in_err-reserve.result e.0 _ e.1

pub returns-then-is_some-clause-made : goal.returns-then-is_some-clause-made
returns-then-is_some-clause-made c = tt

pub returns-then-is_some-clause-none : goal.returns-then-is_some-clause-none
returns-then-is_some-clause-none c =
    IsScoresheet-ended c.args.start.now c.args.moves.now c.loop-mv.mv-index c.mv-item.result c.loop-mv.line
    (ending_by_last c.loop-mv.line.start c.loop-mv.line.moves) c.loop-mv.invariant.0 c.loop-mv-test.true c.mv-item.is
    (ap (λ (o : Option Ending). is_some o) (sym c.ending_in_play.ensures)
    ∙ sym c.is_some.ensures ∙ c.if-is_some.true)

pub returns-in_default-clause-made : goal.returns-in_default-clause-made
returns-in_default-clause-made c = tt

pub returns-in_default-clause-none : goal.returns-in_default-clause-none
returns-in_default-clause-none c =
    let P : Position → Type 0 = λ p. IsLegal p c.mv-item.result in
    IsScoresheet-not_legal c.args.start.now c.args.moves.now c.loop-mv.mv-index c.mv-item.result c.loop-mv.line
    (ending_by_last c.loop-mv.line.start c.loop-mv.line.moves) c.loop-mv.invariant.0 c.loop-mv-test.true c.mv-item.is
    (λ legal. none_made c.after_legal.result c.in_default.not-Some c.after_legal.ensures.none
    (subst P (sym c.board.ensures) legal))

pub after_legal-requires-clause-halfmove : goal.after_legal-requires-clause-halfmove
after_legal-requires-clause-halfmove c =
    subst (λ (p : Position). p.halfmove < 65535) (sym c.board.ensures)
    (HasRoom-before c.args.start.now c.args.moves.now c.loop-mv.mv-index c.loop-mv.line
    (ending_by_last c.loop-mv.line.start c.loop-mv.line.moves) c.loop-mv.invariant.0 c.requires.start
    c.loop-mv-test.true c.requires.short).halfmove

pub after_legal-requires-clause-fullmove : goal.after_legal-requires-clause-fullmove
after_legal-requires-clause-fullmove c =
    subst (λ (p : Position). p.fullmove < 65535) (sym c.board.ensures)
    (HasRoom-before c.args.start.now c.args.moves.now c.loop-mv.mv-index c.loop-mv.line
    (ending_by_last c.loop-mv.line.start c.loop-mv.line.moves) c.loop-mv.invariant.0 c.requires.start
    c.loop-mv-test.true c.requires.short).fullmove

pub ending_in_play-requires-clause-legal : goal.ending_in_play-requires-clause-legal
ending_in_play-requires-clause-legal c =
    let P : Position → Type 0 = λ p. IsLegal p c.mv-item.result in
    (c.mv-item.result, subst P c.board.ensures c.in-Some.ensures.legal)

pub ending_in_play-requires-clause-times : goal.ending_in_play-requires-clause-times
ending_in_play-requires-clause-times c = c.loop-mv.invariant.1

pub place-requires-clause-made : goal.place-requires-clause-made
place-requires-clause-made c =
    c.in-Some.ensures.next ∙ ap (λ (p : Position). next p c.mv-item.result) c.board.ensures

pub place-requires-clause-room : goal.place-requires-clause-room
place-requires-clause-room c =
    HasRoom-before c.args.start.now c.args.moves.now c.loop-mv.mv-index c.loop-mv.line
    (ending_by_last c.loop-mv.line.start c.loop-mv.line.moves) c.loop-mv.invariant.0 c.requires.start
    c.loop-mv-test.true c.requires.short

pub loop-mv-preserved : goal.loop-mv-preserved
loop-mv-preserved c =
    let moves = c.args.moves.now in
    let i = c.loop-mv.mv-index in
    let line = c.loop-mv.line in
    let after = c.place.new.self in
    let P : Position → Type 0 = λ p. IsLegal p c.mv-item.result in
    let Q : List Move → Type 0 = λ ms. IsReplayed c.args.start.now ms after (ending_by_last after.start after.moves) in (
      subst Q (sym (take_with moves i c.mv-item.result c.loop-mv-test.true c.mv-item.is))
          (IsReplayed-placed c.args.start.now (take i moves) c.mv-item.result line after c.loop-mv.invariant.0
          (sym c.ending_in_play.ensures
          ∙ none-not_some c.ending_in_play.result (sym c.is_some.ensures ∙ c.if-is_some.false))
          (subst P c.board.ensures c.in-Some.ensures.legal) c.in_ok-times.ensures.pushed),
      c.in_ok-times.ensures.times,
    )

pub returns-in_err-times-clause-made : goal.returns-in_err-times-clause-made
returns-in_err-times-clause-made c =
    let e = err_from_is_err_and c.from_residual-in_err-times.result c.from_residual-in_err-times.ensures.1 in
    no_ok c.from_residual-in_err-times.result e.0 _ e.1

pub returns-in_err-times-clause-none : goal.returns-in_err-times-clause-none
returns-in_err-times-clause-none c =
    let e = err_from_is_err_and c.from_residual-in_err-times.result c.from_residual-in_err-times.ensures.1 in
    no_ok c.from_residual-in_err-times.result e.0 _ e.1

pub ending-by_line-requires : goal.ending-by_line-requires
ending-by_line-requires c = c.loop-mv.invariant.1

pub returns-clause-made : goal.returns-clause-made
returns-clause-made c =
    let Q : List Move → Type 0 = λ ms. IsReplayed c.args.start.now ms c.loop-mv.line c.ending-by_line.result in
    let R : Option Ending → Type 0 =
    λ o. IsReplayed c.args.start.now (take c.loop-mv.mv-index c.args.moves.now) c.loop-mv.line o in
    subst Q (take_all c.loop-mv.mv-index c.args.moves.now c.loop-mv-test.false)
    (subst R (sym c.ending-by_line.ensures) c.loop-mv.invariant.0)

pub returns-clause-none : goal.returns-clause-none
returns-clause-none c = tt
