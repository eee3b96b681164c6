use Rattle.std.proofs.Common.{refl, sym, ◌∙◌}
use Rattle.std.proofs.lemmas.Bool.{false≢true}
use Rattle.chess_game.specs.Restored.{game_named}
use Rattle.chess_game.proofs.Shown.{IsSound-shown}
use Rattle.chess_game.proofs.RestoredLemmas.{NamesNoGame-unsound, MayStand-game, IsGame-asked, Shows-named, IsRestored-shown, none_made}
use Rattle.chess_game.proofs.games.Game.restore.Goals as goal

pub returns-in_default-clause-none : goal.returns-in_default-clause-none
returns-in_default-clause-none c =
    NamesNoGame-unsound c.args.head.now c.args.moves.now
    (λ is. none_made c.in_ok-replayed.field-0 c.in_default.not-Some c.in_ok-replayed.ensures.none is.played.line)

pub returns-then-not-may_stand-clause-none : goal.returns-then-not-may_stand-clause-none
returns-then-not-may_stand-clause-none c =
    let game = game_named c.args.head.now c.args.moves.now in
    NamesNoGame-unsound c.args.head.now c.args.moves.now
    (λ is. false≢true (sym c.if-not-may_stand.true ∙ c.may_stand.ensures.1 (MayStand-game game is)))

pub invariant_of-result : goal.invariant_of-result
invariant_of-result c =
    let head = c.args.head.now in
    let moves = c.args.moves.now in
    let made = rw c.in-Some.is at c.in_ok-replayed.ensures.made in
    IsSound-shown _ (game_named head moves)
    (Shows-named _ head moves c.in-Some.replayed.by_line refl refl made c.sides_named.ensures)
    (IsGame-asked (game_named head moves) c.get-numbered.ensures.from c.get-numbered.ensures.fits
    (c.may_be_opened.ensures.0 c.if-not-may_be_opened.false) made.is_scoresheet
    (c.may_stand.ensures.0 c.if-not-may_stand.false))

pub returns-clause-some : goal.returns-clause-some
returns-clause-some c =
    let head = c.args.head.now in
    let moves = c.args.moves.now in
    let made = rw c.in-Some.is at c.in_ok-replayed.ensures.made in
    IsRestored-shown _ head moves
    (Shows-named _ head moves c.in-Some.replayed.by_line refl refl made c.sides_named.ensures)
    (c.is_counted.ensures.0 c.if-not-is_counted.false)
    (IsGame-asked (game_named head moves) c.get-numbered.ensures.from c.get-numbered.ensures.fits
    (c.may_be_opened.ensures.0 c.if-not-may_be_opened.false) made.is_scoresheet
    (c.may_stand.ensures.0 c.if-not-may_stand.false))
