use Rattle.std.proofs.Common.{Some, List, ℕ, ◌≡◌, sym, ap, subst}
use Rattle.std.specs.Option.{option_copied}
use Rattle.chess_board.specs.declared.moves.Move.{Move}
use Rattle.chess_notation.specs.Naming.{Names}
use Rattle.chess_table.proofs.Promotions.{CanBecome-legal}
use Rattle.chess_table.specs.Parsing.{IsTheMove}
use Rattle.chess_table.proofs.CheckLemmas.{move-named, move-unnamed}
use Rattle.chess_table.proofs.judging.move_parsed.Goals as goal

pub new-requires : goal.new-requires
new-requires c = CanBecome-legal _ _ c.in-Some-read.ensures.found.legal

pub returns-in-Some-read : goal.returns-in-Some-read
returns-in-Some-read c =
    let found = option_copied c.args.found in
    let text = c.args.text.now.bytes in
    let board = c.board.result.now in
    let m = c.in-Some-read.mv in
    let is : found ≡ Some c.in-Some.game.now = ap (λ o. option_copied o) c.in-Some.is in
    let told : IsTheMove found (Some text) (Some m) =
    move-named found c.in-Some.game.now text board m (sym is) c.board.ensures
    (subst (λ (t : List ℕ). Names board t m) c.as_str.ensures.value c.in-Some-read.ensures.found)
    (λ other names. c.in-Some-read.ensures.one other
    (subst (λ (t : List ℕ). Names board t other) (sym c.as_str.ensures.value) names)) in
    subst (λ (x : Move). IsTheMove found (Some text) (Some x)) (sym c.new.ensures) told

pub returns-in-None : goal.returns-in-None
returns-in-None c =
    let found = option_copied c.args.found in
    let text = c.args.text.now.bytes in
    let board = c.board.result.now in
    let is : found ≡ Some c.in-Some.game.now = ap (λ o. option_copied o) c.in-Some.is in
    move-unnamed found c.in-Some.game.now text board (sym is) c.board.ensures
    (λ m names. c.in-None.ensures.none m
    (subst (λ (t : List ℕ). Names board t m) (sym c.as_str.ensures.value) names))
