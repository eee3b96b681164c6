use Rattle.std.proofs.Common.{◌≡◌, ◌∙◌, ap, sym, subst, refl, List}
use Rattle.std.specs.List.{list_any}
use Rattle.std.proofs.lemmas.Bool.{false≢true}
use Rattle.chess_bits.specs.Square.{Square, is_square}
use Rattle.chess_bits.specs.SquaresOf.{squares_left}
use Rattle.chess_bits.specs.Table.{members, has}
use Rattle.chess_bits.proofs.AlongLemmas.{PassesEach, PassesEach-members}
use Rattle.chess_fen.proofs.LetterLemmas.{listed}
use Rattle.chess_fen.proofs.letters.mark.Goals as goal

pub loop-square-init : goal.loop-square-init
loop-square-init c =
    let start : squares_left c.into_iter-square-iterator.result ≡ members c.args.squares =
    ap squares_left c.into_iter-square-iterator.ensures.into_iter_gives ∙ c.iter-square-items.ensures in
    let Passes' : List Square → Type 0 = PassesEach (has c.args.squares) in
    record {
      kept = λ s on away. refl;
      marked = λ s on here gone. absurd (false≢true (sym gone ∙ ap (list_any (is_square s)) start
          ∙ listed c.args.squares s on here));
      members = subst Passes' (sym start) (PassesEach-members c.args.squares);
      whole = c.told-letters;
    }
