use Rattle.std.proofs.Common.{◌≡◌, ◌∙◌, ap, sym, refl, false, true, inl, inr, ℕ, ◌∷◌, get_or, set}
use Rattle.std.specs.List.{list_any}
use Rattle.std.proofs.lemmas.Bool.{cases_Bool, false≢true}
use Rattle.std.proofs.lemmas.List.{length-set}
use Rattle.chess_bits.specs.Square.{is_square, number_of}
use Rattle.chess_bits.specs.SquaresOf.{squares_left}
use Rattle.chess_bits.specs.Table.{members, has}
use Rattle.chess_notation.specs.Fen.{letter_or_zero}
use Rattle.chess_fen.proofs.LetterLemmas.{listed}
use Rattle.chess_fen.proofs.ShownLemmas.{relettered, touched_rank, ranks_told}
use Rattle.chess_fen.proofs.shown.reletter.Goals as goal

pub loop-square-init : goal.loop-square-init
loop-square-init c =
    let start : squares_left c.into_iter-square-iterator.result ≡ members c.args.changed =
    ap squares_left c.into_iter-square-iterator.ensures.into_iter_gives ∙ c.iter-square-items.ensures in
    record {
      letters = λ s on gone. elim (cases_Bool (has c.args.changed s)) [
        | inl here ↦ absurd (false≢true (sym gone ∙ ap (list_any (is_square s)) start ∙ listed c.args.changed s on here))
        | inr away ↦ c.requires.letters s on ∙ ap letter_or_zero (c.requires.changed s away)
      ];
      touched = λ s on here gone. absurd (false≢true (sym gone ∙ ap (list_any (is_square s)) start
          ∙ listed c.args.changed s on here));
      whole = c.told-letters;
      ranks = refl;
    }

pub loop-square-preserved : goal.loop-square-preserved
loop-square-preserved c =
    let q = c.in-Some.square in
    let rest = squares_left c.next.new.self in
    let before = c.loop-square.invariant in
    let steps : squares_left c.loop-square.square-iterator ≡ q ∷ rest = c.in-Some.ensures.steps in
    let place : c.from.result ≡ number_of q = c.from.ensures ∙ c.number.ensures.number in
    let rank_is : c.from-in-loop-square.result ≡ q.rank = c.from-in-loop-square.ensures ∙ c.rank.ensures.rank in
    record {
      letters = λ s on gone.
          ap (λ (n : ℕ). get_or (set c.loop-square.letters n c.letter_at.result) (number_of s) 0) place
          ∙ ap (λ (x : ℕ). get_or (set c.loop-square.letters (number_of q) x) (number_of s) 0) c.letter_at.ensures
          ∙ relettered c.loop-square.letters c.args.men.now q s rest before.whole c.number.ensures.on_board on gone
          (λ e. before.letters s on (ap (list_any (is_square s)) steps ∙ e));
      touched = λ s on here gone.
          ap (λ (n : ℕ). get_or (set c.loop-square.touched n true) s.rank false) rank_is
          ∙ touched_rank c.loop-square.touched q s rest before.ranks c.number.ensures.on_board.rank_to gone
          (λ e. before.touched s on here (ap (list_any (is_square s)) steps ∙ e));
      whole = length-set c.loop-square.letters c.from.result c.letter_at.result ∙ before.whole;
      ranks = length-set c.loop-square.touched c.from-in-loop-square.result true ∙ before.ranks;
    }

pub returns-clause-letters : goal.returns-clause-letters
returns-clause-letters c = λ s on.
    c.loop-square.invariant.letters s on (ap (list_any (is_square s)) c.in-None.ensures.steps.0)

pub returns-clause-touched : goal.returns-clause-touched
returns-clause-touched c =
    ranks_told c.args._old.now c.args.men.now c.args.changed c.loop-square.touched c.requires.changed
    (λ s on here. c.loop-square.invariant.touched s on here
    (ap (list_any (is_square s)) c.in-None.ensures.steps.0))
