use Rattle.std.proofs.Common.{ℕ, ◌≡◌, ◌∙◌, ap, sym, arith, length, get_or, set, inl, inr, List, Option, None}
use Rattle.std.proofs.lemmas.Bool.{cases_eq}
use Rattle.std.proofs.lemmas.List.{length-set, get_or-set_same, get_or-set_other, ext_get_or}
use Rattle.chess_bits.specs.Man.{Man}
use Rattle.chess_bits.specs.Square.{number_of, number_of-square_at}
use Rattle.chess_bits.specs.Table.{put}
use Rattle.chess_board.proofs.draft.men_of.Goals as goal

pub loop-number-preserved : goal.loop-number-preserved
unfolding put
loop-number-preserved c =
    let n : ℕ = c.loop-number.number in
    let loop = c.loop-number.invariant in
    let board : List (Option Man) = c.loop-number.board in
    let man : Option Man = get_or c.args.men.now n None in
    let here : number_of c.new.result ≡ n = ap number_of c.new.ensures ∙ number_of-square_at n in
    let written : c.set.new.self ≡ set board n man = c.set.ensures ∙ ap (λ (k : ℕ). set board k man) here in
    record {
      whole = ap length written ∙ length-set board n man ∙ loop.whole;
      placed = λ k below. ap (λ (xs : List (Option Man)). get_or xs k None) written ∙ elim (cases_eq k n) [
        | inl same ↦ ap (λ (i : ℕ). get_or (set board n man) i None) same
            ∙ get_or-set_same board n man None (omega arith)
            ∙ ap (λ (i : ℕ). get_or c.args.men.now i None) (sym same)
        | inr other ↦ get_or-set_other board n k man None other ∙ loop.placed k (omega arith)
      ];
    }

pub returns-clause-men : goal.returns-clause-men
returns-clause-men c =
    ext_get_or None c.loop-number.board c.args.men.now (c.loop-number.invariant.whole ∙ sym c.told-men)
    (λ i within. c.loop-number.invariant.placed i (omega arith))
