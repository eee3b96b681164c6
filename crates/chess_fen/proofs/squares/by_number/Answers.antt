use Rattle.std.proofs.Common.{◌≡◌, ◌∙◌, ◌<◌, ◌+◌, ℕ, List, Option, None, length, get_or, set, ap, sym, inl, inr, arith}
use Rattle.std.proofs.lemmas.Bool.{cases_eq}
use Rattle.std.proofs.lemmas.List.{length-set, get_or-set_same, get_or-set_other, ext_get_or}
use Rattle.chess_bits.specs.Man.{Man}
use Rattle.chess_bits.proofs.TableLemmas.{at-square_at}
use Rattle.chess_board.specs.Position.{man_at}
use Rattle.chess_fen.proofs.squares.by_number.Goals as goal

-- one more square has its man
record Placed (items men : List (Option Man)) (n : ℕ) : Type 0 where
  whole : length items ≡ 64
  placed : (k : ℕ) → k < n → get_or items k None ≡ get_or men k None

more : (items men : List (Option Man)) (n place : ℕ) (man : Option Man) → n < 64 → place ≡ n → man ≡ get_or men n None →
    Placed items men n → Placed (set items place man) men (n + 1)
more items men n place man low at there so_far = record {
  whole = length-set items place man ∙ so_far.whole;
  placed = λ k below. let whole = so_far.whole in elim (cases_eq k place) [
    | inl same ↦
        ap (λ i. get_or (set items place man) i None) same
        ∙ (get_or-set_same items place man None (omega arith) ∙ (there ∙ ap (λ i. get_or men i None) (sym (same ∙ at))))
    | inr other ↦ get_or-set_other items place k man None other ∙ so_far.placed k (omega arith)
  ];
}

pub loop-number-preserved : goal.loop-number-preserved
loop-number-preserved c =
    let n : ℕ = c.loop-number.number in
    let men : List (Option Man) = c.args.men.now in
    let loop = c.loop-number.invariant in
    let there : c.man_at.result ≡ get_or men n None =
    c.man_at.ensures ∙ (ap (man_at men) c.new.ensures ∙ at-square_at None men n (omega arith)) in
    let next = more c.loop-number.squares men n c.from.result c.man_at.result (omega arith) c.from.ensures there
    (record { whole = loop.whole; placed = loop.placed }) in
    record { whole = next.whole; placed = next.placed }

pub returns : goal.returns
returns c =
    ext_get_or None c.loop-number.squares c.args.men.now (c.loop-number.invariant.whole ∙ sym c.requires)
    (λ i within. c.loop-number.invariant.placed i (omega arith))
