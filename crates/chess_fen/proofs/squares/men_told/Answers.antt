use Rattle.std.proofs.Common.{◌≡◌, ◌≢◌, ◌≤◌, ◌<◌, ◌+◌, ◌-◌, ◌∙◌, ℕ, List, [], ◌∷◌, Option, Some, None, length, drop, get_or, replicate, ap, sym, subst, arith}
use Rattle.std.proofs.lemmas.List.{drop_more, drop_all, length-replicate}
use Rattle.chess_bits.specs.Man.{Man}
use Rattle.chess_bits.specs.Table.{put}
use Rattle.chess_bits.proofs.TableLemmas.{length-put}
use Rattle.chess_notation.specs.Letters.{letter_of}
use Rattle.chess_notation.specs.Fen.{placement_text}
use Rattle.chess_fen.proofs.Told.{IsTold, told_start, told_letter, told_digit, told_other, told_end, square_of}
use Rattle.chess_fen.proofs.squares.men_told.Goals as goal
use Rattle.chess_fen.proofs.squares.men_told.Goals.{in-49-to-56, in_default+in-Some+then-told-lt64, in_default-via-then-letter-lt49, in_default-via-else-letter-lt49+else-letter-lt57, in_default+in-Some+else-told-lt64, in_default+in_default-man_named}

pub loop-letter-init : goal.loop-letter-init
loop-letter-init c =
    let empty : c.new-men.result ≡ replicate 64 None = c.new-men.ensures in
    record {
      whole = ap length empty ∙ length-replicate {A = Option Man} 64 None;
      along = λ p whole e. subst (λ men. IsTold p c.as_bytes-letter-items.result.now men 0) (sym empty)
          (subst (λ text. IsTold p text (replicate 64 None) 0) (sym e) (told_start p));
    }

pub loop-letter-preserved : goal.loop-letter-preserved
loop-letter-preserved c =
    let items : List ℕ = c.as_bytes-letter-items.result.now in
    let i : ℕ = c.loop-letter.letter-index in
    let men = c.loop-letter.men in
    let told = c.loop-letter.told in
    let loop = c.loop-letter.invariant in
    let within : i < length items = c.loop-letter-test.true in
    let letter : ℕ = get_or items i 0 in
    let next : drop i items ≡ letter ∷ drop (i + 1) items = drop_more items i 0 within in
    let along : (p : List (Option Man)) → length p ≡ 64 → items ≡ placement_text p →
    IsTold p (letter ∷ drop (i + 1) items) men told =
    λ p whole e. subst (λ rest. IsTold p rest men told) next (loop.along p whole e) in
    let keep : (p : List (Option Man)) → length p ≡ 64 → items ≡ placement_text p → ((n : ℕ) → 1 ≤ n → n ≤ 8 →
    letter ≢ 48 + n) → ((man : Man) → letter ≡ letter_of man → 64 ≤ told) →
    IsTold p (drop (i + 1) items) men told =
    λ p whole e no_digit no_letter.
    told_other p letter (drop (i + 1) items) men told (along p whole e) loop.whole no_digit no_letter in
    elim c.if-letter-lt49.branch [
      | in-49-to-56 w ↦
          let n : ℕ = letter - 48 in
          record {
            whole = ap length w.men-is ∙ loop.whole;
            along = λ p whole e.
                let run = told_digit p letter (drop (i + 1) items) men told n (along p whole e) (omega arith) (omega arith)
                (omega arith) in
                let bound = run.within in
                let now : c.if-letter-lt49.told ≡ told + n = omega (arith, w.saturating_add-told.ensures) in
                subst (λ m. IsTold p (drop (i + 1) items) m c.if-letter-lt49.told) (sym w.men-is)
                (subst (λ k. IsTold p (drop (i + 1) items) men k) (sym now) run.told);
          }
      | in_default+in-Some+then-told-lt64 w ↦
          let man : Man = w.in-Some.man in
          let set : c.if-letter-lt49.men ≡ put men (square_of told) (Some man) =
          w.men-is ∙ (w.set.ensures ∙ ap (λ q. put men q (Some man)) w.at.ensures) in
          record {
            whole = ap length set ∙ (length-put men (square_of told) (Some man) ∙ loop.whole);
            along = λ p whole e.
                let next = told_letter p letter (drop (i + 1) items) men told man (along p whole e) loop.whole
                w.in-Some.ensures.found in
                subst (λ m. IsTold p (drop (i + 1) items) m c.if-letter-lt49.told) (sym set)
                (subst (λ k. IsTold p (drop (i + 1) items) (put men (square_of told) (Some man)) k) (sym w.told-is)
                next.told);
          }
      | in_default+in-Some+else-told-lt64 w ↦ record {
        whole = ap length w.men-is ∙ loop.whole;
        along = λ p whole e.
            subst (λ m. IsTold p (drop (i + 1) items) m c.if-letter-lt49.told) (sym w.men-is)
            (subst (λ k. IsTold p (drop (i + 1) items) men k) (sym w.told-is)
            (keep p whole e (λ n low high digit. elim w.in_default.branch [
              | in_default-via-then-letter-lt49 w' ↦ absurd (omega arith)
              | in_default-via-else-letter-lt49+else-letter-lt57 w' ↦ absurd (omega arith)
            ])
            (λ man is. w.if-told-lt64.false)));
      }
      | in_default+in_default-man_named w ↦ record {
        whole = ap length w.men-is ∙ loop.whole;
        along = λ p whole e.
            subst (λ m. IsTold p (drop (i + 1) items) m c.if-letter-lt49.told) (sym w.men-is)
            (subst (λ k. IsTold p (drop (i + 1) items) men k) (sym w.told-is)
            (keep p whole e (λ n low high digit. elim w.in_default.branch [
              | in_default-via-then-letter-lt49 w' ↦ absurd (omega arith)
              | in_default-via-else-letter-lt49+else-letter-lt57 w' ↦ absurd (omega arith)
            ])
            (λ man is. absurd (w.in_default-man_named.ensures.none man is))));
      }
    ]

pub returns-clause-told : goal.returns-clause-told
returns-clause-told c = λ p whole e.
    let items : List ℕ = c.as_bytes-letter-items.result.now in
    let i : ℕ = c.loop-letter.letter-index in
    let men = c.loop-letter.men in
    let told = c.loop-letter.told in
    let loop = c.loop-letter.invariant in
    let none : drop i items ≡ [] = drop_all i items c.loop-letter-test.false in
    told_end p men told
    (subst (λ rest. IsTold p rest men told) none (loop.along p whole (c.as_bytes-letter-items.ensures.value ∙ e)))
    loop.whole whole
