use Rattle.std.proofs.Common.{ℕ, suc, ◌≡◌, ◌<◌, ◌+◌, ◌-◌, List, [], ◌∷◌, ◌++◌, replicate, append_assoc, sym, ap, ◌∙◌, arith}
use Rattle.night_report.proofs.columns.push_spaces.Goals as goal

one_more : (out more all : List ℕ) (count at : ℕ) → at < count → more ≡ out ++ (32 ∷ []) → out ++ replicate (count - at) 32 ≡ all →
    more ++ replicate (count - (at + 1)) 32 ≡ all
one_more out more all count at below put h =
    let e : count - at ≡ suc (count - (at + 1)) = omega arith in
    ap (λ (xs : List ℕ). xs ++ replicate (count - (at + 1)) 32) put
    ∙ (append_assoc out (32 ∷ []) (replicate (count - (at + 1)) 32) ∙ (sym (ap (λ (n : ℕ). out ++ replicate n 32) e) ∙ h))

pub loop-at-preserved : goal.loop-at-preserved
loop-at-preserved c =
    one_more c.loop-at.out.items _ _ c.args.count c.loop-at.at (omega (arith, c.loop-at-test.true)) c.in_ok-push.ensures.items c.loop-at.invariant
