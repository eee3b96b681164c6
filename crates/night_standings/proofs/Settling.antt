-- Places that the direct encounter leaves as they are stay so, however often it is looked at anew.
use Rattle.std.proofs.Common.{ℕ, zero, suc, ◌≡◌, ◌<◌, ◌+◌, ◌-◌, List, true, refl, ap, sym, ◌∙◌, arith}
use Rattle.std.specs.Str.{bytes_eq}
use Rattle.std.proofs.lemmas.Slice.Eq.{bytes_eq-Decides}
use Rattle.night_report.specs.declared.cells.Meeting.{Meeting}
use Rattle.night_standings.specs.Places.{once, settled}

stays : (rounds : List (List Meeting)) (count : ℕ) (places : List ℕ) (at more all : ℕ) → all ≡ at + more →
    once rounds count (settled rounds count at places) ≡ settled rounds count at places →
    settled rounds count all places ≡ settled rounds count at places
stays rounds count places at zero all sum fixed =
    let e : all ≡ at = omega (arith, sum) in ap (λ (n : ℕ). settled rounds count n places) e
stays rounds count places at (suc more) all sum fixed =
    let e : all ≡ suc (at + more) = omega (arith, sum) in
    ap (λ (n : ℕ). settled rounds count n places) e
    ∙ (ap (once rounds count) (stays rounds count places at more (at + more) refl fixed) ∙ fixed)

pub ends : (rounds : List (List Meeting)) (count at : ℕ) (places before next : List ℕ) → at < count →
    before ≡ settled rounds count at places → next ≡ once rounds count before → bytes_eq next before ≡ true →
    next ≡ settled rounds count count places
ends rounds count at places before next below so_far step same =
    let e : next ≡ before = (bytes_eq-Decides next before).0 same in
    let more : count ≡ at + (count - at) = omega (arith, below) in
    let fixed : once rounds count (settled rounds count at places) ≡ settled rounds count at places =
    ap (once rounds count) (sym so_far) ∙ (sym step ∙ (e ∙ so_far)) in
    e ∙ (so_far ∙ sym (stays rounds count places at (count - at) count more fixed))
