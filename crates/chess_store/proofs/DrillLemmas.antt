-- The cases of the drill, and their tally.
use Rattle.std.specs.Prelude.{ℕ, ◌≡◌, ◌+◌, List, [], ◌∷◌, ◌++◌, map, length, Ok, Err, Result, IfErr}
use Rattle.std.proofs.Common.{arith, ap, refl, sym, subst, ◌∙◌, Vec, Global}
use Rattle.std.proofs.lemmas.List.{length-map}
use Rattle.sector_dev.specs.declared.memory.MemoryDevice.{MemoryDevice}
use Rattle.chess_board.specs.Legal.{EachOf}
use Rattle.chess_entry.specs.declared.commands.Command.{Command}
use Rattle.chess_store.specs.declared.fault.StoreFault.{StoreFault}
use Rattle.chess_store.specs.declared.plan.Life.{Life}
use Rattle.chess_store.specs.declared.plan.Lived.{Lived}
use Rattle.chess_store.specs.declared.plan.Report.{Report}
use Rattle.chess_store.specs.declared.drilling.Tally.{Tally}
use Rattle.chess_store.specs.Courses.{IsSubmittable}
use Rattle.chess_store.specs.Lives.{AreSubmittable, batches_of}
use Rattle.chess_store.specs.Drill.{IsCase, AreCases, IsTold, IsFaultInMemory}
use Rattle.chess_store.specs.DrillLife.{IsDrillLife, shown, opening_batch, moves_batch}

-- ---- its batches may be submitted

lengths : (batches : List (List Command)) → map length (map (map shown) batches) ≡ map length batches
lengths [] = refl
lengths (one ∷ batches) =
    ap (λ (n : ℕ). n ∷ map length (map (map shown) batches)) (length-map one shown)
    ∙ ap (λ (ns : List ℕ). length one ∷ ns) (lengths batches)

batches_fit : (batches : List (List Command)) → map length batches ≡ 2 ∷ 5 ∷ [] → EachOf IsSubmittable batches
batches_fit [] is = absurd (cc)
batches_fit (one ∷ []) is = absurd (cc)
batches_fit (one ∷ two ∷ []) is =
    let first : length one ≡ 2 = cc in
    let second : length two ≡ 5 = cc in (
      record { some = omega (arith, first); few = omega (arith, first) },
      (record { some = omega (arith, second); few = omega (arith, second) }, tt),
    )
batches_fit (one ∷ two ∷ three ∷ more) is = absurd (cc)

pub drill_submittable : (case : ℕ) (lives : List Life) (life : Life) → lives ≡ life ∷ [] → IsDrillLife case life
    → AreSubmittable lives
drill_submittable case lives life alone is =
    let many : map length (batches_of life) ≡ 2 ∷ 5 ∷ [] =
    sym (lengths (batches_of life)) ∙ ap (λ (bs : List (List Command)). map length bs) is.batches in
    subst (λ (ls : List Life). AreSubmittable ls) (sym alone) (batches_fit (batches_of life) many, tt)

pub drill_batches : (batches : List (Vec Command Global)) (one two : Vec Command Global) → batches ≡ one ∷ two ∷ []
    → one.items ≡ opening_batch → map shown two.items ≡ moves_batch
    → map (map shown) (map (λ b. b.items) batches) ≡ opening_batch ∷ moves_batch ∷ []
drill_batches batches one two are first second =
    ap (λ (bs : List (Vec Command Global)). map (map shown) (map (λ b. b.items) bs)) are
    ∙ ap (λ (c : List Command). map shown c ∷ map shown two.items ∷ []) first
    ∙ ap (λ (c : List Command). opening_batch ∷ c ∷ []) second

-- ---- one case more

pub AreCases-more : (first next : ℕ) (cases : List (Lived MemoryDevice)) (case : Lived MemoryDevice)
    → AreCases first cases → next ≡ first + length cases → IsCase next case → AreCases first (cases ++ case ∷ [])
AreCases-more first next [] case are at is =
    let same : next ≡ first = omega (arith, at) in
    (subst (λ (n : ℕ). IsCase n case) same is, tt)
AreCases-more first next (c ∷ cases) case are at is =
    (are.0, AreCases-more (first + 1) next cases case are.1 (omega (arith, at)) is)

-- ---- the faults

case_among : (first : ℕ) (front others : List (Lived MemoryDevice)) (case : Lived MemoryDevice)
    → AreCases first (front ++ case ∷ others) → IfErr case.report IsFaultInMemory
case_among first [] others case are = are.0.is_lived.fault
case_among first (c ∷ front) others case are = case_among (first + 1) front others case are.1

pub told_fault : (cases : List (Lived MemoryDevice)) (told : Result Tally StoreFault) → AreCases 0 cases
    → IsTold cases told → IfErr told IsFaultInMemory
told_fault cases (Ok tally) are is = tt
told_fault cases (Err fault) are is =
    subst (λ (r : Result Report StoreFault). IfErr r IsFaultInMemory) is.is
    (case_among 0 is.front is.others is.case
    (subst (λ (cs : List (Lived MemoryDevice)). AreCases 0 cs) is.order are))
