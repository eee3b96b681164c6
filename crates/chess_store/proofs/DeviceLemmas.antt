-- The device from life to life.
use Rattle.std.specs.Prelude.{ℕ, List, [], ◌∷◌, ◌++◌, Option}
use Rattle.std.proofs.Common.{refl, subst, ◌∙◌, arith}
use Rattle.sector_dev.specs.Image.{Sectors, Write}
use Rattle.sector_dev.specs.Device.{State}
use Rattle.chess_store.specs.declared.plan.Life.{Life}
use Rattle.chess_store.specs.declared.plan.LifeReport.{LifeReport}
use Rattle.chess_store.specs.Devices.{HasGoneOn, IsLivedOn, AreLivedOn}

-- nothing happened
pub gone_on-none : (now : State) → HasGoneOn now now
gone_on-none now = record { unstopped = refl; later = omega arith }

-- and on
pub gone_on-more : (old mid new : State) → HasGoneOn old mid → HasGoneOn mid new → HasGoneOn old new
gone_on-more old mid new first second = record {
  unstopped = second.unstopped ∙ first.unstopped;
  later = omega (arith, first.later, second.later);
}

module _ {D : Type 0} (state : D → State) (failures : D → ℕ) (calls_left : D → Option ℕ) (stable : D → Sectors)
    (pending : D → List Write) where
  abbrev One : Life → LifeReport → D → D → Type 0
  One = IsLivedOn state failures calls_left stable pending

  abbrev All : List Life → List LifeReport → D → D → Type 0
  All = AreLivedOn state failures calls_left stable pending

  -- one life more
  pub lived_on-more : (over : List Life) (reports : List LifeReport) (begun between ended : D) (life : Life) (report : LifeReport)
      → All over reports begun between → One life report between ended → All (over ++ life ∷ []) (reports ++ report ∷ []) begun ended
  lived_on-more [] [] begun between ended life report same one =
      (ended, subst (λ (d : D). One life report d ended) same one, refl)
  lived_on-more [] (r ∷ reports) begun between ended life report are one = absurd are
  lived_on-more (l ∷ over) [] begun between ended life report are one = absurd are
  lived_on-more (l ∷ over) (r ∷ reports) begun between ended life report are one =
      (are.0, are.1, lived_on-more over reports are.0 between ended life report are.2 one)
