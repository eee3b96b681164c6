-- Writes of a list of sectors, one after the other.
use Rattle.std.proofs.Common.{◌≡◌, ◌≤◌, ◌<◌, ◌+◌, ◌++◌, ◌∷◌, [], sym, ◌∙◌, ap, subst, ℕ, List, length, take, drop, get_or, arith, length-take-le}
use Rattle.std.proofs.lemmas.List.{take_more, take-append-drop}
use Rattle.sector_dev.specs.declared.memory.Call.TheVariants.{Written}
use Rattle.sector_dev.specs.Image.{Sectors, Write}
use Rattle.sector_dev.specs.Memory.{Disk, step}
use Rattle.sector_dev.specs.Device.{State, IsCoherent, WithOrWithout, IsPending, MayBePending}
use Rattle.sector_dev.specs.Runs.{WithWrites, ArePending}
use Rattle.sector_dev.proofs.Runs.{with_more, during_more, more_pending, more_failed}
use Rattle.test_disk.specs.Changes.{writes_from}

writes_from-append : (at : ℕ) (xs ys : List (List ℕ))
    → writes_from at (xs ++ ys) ≡ writes_from at xs ++ writes_from (at + length xs) ys
writes_from-append at [] ys =
    let same : at ≡ at + length {A = List ℕ} [] = omega arith in
    ap (λ (n : ℕ). writes_from n ys) same
writes_from-append at (x ∷ xs) ys =
    let same : (at + 1) + length xs ≡ at + length (x ∷ xs) = omega arith in
    ap (λ (ws : List Write). record { sector = at; value = x } ∷ ws)
    (writes_from-append (at + 1) xs ys ∙ ap (λ (n : ℕ). writes_from (at + 1) xs ++ writes_from n ys) same)

-- the writes of one more of these values
pub writes_more : (from : ℕ) (values : List (List ℕ)) (i at : ℕ) → i < length values → at ≡ from + i
    → writes_from from (take (i + 1) values)
    ≡ writes_from from (take i values) ++ record { sector = at; value = get_or values i [] } ∷ []
writes_more from values i at lt is_at =
    let same : from + length (take i values) ≡ at =
    omega (arith, length-take-le i values (omega (arith, lt)), is_at) in
    ap (writes_from from) (take_more values i [] lt)
    ∙ (writes_from-append from (take i values) (get_or values i [] ∷ [])
    ∙ ap (λ (n : ℕ). writes_from from (take i values) ++ record { sector = n; value = get_or values i [] } ∷ []) same)

-- a device in memory after one write more
pub one_noted : (d : Disk) (stable : Sectors) (values : List (List ℕ)) (i at : ℕ) → i < length values → at ≡ i
    → d ≡ record { stable = stable; pending = writes_from 0 (take i values) }
    → step d (Written at (get_or values i []))
    ≡ record { stable = stable; pending = writes_from 0 (take (i + 1) values) }
one_noted d stable values i at lt is_at is =
    ap (λ (e : Disk). step e (Written at (get_or values i []))) is
    ∙ ap (λ (ws : List Write). let e : Disk = record { stable = stable; pending = ws } in e)
    (sym (writes_more 0 values i at lt (omega (arith, is_at))))

-- One write more, at place `i` of the list.
module _ (old mid : State) (count : ℕ) (laws : IsCoherent count old) (model : old.keeps_model)
    (from : ℕ) (sectors : List (List ℕ)) (fit : from + length sectors ≤ count)
    (i at : ℕ) (lt : i < length sectors) (is_at : at ≡ from + i)
    (pending : ArePending (writes_from from (take i sectors)) old mid) where
  abbrev here : Write
  here = record { sector = at; value = get_or sectors i [] }

  within : (d : Sectors) → old.image d → at < length d
  within d was = omega (arith, laws.image_size d model was, fit, lt, is_at)

  next : writes_from from (take (i + 1) sectors) ≡ writes_from from (take i sectors) ++ here ∷ []
  next = writes_more from sectors i at lt is_at

  among_all : (c : Sectors) → WithWrites (writes_from from (take i sectors) ++ here ∷ []) old.image c
      → WithWrites (writes_from from sectors) old.image c
  among_all c h =
      let split = writes_from-append from (take (i + 1) sectors) (drop (i + 1) sectors) in
      subst (λ (xs : List (List ℕ)). WithWrites (writes_from from xs) old.image c) (take-append-drop (i + 1) sectors)
      (subst (λ (ws : List Write). WithWrites ws old.image c) (sym split)
      (with_more (writes_from from (take (i + 1) sectors))
      (writes_from (from + length (take (i + 1) sectors)) (drop (i + 1) sectors)) old.image c
      (subst (λ (ws : List Write). WithWrites ws old.image c) (sym next) h)))

  pub during_one : (c : Sectors) → WithOrWithout at (get_or sectors i []) mid.image c
      → WithWrites (writes_from from sectors) old.image c
  during_one c h =
      among_all c (during_more old mid mid (writes_from from (take i sectors)) here pending within c h)

  pub one_pending : (new : State) → IsPending at (get_or sectors i []) mid new
      → ArePending (writes_from from (take (i + 1) sectors)) old new
  one_pending new last =
      subst (λ (ws : List Write). ArePending ws old new) (sym next)
      (more_pending old mid new (writes_from from (take i sectors)) here pending within last)

  pub one_failed : (new : State) → MayBePending at (get_or sectors i []) mid new → (c : Sectors) → new.image c
      → WithWrites (writes_from from sectors) old.image c
  one_failed new failed c now =
      among_all c (more_failed old mid new (writes_from from (take i sectors)) here pending within failed c now)
