-- What the clerk knows, and what it does.
use Rattle.std.specs.Prelude.{ℕ, ◌≡◌, Bool, true, false, ◌&&◌, ◌||◌, not, ◌==◌, List, [], ◌∷◌, ◌++◌, Option, None, Some}
use Rattle.std.specs.Prelude.{is_none, if◌then◌else◌}
use Rattle.std.specs.BTreeMap as map
use Rattle.std.specs.BTreeSet as set
use Rattle.std.specs.Ordering.{nat_cmp}
use Rattle.night_archive.specs.declared.clerk.Stage.{Stage}
use Rattle.night_archive.specs.declared.clerk.Stage.TheVariants as stages
use Rattle.night_archive.specs.declared.clerk.Clerk.{Clerk}
use Rattle.night_archive.specs.Steps.{Step, Begun, Over, Came, Refused, Synced, Left}
use Rattle.night_archive.specs.Files.{contains}

-- Which games stand in the archive, those of them that were handed to it since the last sync that has answered, and how
-- far each game is that was seen to be over.
pub record View : Type 0 where
  pub has : ℕ → Bool
  pub fresh : List ℕ
  pub stage : ℕ → Option Stage

abbrev pub view : Clerk → View
view clerk = record {
  has = λ game. set.contains nat_cmp clerk.kept game;
  fresh = clerk.fresh.items;
  stage = λ game. map.get nat_cmp clerk.stages game;
}

abbrev pub is_asked : Option Stage → Bool
is_asked (Some stages.Asked) = true
is_asked _ = false

abbrev pub is_kept : Option Stage → Bool
is_kept (Some stages.Kept) = true
is_kept _ = false

-- whether the PGN of a game that is seen to be over is asked for: it was not seen before, and is not in the archive, or
-- is to be compared with what stands there
abbrev pub asks : View → ℕ → Bool → Bool
asks old game droppable = is_none (old.stage game) && (droppable || not (old.has game))

-- whether a PGN that has come is handed to the archive: it was asked for, and is not there
abbrev pub puts : View → ℕ → Bool
puts old game = is_asked (old.stage game) && not (old.has game)

-- whether a drop is sent: the game was handed to the archive or compared with what stands there, it stands there, and a
-- sync has answered since it was handed over
abbrev pub drops : View → ℕ → Bool
drops old game = is_kept (old.stage game) && (old.has game && not (contains game old.fresh))

-- how far a game is that is seen to be over
abbrev pub seen : View → ℕ → Bool → Option Stage
seen old game droppable =
    if is_none (old.stage game) then (if droppable || not
    (old.has game) then Some stages.Asked else Some stages.Found) else old.stage game

-- how far it is when its PGN has come
abbrev pub come : View → ℕ → Bool → Option Stage
come old game same =
    if is_asked (old.stage game) then (if old.has game
    && not same then Some stages.Found else Some stages.Kept) else old.stage game

abbrev pub left : View → ℕ → Option Stage
left old game = if drops old game then Some stages.Dropped else old.stage game

-- nothing changes but how far one game is
pub record IsStaged (old : View) (game : ℕ) (stage : Option Stage) (new : View) : Type 0 where
  pub has : (g : ℕ) → new.has g ≡ old.has g
  pub fresh : new.fresh ≡ old.fresh
  pub stage_is : (g : ℕ) → new.stage g ≡ (if game == g then stage else old.stage g)

-- a clerk that begins
pub record Begins (archive : List ℕ) (new : View) : Type 0 where
  pub has : (g : ℕ) → new.has g ≡ contains g archive
  pub fresh : new.fresh ≡ archive
  pub stage_is : (g : ℕ) → new.stage g ≡ None

-- a PGN that has come
pub record IsCome (old : View) (game : ℕ) (same puts : Bool) (new : View) : Type 0 where
  pub has : (g : ℕ) → new.has g ≡ (if puts && game == g then true else old.has g)
  pub fresh : new.fresh ≡ (if puts then old.fresh ++ game ∷ [] else old.fresh)
  pub stage_is : (g : ℕ) → new.stage g ≡ (if game == g then come old game same else old.stage g)

-- a sync that has answered
pub record IsSynced (old new : View) : Type 0 where
  pub has : (g : ℕ) → new.has g ≡ old.has g
  pub fresh : new.fresh ≡ []
  pub stage_is : (g : ℕ) → new.stage g ≡ old.stage g

-- what the clerk decides about what happens, and what it knows then
abbrev pub IsStep : View → Step → View → Type 0
IsStep old (Begun archive) new = Begins archive new
IsStep old (Over game droppable says) new =
    (says ≡ asks old game droppable) × IsStaged old game (seen old game droppable) new
IsStep old (Came game same says) new = (says ≡ puts old game) × IsCome old game same says new
IsStep old (Refused game) new = IsStaged old game None new
IsStep old Synced new = IsSynced old new
IsStep old (Left game says) new = (says ≡ drops old game) × IsStaged old game (left old game) new

-- no clerk has begun, and steps from there on
pub record IsNothing (now : View) : Type 0 where
  pub has : (g : ℕ) → now.has g ≡ false
  pub fresh : now.fresh ≡ []
  pub stage_is : (g : ℕ) → now.stage g ≡ None

abbrev pub IsRun : List Step → View → Type 0
IsRun [] now = IsNothing now
IsRun (s ∷ past) now = (before : View) × IsRun past before × IsStep before s now
