-- What is so of a night while a clerk looks at its games.
use Rattle.std.specs.Prelude.{ℕ, ◌≡◌, Bool, true, false, ◌==◌, ◌&&◌, ◌||◌, List, [], is_some, if◌then◌else◌}
use Rattle.night_archive.specs.Files.{contains}
use Rattle.night_archive.specs.Clerk.{View, is_asked, is_kept}

-- What the clerk takes to be in the archive is safe there, nothing else is, and each game that was seen is. Of a game
-- that the clerk takes to be kept, the archive has the PGN that the table told.
pub record IsTold (now : View) (is_safe is_matched : ℕ → Bool) : Type 0 where
  pub fresh : now.fresh ≡ []
  pub has : (g : ℕ) → now.has g ≡ is_safe g
  pub seen : (g : ℕ) → is_some (now.stage g) ≡ true → is_safe g ≡ true
  pub matched : (g : ℕ) → is_kept (now.stage g) ≡ true → is_matched g ≡ true

-- the same, but that the PGN of one game is asked for
pub record IsAsking (game : ℕ) (now : View) (is_safe is_matched : ℕ → Bool) : Type 0 where
  pub fresh : now.fresh ≡ []
  pub has : (g : ℕ) → now.has g ≡ is_safe g
  pub seen : (g : ℕ) → (game == g) ≡ false → is_some (now.stage g) ≡ true → is_safe g ≡ true
  pub matched : (g : ℕ) → is_kept (now.stage g) ≡ true → is_matched g ≡ true
  pub asked : is_asked (now.stage game) ≡ true

-- Of each game that was seen, whose drop is not to be sent yet, it is settled what comes of it while games are dropped.
abbrev pub AreSettled : View → Bool → (ℕ → Bool) → Type 0
AreSettled now drops is_settled =
    drops ≡ true → (g : ℕ) → is_some (now.stage g) ≡ true → is_kept (now.stage g) ≡ false → is_settled g ≡ true

-- the same, but of one game
abbrev pub AreSettledBut : ℕ → View → Bool → (ℕ → Bool) → Type 0
AreSettledBut game now drops is_settled = drops ≡ true → (g : ℕ) → (game == g) ≡ false →
    is_some (now.stage g) ≡ true → is_kept (now.stage g) ≡ false → is_settled g ≡ true

-- what was so of a game is so still
abbrev pub IsLater : (ℕ → Bool) → (ℕ → Bool) → Type 0
IsLater before after = (g : ℕ) → before g ≡ true → after g ≡ true

-- of each game it is as it was
abbrev pub Stays : (ℕ → Bool) → (ℕ → Bool) → Type 0
Stays before after = (g : ℕ) → after g ≡ before g

-- of one game it is this, and of each other as it was
abbrev pub BecomesAt : ℕ → Bool → (ℕ → Bool) → (ℕ → Bool) → Type 0
BecomesAt game value before after = (g : ℕ) → after g ≡ (if game == g then value else before g)

-- of each other game it is as it was
abbrev pub StaysBut : ℕ → (ℕ → Bool) → (ℕ → Bool) → Type 0
StaysBut game before after = (g : ℕ) → (game == g) ≡ false → after g ≡ before g

-- of one game it is this, and of no other it is so
abbrev pub IsOnlyAt : ℕ → Bool → (ℕ → Bool) → Type 0
IsOnlyAt game value now = (g : ℕ) → now g ≡ (game == g && value)

-- of no game it is so
abbrev pub IsNowhere : (ℕ → Bool) → Type 0
IsNowhere now = (g : ℕ) → now g ≡ false

-- each of these games is so
abbrev pub AreAll : (ℕ → Bool) → List ℕ → Type 0
AreAll is games = (g : ℕ) → contains g games ≡ true → is g ≡ true

-- each of these games is safe in the archive, or has left the table
abbrev pub AreDone : (ℕ → Bool) → (ℕ → Bool) → List ℕ → Type 0
AreDone is_safe has_left games = (g : ℕ) → contains g games ≡ true → (is_safe g || has_left g) ≡ true

-- while games are dropped, it is settled of each of these games what comes of it, or it has left the table
abbrev pub AreSettledOf : Bool → (ℕ → Bool) → (ℕ → Bool) → List ℕ → Type 0
AreSettledOf drops is_settled has_left games =
    drops ≡ true → (g : ℕ) → contains g games ≡ true → (is_settled g || has_left g) ≡ true
