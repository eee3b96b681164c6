-- What the archive holds. The past is told from its newest step back.
use Rattle.std.specs.Prelude.{ℕ, Bool, ◌==◌, List, [], ◌∷◌, ◌++◌, if◌then◌else◌}
use Rattle.std.specs.List.{list_any}
use Rattle.night_files.specs.File.{IsShown}
use Rattle.night_archive.specs.Steps.{Step, Begun, Came, Synced}

-- whether a game is among games
abbrev pub contains : ℕ → List ℕ → Bool
contains game games = list_any (λ one. one == game) games

-- the games of the archive, in the order in which they were handed over
abbrev pub archive_after : Step → List ℕ → List ℕ
archive_after (Begun archive) games = archive
archive_after (Came game same puts) games = if puts then games ++ game ∷ [] else games
archive_after _ games = games

abbrev pub archive_in : List Step → List ℕ
archive_in [] = []
archive_in (s ∷ past) = archive_after s (archive_in past)

-- what of it is safe: all that was handed over before the last sync that has answered
abbrev pub safe_after : Step → List ℕ → List ℕ → List ℕ
safe_after Synced all safe = all
safe_after _ all safe = safe

abbrev pub safe_in : List Step → List ℕ
safe_in [] = []
safe_in (s ∷ past) = safe_after s (archive_in past) (safe_in past)

-- what of it a clerk does not know to be safe: what it found when it began, and what it handed over, since its last
-- sync that has answered
abbrev pub fresh_after : Step → List ℕ → List ℕ
fresh_after (Begun archive) games = archive
fresh_after (Came game same puts) games = if puts then games ++ game ∷ [] else games
fresh_after Synced games = []
fresh_after _ games = games

abbrev pub fresh_in : List Step → List ℕ
fresh_in [] = []
fresh_in (s ∷ past) = fresh_after s (fresh_in past)

-- The file, when a clerk begins: it shows all that is safe, and no more than was handed to it, in that order. What was
-- handed over and is not safe may be there or not, up to some place.
abbrev pub IsHonestStep : Step → List Step → Type 0
IsHonestStep (Begun archive) past = IsShown (safe_in past) (archive_in past) archive
IsHonestStep _ past = Unit {0}

-- at each step
abbrev pub IsHonest : List Step → Type 0
IsHonest [] = Unit {0}
IsHonest (s ∷ past) = IsHonestStep s past × IsHonest past
