-- Which lists of entries a table can go through.
use Rattle.std.specs.Prelude.{◌≡◌, ◌≤◌, List, [], ◌∷◌, ◌++◌, IfSome}
use Rattle.rec_codec.specs.declared.limits.Version.TheVariants.{Two}
use Rattle.rec_codec.specs.declared.limits.Limits.{Limits}
use Rattle.rec_codec.specs.Limits.{IsInRange}
use Rattle.player_name.specs.Name.{IsName}
use Rattle.rec_codec.specs.declared.record.Entry.{Entry}
use Rattle.chess_entry.specs.declared.commands.Command.{Command}
use Rattle.chess_entry.specs.declared.verdicts.Verdict.TheVariants.{Enter}
use Rattle.chess_entry.specs.Games.{table_of}
use Rattle.chess_entry.specs.Verdict.{IsVerdict}
use Rattle.chess_entry.specs.Follow.{follow}

-- limits that may have been raised to others
pub record IsWithin (limits raised : Limits) : Type 0 where
  pub in_range : IsInRange Two limits
  pub games : limits.games ≤ raised.games
  pub plies : limits.plies ≤ raised.plies

-- An entry is the verdict on a command by a player with a name, on the table of the entries before it. The limits may
-- have been lower then.
pub record IsEntered (limits : Limits) (before : List Entry) (e : Entry) : Type 0 where
  pub earlier : Limits
  pub within : IsWithin earlier limits
  pub command : Command
  pub named : IfSome command.who IsName
  pub entered : IsVerdict (table_of earlier before) command (Enter e)

-- Each entry is so, at its place.
abbrev pub IsLawful : Limits → List Entry → Type 0
IsLawful limits entries =
    (before : List Entry) (e : Entry) (rest : List Entry) → entries ≡ before ++ e ∷ rest → IsEntered limits before e

-- The table of a lawful list is the table before its last entry, with that entry more.
abbrev pub LawOfFollow : Type 0
LawOfFollow =
    (limits : Limits) (entries : List Entry) (e : Entry) → IsLawful limits (entries ++ e ∷ [])
    → table_of limits (entries ++ e ∷ []) ≡ follow (table_of limits entries) e
