-- A file of the particulars of players: the names of columns, and below them a row for each player.
use Rattle.std.specs.Prelude.{ℕ, suc, ◌≡◌, ◌==◌, Bool, true, false, not, ◌||◌, List, [], ◌∷◌, length, map, codes}
use Rattle.std.specs.Prelude.{Option, None, Some, if◌then◌else◌}
use Rattle.std.specs.Str.{bytes_eq}
use Rattle.csv.specs.Reading.{AreRecords, default_config, strip_bom}
use Rattle.csv.specs.declared.parser.State.TheVariants as st
use Rattle.night_games.specs.declared.roster_faults.RowFault.{RowFault}
use Rattle.night_games.specs.declared.roster_faults.RowFault.TheVariants as row_faults
use Rattle.night_games.specs.declared.roster_faults.RosterFault.{RosterFault}
use Rattle.night_games.specs.declared.roster_faults.RosterFault.TheVariants as faults
use Rattle.night_games.specs.Particulars as row

abbrev pub is_column : List ℕ → Bool
is_column word =
    bytes_eq word (codes "name") || (bytes_eq word (codes "full_name") || (bytes_eq word (codes "sex")
    || (bytes_eq word (codes "title") || (bytes_eq word (codes "rating") || (bytes_eq word (codes "federation")
    || (bytes_eq word (codes "fide_number") || (bytes_eq word (codes "born") || (bytes_eq word (codes "team")
    || bytes_eq word (codes "board")))))))))

abbrev pub stands_among : List ℕ → List (List ℕ) → Bool
stands_among word [] = false
stands_among word (text ∷ texts) = if bytes_eq text word then true else stands_among word texts

-- the first column that has none of these names, or one that stands behind it too; they are numbered from this on
abbrev pub bad_column : ℕ → List (List ℕ) → Option ℕ
bad_column number [] = None
bad_column number (column ∷ columns) =
    if not (is_column column) || stands_among column columns then Some number else bad_column (suc number) columns

-- whether one of these rows has the name of this row
abbrev pub is_named_in : List (List ℕ) → List (List ℕ) → List (List (List ℕ)) → Bool
is_named_in columns fields [] = false
is_named_in columns fields (other ∷ rows) =
    if bytes_eq (row.told columns other (codes "name")) (row.told columns fields (codes "name")) then true
    else is_named_in columns fields rows

abbrev pub or_name : Bool → Option RowFault → Option RowFault
or_name is_twice (Some fault) = Some fault
or_name is_twice None = if is_twice then Some row_faults.NameTwice else None

-- what is wrong with a row, behind which these stand
unfoldable pub row_fault : List (List ℕ) → List (List ℕ) → List (List (List ℕ)) → Option RowFault
row_fault columns fields behind =
    if not (length fields == length columns) then Some row_faults.BadShape
    else or_name (is_named_in columns fields behind) (row.fault_in columns fields)

abbrev pub or_below : ℕ → Option RosterFault → Option RowFault → Option RosterFault
or_below number below (Some fault) = Some (faults.Row number fault)
or_below number below None = below

-- the first fault of rows, which are numbered from this on
abbrev pub fault_below : List (List ℕ) → ℕ → List (List (List ℕ)) → Option RosterFault
fault_below columns number [] = None
fault_below columns number (fields ∷ rows) =
    or_below number (fault_below columns (suc number) rows) (row_fault columns fields rows)

abbrev pub or_rows : Option RosterFault → Option ℕ → Option RosterFault
or_rows below (Some number) = Some (faults.Column number)
or_rows below None = below

-- the first fault of a file, the first row being row 1
unfoldable pub fault_under : List (List ℕ) → List (List (List ℕ)) → Option RosterFault
fault_under columns rows =
    or_rows (if not (stands_among (codes "name") columns) then Some faults.NoNames else fault_below columns 2 rows)
    (bad_column 1 columns)

abbrev pub fault_of : List (List (List ℕ)) → Option RosterFault
fault_of [] = Some faults.NoNames
fault_of (columns ∷ rows) = fault_under columns rows

-- what the rows tell of each player
abbrev pub told : List (List (List ℕ)) → List (List (List ℕ))
told [] = []
told (columns ∷ rows) = map (row.texts_in columns) rows

-- The text is that of these rows (RFC 4180), and nothing is wrong with them.
pub record IsRosterOf (text : List ℕ) (rows : List (List (List ℕ))) : Type 0 where
  pub are : AreRecords default_config st.StartRecord (strip_bom text) rows
  pub right : fault_of rows ≡ None

-- The text is that of rows of which this is the first fault.
pub record HasFault (text : List ℕ) (fault : RosterFault) : Type 0 where
  pub rows : List (List (List ℕ))
  pub are : AreRecords default_config st.StartRecord (strip_bom text) rows
  pub wrong : fault_of rows ≡ Some fault

-- what a fault says of the rows, and of the text; of memory that was refused, and of a text that is none, nothing
abbrev pub IsRowsFault : List (List (List ℕ)) → RosterFault → Type 0
IsRowsFault rows faults.NoNames = fault_of rows ≡ Some faults.NoNames
IsRowsFault rows (faults.Column number) = fault_of rows ≡ Some (faults.Column number)
IsRowsFault rows (faults.Row number fault) = fault_of rows ≡ Some (faults.Row number fault)
IsRowsFault rows faults.NotText = Unit {0}
IsRowsFault rows faults.NoMemory = Unit {0}

abbrev pub IsFault : List ℕ → RosterFault → Type 0
IsFault text faults.NoNames = HasFault text faults.NoNames
IsFault text (faults.Column number) = HasFault text (faults.Column number)
IsFault text (faults.Row number fault) = HasFault text (faults.Row number fault)
IsFault text faults.NotText = Unit {0}
IsFault text faults.NoMemory = Unit {0}

-- a fault of which nothing is said
abbrev pub IsUnread : RosterFault → Type 0
IsUnread faults.NoNames = ⊥
IsUnread (faults.Column number) = ⊥
IsUnread (faults.Row number fault) = ⊥
IsUnread faults.NotText = Unit {0}
IsUnread faults.NoMemory = Unit {0}
