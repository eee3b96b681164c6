-- What is wrong with the rows of a text is wrong with the text.
use Rattle.std.proofs.Common.{ℕ, ◌≡◌, List, map, None, Some, Result, Ok, Err, IfOk, IfErr, Vec, Global, sym}
use Rattle.csv.specs.Reading.{AreRecords, default_config, strip_bom}
use Rattle.csv.specs.Records.{Row, fields_of}
use Rattle.csv.specs.declared.parser.State.TheVariants as st
use Rattle.night_games.specs.declared.roster.Roster.{Roster}
use Rattle.night_games.specs.declared.roster_faults.RosterFault.{RosterFault}
use Rattle.night_games.specs.declared.roster_faults.RosterFault.TheVariants as faults
use Rattle.night_games.specs.Roster.{fault_of, IsRosterOf, IsRowsFault, IsFault, IsUnread}

pub is_fault : (rows : List (List (List ℕ))) (fault : RosterFault) → Some fault ≡ fault_of rows → IsRowsFault rows fault
is_fault rows faults.NoNames h = sym h
is_fault rows (faults.Column number) h = sym h
is_fault rows (faults.Row number fault) h = sym h
is_fault rows faults.NotText h = tt
is_fault rows faults.NoMemory h = tt

of_text : (text : List ℕ) (rows : List (List (List ℕ))) (fault : RosterFault) →
    AreRecords default_config st.StartRecord (strip_bom text) rows → IsRowsFault rows fault → IsFault text fault
of_text text rows faults.NoNames are h = record { rows = rows; are = are; wrong = h }
of_text text rows (faults.Column number) are h = record { rows = rows; are = are; wrong = h }
of_text text rows (faults.Row number fault) are h = record { rows = rows; are = are; wrong = h }
of_text text rows faults.NotText are h = tt
of_text text rows faults.NoMemory are h = tt

pub told_fault : (text : List ℕ) (rows : List (List (List ℕ))) (r : Result Roster RosterFault) →
    AreRecords default_config st.StartRecord (strip_bom text) rows → IfErr r (IsRowsFault rows) → IfErr r (IsFault text)
told_fault text rows (Ok roster) are h = tt
told_fault text rows (Err fault) are h = of_text text rows fault are h

pub told_roster : (text : List ℕ) (rows : Vec Row Global) (r : Result Roster RosterFault) →
    AreRecords default_config st.StartRecord (strip_bom text) (map fields_of rows.items) →
    IfOk r (λ roster. (roster.rows ≡ rows) × (fault_of (map fields_of rows.items) ≡ None)) →
    IfOk r (λ roster. IsRosterOf text (map fields_of roster.rows.items))
told_roster text rows (Ok roster) are h = rw h.0 (record { are = are; right = h.1 })
told_roster text rows (Err fault) are h = tt

pub unread_fault : (text : List ℕ) (fault : RosterFault) → IsUnread fault → IsFault text fault
unread_fault text faults.NoNames h = absurd h
unread_fault text (faults.Column number) h = absurd h
unread_fault text (faults.Row number fault) h = absurd h
unread_fault text faults.NotText h = tt
unread_fault text faults.NoMemory h = tt
