-- Rows are read one after another.
use Rattle.std.proofs.Common.{ℕ, suc, ◌≡◌, ◌<◌, ◌+◌, true, List, [], ◌∷◌, length, get_or, map, drop, drop-cons, Result, Ok, Err, IfOk, IfErr, Vec, Global, sym, ap, ◌∙◌, subst, arith}
use Rattle.csv.specs.Records.{Row, fields_of}
use Rattle.night_rounds.specs.declared.rows.Pairing.{Pairing}
use Rattle.night_rounds.specs.declared.faults.RowFault.{RowFault}
use Rattle.night_rounds.specs.declared.faults.Fault.{Fault}
use Rattle.night_rounds.specs.declared.faults.Fault.TheVariants as faults
use Rattle.night_rounds.specs.Rows.{is_header}
use Rattle.night_rounds.specs.Round.{take_row, behind, rows_in, round_in, AreRowsOf, IsRowsFault, IsBelowFault, IsRoundOf, IsFault, IsUnread}

-- the row at a place is read next
opened : (rows : List Row) (i n : ℕ) (d : Row) (before : List Pairing) → i < length rows → d ≡ get_or rows i d →
    rows_in before n (map fields_of (drop i rows))
    ≡ behind (λ ps. rows_in ps (suc n) (map fields_of (drop (suc i) rows))) n (take_row before (fields_of d))
opened rows i n d before below is =
    ap (λ (rs : List Row). rows_in before n (map fields_of rs)) (drop-cons rows i d below)
    ∙ ap (λ (r : Row). behind (λ ps. rows_in ps (suc n) (map fields_of (drop (suc i) rows))) n (take_row before (fields_of r))) (sym is)

pub rows_on : (rows : List Row) (i : ℕ) (d : Row) (before after : List Pairing) (all : Result (List Pairing) Fault) → i < length rows →
    d ≡ get_or rows i d → take_row before (fields_of d) ≡ Ok after → rows_in before (i + 2) (map fields_of (drop i rows)) ≡ all →
    rows_in after (i + 1 + 2) (map fields_of (drop (i + 1) rows)) ≡ all
rows_on rows i d before after all below is takes h =
    let n : i + 1 + 2 ≡ suc (i + 2) = omega arith in
    let m : i + 1 ≡ suc i = omega arith in
    ap (λ (k : ℕ). rows_in after k (map fields_of (drop (i + 1) rows))) n
    ∙ (ap (λ (k : ℕ). rows_in after (suc (i + 2)) (map fields_of (drop k rows))) m
    ∙ (sym (ap (λ (r : Result (List Pairing) RowFault). behind (λ ps. rows_in ps (suc (i + 2)) (map fields_of (drop (suc i) rows))) (i + 2) r) takes)
    ∙ (sym (opened rows i (i + 2) d before below is) ∙ h)))

pub rows_stop : (rows : List Row) (i : ℕ) (d : Row) (before : List Pairing) (fault : RowFault) (all : Result (List Pairing) Fault) → i < length rows →
    d ≡ get_or rows i d → take_row before (fields_of d) ≡ Err fault → rows_in before (i + 2) (map fields_of (drop i rows)) ≡ all →
    all ≡ Err (faults.Row (i + 2) fault)
rows_stop rows i d before fault all below is takes h =
    sym h ∙ (opened rows i (i + 2) d before below is
    ∙ ap (λ (r : Result (List Pairing) RowFault). behind (λ ps. rows_in ps (suc (i + 2)) (map fields_of (drop (suc i) rows))) (i + 2) r) takes)

-- what comes of all rows is what comes of the text
pub told_round : (text : List ℕ) (rows slice : List Row) (r : Result (Vec Pairing Global) Fault) → AreRowsOf text (map fields_of rows) → slice ≡ rows →
    IfOk r (λ ps. round_in (map fields_of slice) ≡ Ok ps.items) → IfOk r (λ ps. IsRoundOf text ps.items)
told_round text rows slice (Ok ps) are same h = record {
  rows = map fields_of rows;
  are = are;
  paired = ap (λ (rs : List Row). round_in (map fields_of rs)) (sym same) ∙ h;
}
told_round text rows slice (Err fault) are same h = tt

fault_of : (text : List ℕ) (rows : List (List (List ℕ))) (fault : Fault) → AreRowsOf text rows → IsRowsFault rows fault → IsFault text fault
fault_of text rows faults.NoHeader are h = record { rows = rows; are = are; wrong = h }
fault_of text rows (faults.Row number fault) are h = record { rows = rows; are = are; wrong = h }
fault_of text rows faults.NotText are h = tt
fault_of text rows faults.NoMemory are h = tt

pub told_fault : (text : List ℕ) (rows slice : List Row) (r : Result (Vec Pairing Global) Fault) → AreRowsOf text (map fields_of rows) → slice ≡ rows →
    IfErr r (IsRowsFault (map fields_of slice)) → IfErr r (IsFault text)
told_fault text rows slice (Ok ps) are same h = tt
told_fault text rows slice (Err fault) are same h =
    fault_of text (map fields_of rows) fault are (subst (λ (rs : List Row). IsRowsFault (map fields_of rs) fault) same h)

pub unread_fault : (text : List ℕ) (fault : Fault) → IsUnread fault → IsFault text fault
unread_fault text faults.NoHeader h = absurd h
unread_fault text (faults.Row number fault) h = absurd h
unread_fault text faults.NotText h = tt
unread_fault text faults.NoMemory h = tt

-- the first row and those below it
below_fault : (header : Row) (rows : List (List (List ℕ))) (fault : Fault) → is_header (fields_of header) ≡ true → IsBelowFault rows fault →
    IsRowsFault (fields_of header ∷ rows) fault
below_fault header rows faults.NoHeader e h = absurd h
below_fault header rows (faults.Row number fault) e h = rw e h
below_fault header rows faults.NotText e h = tt
below_fault header rows faults.NoMemory e h = tt

pub under_ok : (header : Row) (rows : List (List (List ℕ))) (r : Result (Vec Pairing Global) Fault) → is_header (fields_of header) ≡ true →
    IfOk r (λ ps. rows_in [] 2 rows ≡ Ok ps.items) → IfOk r (λ ps. round_in (fields_of header ∷ rows) ≡ Ok ps.items)
under_ok header rows (Ok ps) e h = rw e h
under_ok header rows (Err fault) e h = tt

pub under_err : (header : Row) (rows : List (List (List ℕ))) (r : Result (Vec Pairing Global) Fault) → is_header (fields_of header) ≡ true →
    IfErr r (IsBelowFault rows) → IfErr r (IsRowsFault (fields_of header ∷ rows))
under_err header rows (Ok ps) e h = tt
under_err header rows (Err fault) e h = below_fault header rows fault e h
