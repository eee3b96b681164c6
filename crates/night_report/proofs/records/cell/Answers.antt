use Rattle.std.proofs.Common.{ℕ, zero, suc, ◌≡◌, List, [], ◌∷◌, Option, None, Some, get_or, refl, ap, ◌∙◌}
use Rattle.csv.specs.Records.{fields_of, field_at}
use Rattle.night_report.proofs.records.cell.Goals as goal

abbrev or_empty : Option (List ℕ) → List ℕ
or_empty None = []
or_empty (Some field) = field

cell_read : (fields : List (List ℕ)) (i : ℕ) → or_empty (field_at fields i) ≡ get_or fields i []
unfolding field_at
cell_read [] i = refl
cell_read (field ∷ fields) zero = refl
cell_read (field ∷ fields) (suc i) = cell_read fields i

pub returns-in-Some : goal.returns-in-Some
returns-in-Some c = ap or_empty c.in-Some.ensures.value ∙ cell_read (fields_of c.args.row.now) c.args.at

pub returns-in-None : goal.returns-in-None
returns-in-None c = ap or_empty c.in-None.ensures.value ∙ cell_read (fields_of c.args.row.now) c.args.at
