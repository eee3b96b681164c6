-- Runs with one more in front, and the records that hold them.
use Rattle.std.specs.Prelude.{ℕ, ◌≡◌, ◌≤◌, ◌<◌, ◌+◌, ◌-◌, min, List, [], ◌∷◌, ◌++◌, length, map}
use Rattle.std.proofs.Common.{arith, ap, sym, subst, ◌∙◌, refl, length-append, append_assoc, drop, get_or}
use Rattle.std.proofs.Math.ListN.{drop_of_length-le}
use Rattle.std.proofs.lemmas.List.{append-nil}
use Rattle.rec_codec.specs.Limits.{ceiling}
use Rattle.chess_board.specs.declared.moves.Move.{Move}
use Rattle.rec_codec.specs.declared.record.Record.{Record}
use Rattle.rec_codec.specs.declared.record.Moves.{Moves}
use Rattle.chess_entry.specs.Snapshot.{AreRuns, moves_record}
use Rattle.chess_entry.proofs.LawfulLists.{nil-not_around}
use Rattle.chess_entry.proofs.OneMeaning.{moves_part}
use Rattle.chess_entry.proofs.Places.{drop_at}
use Rattle.chess_entry.proofs.SnapshotSize.{joined_runs}
use Rattle.chess_table.specs.Part.{HoldsMoves}

pub AreRuns-none : AreRuns [] []
AreRuns-none = record {
  joined = refl;
  some = λ before rest run is. absurd (nil-not_around before run rest is);
  full = λ before rest run next is. absurd (nil-not_around before run (next ∷ rest) is);
}

-- Runs after a first one have moves.
length-next : (rest : List Move) (next : List Move) (more runs : List (List Move)) → AreRuns rest runs →
    runs ≡ next ∷ more → 1 ≤ length rest
length-next rest next more runs are is =
    let one : 1 ≤ length next = (are.some [] more next is).0 in
    let whole : length (joined_runs (next ∷ more)) ≡ length rest =
    ap (λ (rs : List (List Move)). length (joined_runs rs)) (sym is) ∙ ap length are.joined in
    omega (arith, length-append next (joined_runs more))

some_at : (run rest : List Move) (runs : List (List Move)) → 1 ≤ length run → length run ≤ 60 → AreRuns rest runs →
    (before after : List (List Move)) (r : List Move) → run ∷ runs ≡ before ++ r ∷ after →
    (1 ≤ length r) × (length r ≤ 60)
some_at run rest runs low high are [] after r is =
    let same : run ≡ r = cc in
    subst (λ (x : List Move). (1 ≤ length x) × (length x ≤ 60)) same (low, high)
some_at run rest runs low high are (y ∷ before) after r is =
    let tail : runs ≡ before ++ r ∷ after = cc in
    are.some before after r tail

full_at : (run rest : List Move) (runs : List (List Move)) → (1 ≤ length rest → length run ≡ 60) → AreRuns rest runs →
    (before after : List (List Move)) (r next : List Move) → run ∷ runs ≡ before ++ r ∷ next ∷ after → length r ≡ 60
full_at run rest runs whole are [] after r next is =
    let same : run ≡ r = cc in
    let tail : runs ≡ next ∷ after = cc in
    ap length (sym same) ∙ whole (length-next rest next after runs are tail)
full_at run rest runs whole are (y ∷ before) after r next is =
    let tail : runs ≡ before ++ r ∷ next ∷ after = cc in
    are.full before after r next tail

-- a run of 60 moves, or of all that there are
pub AreRuns-cons : (run rest : List Move) (runs : List (List Move)) → length run ≡ min 60 (length run + length rest) →
    1 ≤ length run → AreRuns rest runs → AreRuns (run ++ rest) (run ∷ runs)
AreRuns-cons run rest runs most low are = record {
  joined = ap (λ (ms : List Move). run ++ ms) are.joined;
  some = some_at run rest runs low (omega arith) are;
  full = full_at run rest runs (λ more. omega arith) are;
}

-- what runs with a first one are
pub record IsRunMore (moves run : List Move) (runs : List (List Move)) : Type 0 where
  pub rest : List Move
  pub parts : moves ≡ run ++ rest
  pub some : 1 ≤ length run
  pub most : length run ≡ min 60 (length moves)
  pub cut : AreRuns rest runs

most_of : (run : List Move) (runs : List (List Move)) (moves : List Move) → AreRuns moves (run ∷ runs) →
    length run ≡ min 60 (length moves)
most_of run [] moves are =
    let whole : length (run ++ []) ≡ length moves = ap length are.joined in
    let bounds = are.some [] [] run refl in
    let high : length run ≤ 60 = bounds.1 in
    omega (arith, length-append run [])
most_of run (next ∷ runs) moves are =
    let whole : length (run ++ joined_runs (next ∷ runs)) ≡ length moves = ap length are.joined in
    let full : length run ≡ 60 = are.full [] runs run next refl in
    omega (arith, length-append run (joined_runs (next ∷ runs)))

pub AreRuns-uncons : (moves run : List Move) (runs : List (List Move)) → AreRuns moves (run ∷ runs) →
    IsRunMore moves run runs
AreRuns-uncons moves run runs are = record {
  rest = joined_runs runs;
  parts = sym are.joined;
  some = (are.some [] runs run refl).0;
  most = most_of run runs moves are;
  cut = record {
    joined = refl;
    some = λ before after r is. are.some (run ∷ before) after r (ap (λ (rs : List (List Move)). run ∷ rs) is);
    full = λ before after r next is.
        are.full (run ∷ before) after r next (ap (λ (rs : List (List Move)). run ∷ rs) is);
  };
}

-- ---- records of runs

pub HoldsMoves-none : (number : ℕ) → HoldsMoves number 0 [] []
HoldsMoves-none number = record { runs = []; cut = AreRuns-none; kept = refl; size = refl }

pub HoldsMoves-cons : (number many : ℕ) (run more : List Move) (records : List Record) → 1 ≤ many →
    length run ≡ min 60 many → HoldsMoves number (many - length run) records more →
    HoldsMoves number many (moves_record number run ∷ records) (run ++ more)
HoldsMoves-cons number many run more records low most holds =
    let short : length more ≡ many - length run = holds.size in
    record {
      runs = run ∷ holds.runs;
      cut = AreRuns-cons run more holds.runs (omega arith) (omega arith) holds.cut;
      kept = ap (λ (rs : List Record). moves_record number run ∷ rs) holds.kept;
      size = omega (arith, length-append run more);
    }

-- what the records of runs with a first one are
pub record HoldsRunMore (number many : ℕ) (first : Record) (records : List Record) (all : List Move) : Type 0 where
  pub run : List Move
  pub more : List Move
  pub is : first ≡ moves_record number run
  pub most : length run ≡ min 60 many
  pub parts : all ≡ run ++ more
  pub rest : HoldsMoves number (many - length run) records more

uncons : (number many : ℕ) (first : Record) (records : List Record) (all : List Move) (runs : List (List Move)) →
    AreRuns all runs → first ∷ records ≡ map (moves_record number) runs → length all ≡ many →
    HoldsRunMore number many first records all
uncons number many first records all [] cut is size = absurd (let no : first ∷ records ≡ [] = is in cc)
uncons number many first records all (run ∷ runs) cut is size =
    let more = AreRuns-uncons all run runs cut in
    let both : first ∷ records ≡ moves_record number run ∷ map (moves_record number) runs = is in
    let whole : length all ≡ length (run ++ more.rest) = ap length more.parts in
    record {
      run = run;
      more = more.rest;
      is = cc;
      most = omega (arith, more.most);
      parts = more.parts;
      rest = record {
        runs = runs;
        cut = more.cut;
        kept = cc;
        size = omega (arith, length-append run more.rest);
      };
    }

pub HoldsMoves-uncons : (number many : ℕ) (first : Record) (records : List Record) (all : List Move) →
    HoldsMoves number many (first ∷ records) all → HoldsRunMore number many first records all
HoldsMoves-uncons number many first records all holds =
    uncons number many first records all holds.runs holds.cut holds.kept holds.size

pub one_run : (number : ℕ) (run next : List Move) → moves_record number run ≡ moves_record number next → run ≡ next
one_run number run next same =
    let parts : moves_part number run ≡ moves_part number next = cc in
    ap (λ (m : Moves). m.moves) parts

-- ---- gathering the moves of records, one record after the other

abbrev pub Forth : ℕ → ℕ → ℕ → List Record → List Record → List Move → Type 0
Forth number many left records rest gathered =
    (more : List Move) → HoldsMoves number left rest more → HoldsMoves number many records (gathered ++ more)

abbrev pub Back : ℕ → ℕ → ℕ → List Record → List Record → Type 0
Back number many left records rest =
    (all : List Move) → HoldsMoves number many records all → (more : List Move) × HoldsMoves number left rest more

-- A record that is not the next of the moves: the records hold no moves.
pub no_moves : (number many left : ℕ) (records : List Record) (i : ℕ) (first : Record) → i < length records →
    first ≡ get_or records i first →
    ((run : List Move) → first ≡ moves_record number run → length run ≡ min 60 left → ⊥) →
    Back number many left records (drop i records) → (all : List Move) → HoldsMoves number many records all → ⊥
no_moves number many left records i first below here not_next back all holds =
    let rest = back all holds in
    let next = HoldsMoves-uncons number left first (drop (i + 1) records) rest.0
    (subst (λ (rs : List Record). HoldsMoves number left rs rest.0) (drop_at records i first below here) rest.1) in
    not_next next.run next.is next.most

pub forth_more : (number many done done' : ℕ) (records : List Record) (i : ℕ) (first : Record)
    (run gathered gathered' : List Move) → i < length records → first ≡ get_or records i first →
    first ≡ moves_record number run → length run ≡ min 60 (many - done) → 1 ≤ many - done →
    done' ≡ done + length run → gathered' ≡ gathered ++ run →
    Forth number many (many - done) records (drop i records) gathered →
    Forth number many (many - done') records (drop (i + 1) records) gathered'
forth_more number many done done' records i first run gathered gathered' below here is most low sum front forth =
    λ more holds.
    let left : many - done' ≡ many - done - length run = omega arith in
    let longer = HoldsMoves-cons number (many - done) run more (drop (i + 1) records) low most
    (subst (λ (n : ℕ). HoldsMoves number n (drop (i + 1) records) more) left holds) in
    let list : moves_record number run ∷ drop (i + 1) records ≡ drop i records =
    ap (λ (r : Record). r ∷ drop (i + 1) records) (sym is) ∙ sym (drop_at records i first below here) in
    let all = forth (run ++ more)
    (subst (λ (rs : List Record). HoldsMoves number (many - done) rs (run ++ more)) list longer) in
    subst (λ (ms : List Move). HoldsMoves number many records ms)
    (sym (append_assoc gathered run more) ∙ ap (λ (ms : List Move). ms ++ more) (sym front)) all

pub back_more : (number many done done' : ℕ) (records : List Record) (i : ℕ) (first : Record) (run : List Move) →
    i < length records → first ≡ get_or records i first → first ≡ moves_record number run →
    done' ≡ done + length run →
    Back number many (many - done) records (drop i records) →
    Back number many (many - done') records (drop (i + 1) records)
back_more number many done done' records i first run below here is sum back = λ all holds.
    let rest = back all holds in
    let next = HoldsMoves-uncons number (many - done) first (drop (i + 1) records) rest.0
    (subst (λ (rs : List Record). HoldsMoves number (many - done) rs rest.0) (drop_at records i first below here)
    rest.1) in
    let same : length next.run ≡ length run = ap length (one_run number next.run run (sym next.is ∙ is)) in
    let left : many - done - length next.run ≡ many - done' = omega arith in
    (next.more, subst (λ (n : ℕ). HoldsMoves number n (drop (i + 1) records) next.more) left next.rest)

pub left_more : (many done done' i size : ℕ) (run : List Move) → ceiling (many - done) 60 + i ≡ size → i < size →
    length run ≡ min 60 (many - done) → done' ≡ done + length run →
    (done' ≤ many) × (ceiling (many - done') 60 + (i + 1) ≡ size)
left_more many done done' i size run left below most sum = (omega arith, omega arith)

pub all_moves : (number many done : ℕ) (records : List Record) (i : ℕ) (gathered : List Move) → length records ≤ i →
    ceiling (many - done) 60 + i ≡ length records → Forth number many (many - done) records (drop i records) gathered →
    HoldsMoves number many records gathered
all_moves number many done records i gathered past left forth =
    let none : drop i records ≡ [] = drop_of_length-le records past in
    let zero_left : 0 ≡ many - done = omega arith in
    let whole = forth []
    (subst (λ (rs : List Record). HoldsMoves number (many - done) rs []) (sym none)
    (subst (λ (n : ℕ). HoldsMoves number n [] []) zero_left (HoldsMoves-none number))) in
    subst (λ (ms : List Move). HoldsMoves number many records ms) (append-nil gathered) whole
